use Rattle.std.proofs.Common.{[]}
use Rattle.geo_schema.specs.Schemas.{shown_only}
use Rattle.sql_exec.specs.Effects.{locked_table}
use Rattle.sql_exec.specs.laws.Applying.{new_rows_applied, puts_applied, removals_applied, touches_applied}
use Rattle.sql_exec.specs.laws.Inserted.{inserts_fit}
use Rattle.sql_exec.specs.laws.KeptRows.{deletes_are_there, touches_are_there}
use Rattle.sql_exec.specs.laws.Updated.{updates_fit}
use Rattle.sql_exec.proofs.laws.changes_can_be_applied.Goals as goal
use Rattle.write_set.specs.laws.Tables.{rises_overlay}

pub returns-clause-insert : goal.returns-clause-insert
returns-clause-insert c tables insert base own changes schema sound made =
    new_rows_applied tables insert.table base own changes
    (inserts_fit c.bound_values_are_of_their_columns_types.ensures.inserted tables insert base own changes schema sound made)

pub returns-clause-update : goal.returns-clause-update
returns-clause-update c tables update base own changes sound rows made =
    puts_applied tables update.table base own changes
    (updates_fit c.bound_values_are_of_their_columns_types.ensures.updated tables update base own changes sound rows made)

pub returns-clause-delete : goal.returns-clause-delete
returns-clause-delete c delete base own changes rises own_rises made =
    removals_applied (shown_only []) delete.table base own changes rises own_rises
    (deletes_are_there (shown_only []) delete base own changes (rises_overlay base own rises) made)

pub returns-clause-lock : goal.returns-clause-lock
returns-clause-lock c query base own lines touches rises own_rises made =
    touches_applied (shown_only []) (locked_table query.tables) base own touches
    (touches_are_there base own rises own_rises (shown_only []) query lines touches made)
