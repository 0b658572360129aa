use Rattle.std.proofs.Common.{◌≡◌}
use Rattle.sql_exec.specs.Changes.{IsPut}
use Rattle.sql_exec.specs.Effects.{delete_changes, insert_changes, lock_changes, locked_table, update_changes}
use Rattle.sql_exec.specs.laws.Inserted.{inserts_fit}
use Rattle.sql_exec.specs.laws.KeptRows.{deletes_are_there, touches_are_there}
use Rattle.sql_exec.specs.laws.OwnNets.{changes_stay, done_by, locked_by, none_done, puts_stay}
use Rattle.sql_exec.specs.laws.Updated.{updates_fit}
use Rattle.sql_exec.proofs.laws.own_nets_stay_own_nets.Goals as goal
use Rattle.write_set.specs.declared.change.Change.TheVariants.{Remove, Touch}

pub returns-clause-begin : goal.returns-clause-begin
returns-clause-begin c = none_done

pub returns-clause-insert : goal.returns-clause-insert
returns-clause-insert c tables insert base own changed net schema sound before done =
    let made = done_by own (insert_changes tables insert base own) changed net done in
    puts_stay tables base own before insert.table made.0 net made.2
    (inserts_fit c.bound_values_are_of_their_columns_types.ensures.inserted tables insert base own made.0 schema sound made.1)

pub returns-clause-update : goal.returns-clause-update
returns-clause-update c tables update base own changed net sound before done =
    let made = done_by own (update_changes tables update base own) changed net done in
    changes_stay tables base own before update.table made.0 net made.2 IsPut
    (updates_fit c.bound_values_are_of_their_columns_types.ensures.updated tables update base own made.0 sound before.rows made.1)

pub returns-clause-delete : goal.returns-clause-delete
returns-clause-delete c tables delete base own changed net before done =
    let made = done_by own (delete_changes delete base own) changed net done in
    changes_stay tables base own before delete.table made.0 net made.2 (λ change. change ≡ Remove)
    (deletes_are_there tables delete base own made.0 before.rows.rising made.1)

pub returns-clause-lock : goal.returns-clause-lock
returns-clause-lock c tables query base own lines net before done =
    let made = locked_by own (lock_changes query base own) lines net done in
    changes_stay tables base own before (locked_table query.tables) made.0.1 net made.2 (λ change. change ≡ Touch)
    (touches_are_there base own before.base_rising before.rising tables query made.0.0 made.0.1 made.1).rows
