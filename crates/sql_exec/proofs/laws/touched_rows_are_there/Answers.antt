use Rattle.std.proofs.Common.{[]}
use Rattle.geo_schema.specs.Schemas.{shown_only}
use Rattle.sql_exec.specs.Effects.{locked_table}
use Rattle.sql_exec.specs.laws.KeptRows.{touches_are_there, touches_taken}
use Rattle.sql_exec.proofs.laws.touched_rows_are_there.Goals as goal

pub returns-clause-there : goal.returns-clause-there
returns-clause-there c tables query base own lines touches rises own_rises = touches_are_there base own rises own_rises tables query lines touches

pub returns-clause-taken : goal.returns-clause-taken
returns-clause-taken c query base own lines touches rises own_rises h =
    touches_taken base own rises own_rises (shown_only []) (locked_table query.tables) touches
    (touches_are_there base own rises own_rises (shown_only []) query lines touches h)
