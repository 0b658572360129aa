-- the columns so far are bound
use Rattle.std.proofs.Common.{◌≡◌, [], drop}
use Rattle.sql_bind.specs.Selects.{group_behind}
use Rattle.sql_bind.proofs.select.group_of.Given as goal

abbrev pub invariant-loop-column : goal.invariant-loop-column
invariant-loop-column l =
    group_behind l.schema l.scope l.group.items (drop l.column-index l.columns) ≡ group_behind l.schema l.scope [] l.columns
