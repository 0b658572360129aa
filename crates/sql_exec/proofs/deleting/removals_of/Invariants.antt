-- the removals so far
use Rattle.std.proofs.Common.{◌≡◌, map, take}
use Rattle.sql_exec.specs.inner.Naming.{name_in}
use Rattle.sql_exec.specs.inner.Removing.{removals_by}
use Rattle.sql_exec.proofs.deleting.removals_of.Given as goal

abbrev pub invariant-loop-row : goal.invariant-loop-row
invariant-loop-row g l = l.removals.items ≡ removals_by (g.R.RowSource.base l.source) (map (name_in l.schema l.table) (map (λ row. row.now) (take l.row-index l.rows)))
