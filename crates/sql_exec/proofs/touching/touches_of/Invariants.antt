-- the touches so far
use Rattle.std.proofs.Common.{◌≡◌, map, take}
use Rattle.sql_exec.specs.inner.Naming.{name_in}
use Rattle.sql_exec.specs.inner.Touching.{touches_by}
use Rattle.sql_exec.proofs.touching.touches_of.Given as goal

abbrev pub invariant-loop-row : goal.invariant-loop-row
invariant-loop-row g l = l.touches.items ≡ touches_by (g.R.RowSource.base l.source) l.own (map (name_in l.schema l.table) (map (λ row. row.now) (take l.row-index l.rows)))
