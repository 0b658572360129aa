-- no column so far is at fault
use Rattle.std.proofs.Common.{◌≡◌, drop}
use Rattle.geo_schema.specs.inner.Rows.{cells_fault}
use Rattle.geo_schema.proofs.row_rule.row_fault.Given as goal

abbrev pub invariant-loop-place : goal.invariant-loop-place
invariant-loop-place l =
    cells_fault l.table.key 0 l.columns l.cells ≡ cells_fault l.table.key l.place (drop l.place l.columns) (drop l.place l.cells)
