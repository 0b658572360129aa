use Rattle.std.proofs.Common.{◌≡◌, ◌≤◌, ◌+◌, ◌*◌, drop, sum_by}
use Rattle.write_set.specs.declared.limits.TheConstants.{MAX_CELL_BYTES}
use Rattle.write_set.specs.Sizes.{cell_size}
use Rattle.write_set.proofs.size.cells_size.Given as goal

-- the cells so far are counted, and those that are left make up the rest
abbrev pub invariant-loop-cell : goal.invariant-loop-cell
invariant-loop-cell l = record {
  size : l.size + sum_by cell_size (drop l.cell-index l.cells) ≡ sum_by cell_size l.cells;
  few : l.size ≤ MAX_CELL_BYTES * l.cell-index;
}
