use Rattle.std.proofs.Common.{◌≡◌, ◌≤◌, ◌+◌, ◌*◌, drop}
use Rattle.write_set.specs.declared.limits.TheConstants.{MAX_CHANGE_BYTES}
use Rattle.write_set.specs.Sizes.{change_size}
use Rattle.write_set.specs.inner.Nets.{gained, lost, once}
use Rattle.write_set.proofs.replacing.extent_after.Given as goal

-- what is left of the rows so far is counted, and what the set has of them; the others make up the rest
abbrev pub invariant-loop-row : goal.invariant-loop-row
invariant-loop-row l = record {
  rows_gained : l.rows_gained + gained once (drop l.row-index l.left) ≡ gained once l.left;
  rows_lost : l.rows_lost + lost once l.set (drop l.row-index l.left) ≡ lost once l.set l.left;
  bytes_gained : l.bytes_gained + gained change_size (drop l.row-index l.left) ≡ gained change_size l.left;
  bytes_lost : l.bytes_lost + lost change_size l.set (drop l.row-index l.left) ≡ lost change_size l.set l.left;
  few_gained : l.rows_gained ≤ l.row-index;
  few_lost : l.rows_lost ≤ l.row-index;
  small_gained : l.bytes_gained ≤ MAX_CHANGE_BYTES * l.row-index;
  small_lost : l.bytes_lost ≤ MAX_CHANGE_BYTES * l.row-index;
}
