use Rattle.std.proofs.Common.{◌≡◌, ◌≤◌, ◌+◌, ◌*◌, drop, sum_by}
use Rattle.write_set.specs.declared.limits.TheConstants.{MAX_CHANGE_BYTES}
use Rattle.write_set.specs.Sizes.{change_size}
use Rattle.write_set.proofs.size.changes_size.Given as goal

-- the changes so far are counted, and those that are left make up the rest
abbrev pub invariant-loop-row : goal.invariant-loop-row
invariant-loop-row l = record {
  size : l.size + sum_by change_size (drop l.row-index l.changes) ≡ sum_by change_size l.changes;
  few : l.size ≤ MAX_CHANGE_BYTES * l.row-index;
}
