-- the sum so far, and behind it that of the cells that are left, is the whole sum; and it is no further from 0 than so many
-- numbers can lead
use Rattle.std.proofs.Common.{◌≡◌, ◌*◌, ◌^◌, drop, map, pos, ◌+ℤ◌, neg_ℤ, ◌≤ℤ◌}
use Rattle.group_exec.specs.Groups.{sum_of}
use Rattle.group_exec.proofs.aggregates.whole_sum.Given as goal

abbrev pub invariant-loop-cell : goal.invariant-loop-cell
invariant-loop-cell l =
    ((l.total +ℤ sum_of (map (λ cell. cell.now) (drop l.cell-index l.cells))) ≡ sum_of (map (λ cell. cell.now) l.cells))
    × (neg_ℤ (pos (2 ^ 63 * l.cell-index)) ≤ℤ l.total) × (l.total ≤ℤ pos (2 ^ 63 * l.cell-index))
