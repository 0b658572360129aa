use Rattle.std.proofs.Common.{◌≡◌, ◌≤◌, ◌+◌, min, drop, sum_by}
use Rattle.write_set.specs.BatchSizes.{candidate_size}
use Rattle.set_codec.proofs.size.candidates_size.Given as goal

abbrev pub invariant-loop-item : goal.invariant-loop-item
invariant-loop-item l = record {
  size : min (l.size + sum_by candidate_size (drop l.item-index l.items)) 18446744073709551615 ≡ min (sum_by candidate_size l.items) 18446744073709551615;
  few : l.size ≤ 18446744073709551615;
}
