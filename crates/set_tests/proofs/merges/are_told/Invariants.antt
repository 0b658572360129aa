use Rattle.std.proofs.Common.{◌≡◌}
use Rattle.set_tests.proofs.merges.are_told.Given as goal

-- each epoch leaves the merge one of two regions
abbrev pub invariant-loop-epoch : goal.invariant-loop-epoch
invariant-loop-epoch l = l.plain.regions ≡ 2
