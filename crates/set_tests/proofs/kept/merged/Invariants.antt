use Rattle.std.proofs.Common.{◌≡◌}
use Rattle.set_tests.proofs.kept.merged.Given as goal

-- each epoch leaves the merge one of two regions
abbrev pub invariant-loop : goal.invariant-loop
invariant-loop l = l.plain.regions ≡ 2
