use Rattle.std.proofs.Common.{◌≡◌}
use Rattle.log_tests.proofs.arrivals.a_known_batch_leaves_the_held_one.Given as goal

-- the inbox is for three regions
abbrev pub invariant-loop-line : goal.invariant-loop-line
invariant-loop-line g l = l.inbox.regions ≡ 3
