use Rattle.std.proofs.Common.{◌≡◌}
use Rattle.log_tests.proofs.arrivals.batches_are_told_what_becomes_of_them.Given as goal

-- the inbox is for three regions
abbrev pub invariant-loop-line : goal.invariant-loop-line
invariant-loop-line g l = l.inbox.regions ≡ 3
