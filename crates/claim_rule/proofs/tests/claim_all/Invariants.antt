use Rattle.std.proofs.Common.{◌-◌, ◌<◌, length}
use Rattle.claim_rule.specs.Seats.{view_of}
use Rattle.claim_rule.specs.inner.Trial.{Plays, IsAsLate}
use Rattle.claim_rule.proofs.tests.claim_all.Given as goal

abbrev pub invariant-loop-piece : goal.invariant-loop-piece
invariant-loop-piece l = Plays l.table l.seat × IsAsLate l.fn.seat l.seat × (length (view_of l.seat).claiming.late < (view_of l.seat).shares)

abbrev pub decreases-loop-piece : goal.decreases-loop-piece
decreases-loop-piece l = 3 - length (view_of l.seat).claiming.numbers
