use Rattle.std.proofs.Common.{vec_len}
use Rattle.std.specs.Prelude.{All}
use Rattle.claim_rule.specs.inner.Trial.{Plays}
use Rattle.claim_rule.proofs.tests.together.Given as goal

abbrev pub invariant-loop-other : goal.invariant-loop-other
invariant-loop-other l = Plays l.table l.seat × All (Plays l.table) l.seats.items

abbrev pub decreases-loop-other : goal.decreases-loop-other
decreases-loop-other l = vec_len l.seats
