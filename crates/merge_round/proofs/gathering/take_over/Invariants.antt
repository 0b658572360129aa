use Rattle.merge_round.specs.inner.Gathering.{TakesOverTo}
use Rattle.merge_round.proofs.gathering.take_over.Given as goal

abbrev pub invariant-loop-number : goal.invariant-loop-number
invariant-loop-number l = TakesOverTo l.number l.fn.verdicts l.others l.verdicts
