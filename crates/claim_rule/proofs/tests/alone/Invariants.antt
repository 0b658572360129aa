use Rattle.claim_rule.specs.inner.Trial.{IsClaiming, IsJudging}
use Rattle.claim_rule.proofs.tests.alone.Given as goal

abbrev pub invariant-loop-expected : goal.invariant-loop-expected
invariant-loop-expected l = IsClaiming l.table l.seat

abbrev pub invariant-loop-expected-2 : goal.invariant-loop-expected-2
invariant-loop-expected-2 l = IsJudging l.table l.seat
