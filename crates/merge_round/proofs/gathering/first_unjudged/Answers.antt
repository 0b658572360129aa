use Rattle.std.proofs.Common.{None, sym, ◌∙◌}
use Rattle.merge_round.proofs.Outcomes.{one_more}
use Rattle.merge_round.proofs.gathering.first_unjudged.Goals as goal

pub loop-number-preserved : goal.loop-number-preserved
loop-number-preserved c = one_more c.args.verdicts.now c.loop-number.number c.in-Some-Some.field-0-0 c.loop-number.invariant (sym (c.in-Some-Some.ensures.lookup.3.1 None) ∙ c.in-Some-Some.field-0-is)
