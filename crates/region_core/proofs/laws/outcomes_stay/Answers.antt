use Rattle.region_core.specs.laws.Rounds as laws
use Rattle.region_core.proofs.laws.outcomes_stay.Goals as goal

pub returns-clause-next : goal.returns-clause-next
returns-clause-next c = laws.whole_stays

pub returns-clause-judged : goal.returns-clause-judged
returns-clause-judged c = laws.outcomes_stay
