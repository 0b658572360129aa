use Rattle.region_core.specs.laws.Journals.{next_outcomes_are}
use Rattle.region_core.proofs.laws.next_outcomes_are_verdicts.Goals as goal

pub returns : goal.returns
returns c = next_outcomes_are
