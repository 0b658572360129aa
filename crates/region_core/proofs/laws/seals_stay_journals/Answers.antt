use Rattle.region_core.specs.laws.Journals.{seals_stay}
use Rattle.region_core.proofs.laws.seals_stay_journals.Goals as goal

pub returns : goal.returns
returns c = seals_stay
