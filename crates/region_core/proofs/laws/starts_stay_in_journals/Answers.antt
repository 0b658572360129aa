use Rattle.region_core.specs.laws.Journals.{starts_stay}
use Rattle.region_core.proofs.laws.starts_stay_in_journals.Goals as goal

pub returns : goal.returns
returns c = starts_stay
