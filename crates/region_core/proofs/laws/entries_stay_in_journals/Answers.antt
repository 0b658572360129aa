use Rattle.region_core.specs.laws.Journals.{published_stays, entries_stay}
use Rattle.region_core.proofs.laws.entries_stay_in_journals.Goals as goal

pub returns-clause-published : goal.returns-clause-published
returns-clause-published c = published_stays

pub returns-clause-region : goal.returns-clause-region
returns-clause-region c = entries_stay
