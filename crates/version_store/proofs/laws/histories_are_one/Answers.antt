use Rattle.version_store.specs.laws.Sameness.{same_kept, same_history}
use Rattle.version_store.proofs.laws.histories_are_one.Goals as goal

pub returns-clause-chains : goal.returns-clause-chains
returns-clause-chains c = same_kept

pub returns-clause-journal : goal.returns-clause-journal
returns-clause-journal c = same_history
