use Rattle.version_store.specs.laws.Growing.{begins, applied, trimmed, stays}
use Rattle.version_store.proofs.laws.histories_go_on.Goals as goal

pub returns-clause-begins : goal.returns-clause-begins
returns-clause-begins c = begins

pub returns-clause-applied : goal.returns-clause-applied
returns-clause-applied c = applied

pub returns-clause-trimmed : goal.returns-clause-trimmed
returns-clause-trimmed c = trimmed

pub returns-clause-stays : goal.returns-clause-stays
returns-clause-stays c = stays
