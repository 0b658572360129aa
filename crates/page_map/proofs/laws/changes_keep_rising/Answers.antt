use Rattle.page_map.specs.laws.Orders.{rising_put, rising_without}
use Rattle.page_map.proofs.laws.changes_keep_rising.Goals as goal

pub returns-clause-put : goal.returns-clause-put
returns-clause-put g c = rising_put

pub returns-clause-taken : goal.returns-clause-taken
returns-clause-taken g c = rising_without
