use Rattle.region_core.specs.laws.Standings.{stands_after, stands_after_all}
use Rattle.region_core.proofs.laws.entries_keep_standings.Goals as goal

pub returns-clause-entry : goal.returns-clause-entry
returns-clause-entry c = stands_after

pub returns-clause-history : goal.returns-clause-history
returns-clause-history c = stands_after_all
