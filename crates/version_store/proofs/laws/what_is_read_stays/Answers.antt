use Rattle.version_store.specs.laws.Keeping.{earlier_stay, next_is_read, unchanged_is_read, newest_is_read, newest_is_told, later_stay}
use Rattle.version_store.proofs.laws.what_is_read_stays.Goals as goal

pub returns-clause-earlier : goal.returns-clause-earlier
returns-clause-earlier c committed old new row epoch step within = earlier_stay committed old new row step epoch within

pub returns-clause-next : goal.returns-clause-next
returns-clause-next c committed old new row lawful step = next_is_read committed old new row step lawful

pub returns-clause-unchanged : goal.returns-clause-unchanged
returns-clause-unchanged c committed old new row lawful step none = unchanged_is_read committed old new row step lawful none

pub returns-clause-newest : goal.returns-clause-newest
returns-clause-newest c = newest_is_read

pub returns-clause-change : goal.returns-clause-change
returns-clause-change c = newest_is_told

pub returns-clause-trimmed : goal.returns-clause-trimmed
returns-clause-trimmed c = later_stay
