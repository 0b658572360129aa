use Rattle.write_set.specs.laws.Isolating.{is_isolated}
use Rattle.geo_world.proofs.Played.{played-sound}
use Rattle.geo_world.proofs.laws.plays_are_isolated.Goals as goal

pub returns-clause-lawful : goal.returns-clause-lawful
returns-clause-lawful c regions last events w play = (played-sound regions last events w play).lawful

pub returns-clause-isolated : goal.returns-clause-isolated
returns-clause-isolated c regions last events w play = is_isolated w.journal (played-sound regions last events w play).lawful
