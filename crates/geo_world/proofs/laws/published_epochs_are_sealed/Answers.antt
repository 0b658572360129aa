use Rattle.geo_world.proofs.Played.{played-published}
use Rattle.geo_world.proofs.laws.published_epochs_are_sealed.Goals as goal

pub returns-clause-by_all : goal.returns-clause-by_all
returns-clause-by_all c regions last events w region play h = (played-published regions last events w play region h).0

pub returns-clause-by_itself : goal.returns-clause-by_itself
returns-clause-by_itself c regions last events w region play h = (played-published regions last events w play region h).1
