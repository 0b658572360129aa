use Rattle.geo_world.proofs.Played.{later-extends, later-publishes_on, later-rows}
use Rattle.geo_world.proofs.laws.journals_grow.Goals as goal

pub returns-clause-journals : goal.returns-clause-journals
returns-clause-journals c regions last events more w play within = later-extends regions last events w play more within

pub returns-clause-published : goal.returns-clause-published
returns-clause-published c regions last events more w region play within = later-publishes_on regions last events w play more within region

pub returns-clause-rows : goal.returns-clause-rows
returns-clause-rows c regions last events more w r q play within h same = later-rows regions last events w play more within r q h same
