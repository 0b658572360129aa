use Rattle.std.proofs.Common.{arith}
use Rattle.geo_world.proofs.Played.{played-few_seals, played-not_last}
use Rattle.geo_world.proofs.laws.few_seals.Goals as goal

pub returns-clause-sealed : goal.returns-clause-sealed
returns-clause-sealed c regions last events w region play = played-few_seals regions last events w play region

pub returns-clause-not_last : goal.returns-clause-not_last
returns-clause-not_last c regions last events w region play few = played-not_last regions last events w play region (omega arith)
