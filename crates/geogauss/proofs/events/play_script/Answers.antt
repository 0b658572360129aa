use Rattle.geo_world.specs.World.{first_world}
use Rattle.geogauss.proofs.PlayLemmas.{StoppedAfter-none}
use Rattle.geogauss.proofs.events.play_script.Goals as goal

pub returns-in_default-clause-played : goal.returns-in_default-clause-played
returns-in_default-clause-played g c = StoppedAfter-none _ _ _

pub play_events-requires-clause-stands : goal.play_events-requires-clause-stands
play_events-requires-clause-stands g c = (first_world c.args.script.now.regions c.args.last, c.in-Ok.ensures.first)
