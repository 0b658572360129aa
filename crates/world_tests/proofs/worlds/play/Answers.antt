-- A step leads from some world to another.
use Rattle.geo_world.specs.Step.{step}
use Rattle.world_tests.proofs.worlds.play.Goals as goal

pub returns-clause-stands : goal.returns-clause-stands
returns-clause-stands c = ((step c.requires.stands.0 c.args.event).world, c.in_ok-lines.ensures.world c.requires.stands.0 c.requires.stands.1)
