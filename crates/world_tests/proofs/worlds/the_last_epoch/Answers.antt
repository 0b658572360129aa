-- The first world stands.
use Rattle.geo_world.specs.World.{first_world}
use Rattle.world_tests.proofs.worlds.the_last_epoch.Goals as goal

pub play-requires-clause-stands : goal.play-requires-clause-stands
play-requires-clause-stands g c = (first_world 2 2, c.in_ok-world.ensures.first)
