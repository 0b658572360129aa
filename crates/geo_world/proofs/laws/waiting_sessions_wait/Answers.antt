use Rattle.geo_world.proofs.Played.{more_within}
use Rattle.geo_world.proofs.Waiting.{after-waits}
use Rattle.geo_world.proofs.laws.waiting_sessions_wait.Goals as goal

pub returns : goal.returns
returns c regions last events more w region session ticket play within waits =
    after-waits more w (more_within regions last events w play more within) region session ticket waits
