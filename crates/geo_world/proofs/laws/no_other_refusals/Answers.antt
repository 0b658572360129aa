use Rattle.geo_world.proofs.Played.{played-sound, played-within}
use Rattle.geo_world.proofs.Spared.{not_too_old, not_full, not_far}
use Rattle.geo_world.proofs.laws.no_other_refusals.Goals as goal

pub returns-clause-too_old : goal.returns-clause-too_old
returns-clause-too_old c regions last events w region play h =
    not_too_old w region (played-sound regions last events w play) (played-within regions last events w play region h)

pub returns-clause-full : goal.returns-clause-full
returns-clause-full c regions last events w region session key value play h few idle =
    not_full w region session key value (played-sound regions last events w play) (played-within regions last events w play region h) few idle

pub returns-clause-far : goal.returns-clause-far
returns-clause-far c regions last events w packet to region epoch play sent =
    not_far w packet to region epoch (played-sound regions last events w play) sent
