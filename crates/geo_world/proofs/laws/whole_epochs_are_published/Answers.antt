use Rattle.std.proofs.Common.{◌+◌, ap, ◌∙◌}
use Rattle.geo_world.specs.World.{RegionState, region_of}
use Rattle.geo_world.specs.Step.{Stepped}
use Rattle.geo_world.proofs.SoundRegions.{state-set_same}
use Rattle.geo_world.proofs.Answering.{publish-whole, publish-waits}
use Rattle.geo_world.proofs.Played.{played-within}
use Rattle.geo_world.proofs.laws.whole_epochs_are_published.Goals as goal

pub returns-clause-published : goal.returns-clause-published
returns-clause-published c regions last events w region play all = ap (λ (t : Stepped). t.lines) (publish-whole w region all)

pub returns-clause-moves_on : goal.returns-clause-moves_on
returns-clause-moves_on c regions last events w region play h all =
    ap (λ (t : Stepped). (region_of t.world region).published) (publish-whole w region all)
    ∙ ap (λ (state : RegionState). state.published)
    (state-set_same w.regions region (record (region_of w region) { published = (region_of w region).published + 1 })
    (played-within regions last events w play region h))

pub returns-clause-waits : goal.returns-clause-waits
returns-clause-waits c regions last events w region q play h lacks =
    ap (λ (t : Stepped). t.lines) (publish-waits w region q (played-within regions last events w play q h) lacks)

pub returns-clause-stays : goal.returns-clause-stays
returns-clause-stays c regions last events w region q play h lacks =
    ap (λ (t : Stepped). t.world) (publish-waits w region q (played-within regions last events w play q h) lacks)
