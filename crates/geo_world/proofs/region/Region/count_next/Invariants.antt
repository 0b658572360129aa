use Rattle.std.proofs.Common.{◌≡◌, ◌≤◌, count_by}
use Rattle.geo_world.specs.inner.Regions.{has_next}
use Rattle.geo_world.specs.Step.{numbers_below}
use Rattle.geo_world.proofs.region.Region.count_next.Given as goal

-- the regions so far are counted
abbrev pub invariant-loop-of : goal.invariant-loop-of
invariant-loop-of l = record { few : l.have ≤ l.of; counted : l.have ≡ count_by (has_next l.self l.number l.epoch) (numbers_below l.of) }
