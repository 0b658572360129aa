use Rattle.std.proofs.Common.{◌≡◌, filter_map}
use Rattle.geo_world.specs.inner.Regions.{Gathers, next_batch_of}
use Rattle.geo_world.specs.Step.{numbers_below}
use Rattle.geo_world.proofs.region.Region.gather.Given as goal

-- the batches of the regions so far are gathered, and have left the inbox
abbrev pub invariant-loop-of : goal.invariant-loop-of
invariant-loop-of l = record {
  batches : l.batches.items ≡ filter_map (next_batch_of l.fn.self l.number l.epoch) (numbers_below l.of);
  kept : Gathers l.of l.number l.epoch l.fn.self l.self;
}
