use Rattle.std.proofs.Common.{◌≡◌, ◌-◌, string_bytes}
use Rattle.geo_world.specs.World.{World}
use Rattle.geo_world.specs.Step.{deliver}
use Rattle.geo_world.specs.inner.Standing.{StandsFor, Makes, region_count}
use Rattle.geo_world.proofs.world.World.deliver.Given as goal

-- the packets so far are delivered
abbrev pub invariant-loop-packet : goal.invariant-loop-packet
invariant-loop-packet l = record {
  count : region_count l.self ≡ region_count l.fn.self;
  made : (w : World) → StandsFor w l.fn.self → Makes (deliver (l.packet - l.first) l.first w) (string_bytes l.fn.out) (string_bytes l.out) l.self;
}
