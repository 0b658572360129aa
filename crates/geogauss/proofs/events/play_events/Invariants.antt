use Rattle.std.proofs.Common.{◌≡◌, ◌≤◌, take}
use Rattle.std.specs.Io.KnownBytes.{Appends}
use Rattle.geo_world.specs.inner.Standing.{StandsFor, region_count}
use Rattle.geo_world.specs.World.{World}
use Rattle.geo_world.specs.Play.{text_of, world_after}
use Rattle.geogauss.proofs.events.play_events.Given as goal

abbrev pub invariant-loop-event : goal.invariant-loop-event
invariant-loop-event g l = record {
  count : region_count l.world ≡ region_count l.fn.world;
  world : (w : World) → StandsFor w l.fn.world → StandsFor (world_after w (take l.event-index l.events)) l.world;
  gained : (w : World) → StandsFor w l.fn.world →
      Appends (g.K.Sink.written l.fn.out) (g.K.Sink.written l.out) (text_of w (take l.event-index l.events));
  later : g.K.Sink.faults l.fn.out ≤ g.K.Sink.faults l.out;
}
