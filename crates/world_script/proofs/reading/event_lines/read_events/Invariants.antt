use Rattle.std.proofs.Common.{◌+◌, ◌≤◌, length, vec_len}
use Rattle.world_script.specs.inner.Reading.{HasEvents}
use Rattle.world_script.proofs.reading.event_lines.read_events.Given as goal

abbrev pub invariant-loop-rest : goal.invariant-loop-rest
invariant-loop-rest l = record {
  read : HasEvents l.regions l.text l.events.items l.rest;
  few : vec_len l.events + length l.rest ≤ length l.text;
}

abbrev pub decreases-loop-rest : goal.decreases-loop-rest
decreases-loop-rest l = length l.rest
