use Rattle.std.proofs.Common.{◌≡◌, ◌+◌, ◌<◌, ◌^◌, length}
use Rattle.geo_script.specs.inner.Answers.{spoken}
use Rattle.geo_script.specs.inner.Scripts.{behind, events_of}
use Rattle.geo_script.proofs.reading.events.read_rest.Given as goal

abbrev pub invariant-loop-next : goal.invariant-loop-next
invariant-loop-next l = record {
  read : behind l.initial.events.items (events_of l.form l.regions l.initial.past (spoken l.fn.rest)) ≡ behind l.events.items (events_of l.form l.regions l.past (spoken l.ahead));
  room : l.ahead.number + length l.ahead.bytes.now < 2 ^ 32;
}

abbrev pub decreases-loop-next : goal.decreases-loop-next
decreases-loop-next l = length l.ahead.bytes.now
