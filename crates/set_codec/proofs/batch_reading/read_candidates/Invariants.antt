use Rattle.std.proofs.Common.{◌≤◌, ◌-◌, length}
use Rattle.row_codec.specs.inner.Things.{ComesTo}
use Rattle.set_codec.specs.inner.Reading.{candidates_at}
use Rattle.set_codec.proofs.batch_reading.read_candidates.Given as goal

abbrev pub invariant-loop : goal.invariant-loop
invariant-loop l = record {
  within : l.next ≤ length l.bytes;
  so_far : ComesTo l.items.items (candidates_at l.format l.schema l.epoch l.count l.bytes l.fn.at) (candidates_at l.format l.schema l.epoch (l.count - l.counter) l.bytes l.next);
}
