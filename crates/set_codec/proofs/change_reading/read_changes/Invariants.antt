use Rattle.std.proofs.Common.{◌≤◌, ◌-◌, length}
use Rattle.row_codec.specs.inner.Things.{ComesTo, things_at}
use Rattle.set_codec.specs.inner.Reading.{change_at, row_behind, last_row, changes_at}
use Rattle.set_codec.proofs.change_reading.read_changes.Given as goal

abbrev pub invariant-loop : goal.invariant-loop
invariant-loop l = record {
  within : l.next ≤ length l.bytes;
  so_far : ComesTo l.changes.items (changes_at l.format l.schema l.count l.bytes l.fn.at) (things_at (change_at l.format l.schema) row_behind (l.count - l.counter) (last_row l.changes.items) l.bytes l.next);
}
