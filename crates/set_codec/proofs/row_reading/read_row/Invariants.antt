use Rattle.std.proofs.Common.{◌≡◌, ◌≤◌, ◌+◌, ◌-◌, length}
use Rattle.row_codec.specs.inner.Things.{ComesTo, things_at}
use Rattle.set_codec.specs.inner.Reading.{next_cell_at, row_at}
use Rattle.set_codec.proofs.row_reading.read_row.Given as goal

abbrev pub invariant-loop-place : goal.invariant-loop-place
invariant-loop-place l = record {
  within : l.next ≤ length l.bytes;
  len : length l.row.items ≡ l.place;
  so_far : ComesTo l.row.items (row_at l.table l.key l.bytes l.fn.at) (things_at (next_cell_at l.table l.key) (λ i _. i + 1) (length l.table.columns - l.place) l.place l.bytes l.next);
}
