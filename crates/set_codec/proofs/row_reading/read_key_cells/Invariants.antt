use Rattle.std.proofs.Common.{◌≡◌, ◌≤◌, ◌+◌, ◌-◌, length, get_or}
use Rattle.row_codec.specs.inner.Things.{ComesTo, things_at}
use Rattle.set_codec.specs.inner.Reading.{taken_at, key_at}
use Rattle.set_codec.proofs.row_reading.read_key_cells.Given as goal

abbrev pub invariant-loop-place : goal.invariant-loop-place
invariant-loop-place l = record {
  within : l.next ≤ length l.bytes;
  len : length l.cells.items ≡ l.place-index;
  so_far : ComesTo l.cells.items (key_at l.table l.bytes l.fn.at) (things_at (λ i. taken_at l.table (get_or l.table.key i 0)) (λ i _. i + 1) (length l.table.key - l.place-index) l.place-index l.bytes l.next);
}
