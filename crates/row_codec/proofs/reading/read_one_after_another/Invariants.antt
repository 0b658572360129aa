use Rattle.std.proofs.Common.{◌≤◌, ◌-◌, length}
use Rattle.row_codec.specs.inner.Reading.{cells_at}
use Rattle.row_codec.specs.inner.Things.{ComesTo}
use Rattle.row_codec.proofs.reading.read_one_after_another.Given as goal

abbrev pub invariant-loop : goal.invariant-loop
invariant-loop l = record {
  within : l.next ≤ length l.bytes;
  so_far : ComesTo l.cells.items (cells_at l.bytes l.fn.at l.count) (cells_at l.bytes l.next (l.count - l.counter));
}
