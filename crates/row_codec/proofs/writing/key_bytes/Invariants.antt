use Rattle.std.proofs.Common.{◌≡◌, ◌++◌, length, take}
use Rattle.row_codec.specs.Spelling.{cells_spelling, AreCells}
use Rattle.row_codec.proofs.writing.key_bytes.Given as goal

abbrev pub invariant-loop-cell : goal.invariant-loop-cell
invariant-loop-cell l = record {
  so_far : l.out.items ≡ l.fn.out.items ++ cells_spelling (take l.cell-index l.cells);
  readable : AreCells (take l.cell-index l.cells);
  start : l.before ≡ length l.fn.out.items;
}
