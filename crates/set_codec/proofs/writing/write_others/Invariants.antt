use Rattle.std.proofs.Common.{◌≡◌, ◌++◌, drop}
use Rattle.row_codec.specs.Spelling.{cells_spelling, AreCells}
use Rattle.set_codec.specs.Spelling.{other_cells}
use Rattle.set_codec.proofs.writing.write_others.Given as goal

-- the spellings so far and those of the cells that are left are all
abbrev pub invariant-loop-place : goal.invariant-loop-place
invariant-loop-place l = record {
  so_far : l.out.items ++ cells_spelling (other_cells l.key l.place (drop l.place l.cells)) ≡ l.fn.out.items ++ cells_spelling (other_cells l.key 0 l.cells);
  readable : AreCells (other_cells l.key l.place (drop l.place l.cells)) → AreCells (other_cells l.key 0 l.cells);
}
