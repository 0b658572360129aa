use Rattle.std.proofs.Common.{take}
use Rattle.row_codec.specs.Spelling.{AreCells}
use Rattle.region_core.proofs.cells.see_cells.Given as goal

abbrev pub invariant-loop-cell : goal.invariant-loop-cell
invariant-loop-cell l = AreCells (take l.cell-index l.cells)
