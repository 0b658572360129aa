-- At a place stands one cell or the bytes have one fault, and no spelling begins another.
use Rattle.std.specs.Prelude.{◌≡◌, ℕ, List, ◌++◌, length}
use Rattle.geo_base.specs.declared.cell.Cell.{Cell}
use Rattle.geo_base.specs.Results.{OneAnswer}
use Rattle.row_codec.specs.Faults.{IsFaultAt, IsFaultOfCells}
use Rattle.row_codec.specs.Places.{AreBytes}
use Rattle.row_codec.specs.Spelling.{cell_spelling, cells_spelling, IsCell, AreCells, CellStands, CellsStand}

-- at each place of bytes stands one cell, or they have one fault there
abbrev pub OneCellOrFault : Type 0
OneCellOrFault = (bytes : List ℕ) (at : ℕ) → AreBytes bytes → OneAnswer (CellStands bytes at) (IsFaultAt bytes at)

-- the same for so many cells one after another
abbrev pub SoManyCellsOrFault : Type 0
SoManyCellsOrFault = (bytes : List ℕ) (at count : ℕ) → AreBytes bytes → OneAnswer (λ x. (length x.0 ≡ count) × CellsStand bytes at x) (IsFaultOfCells bytes at count)

-- where the spellings of two cells begin the same bytes, the cells are one and so is what follows
abbrev pub NoCellBeginsAnother : Type 0
NoCellBeginsAnother = (a b : Cell) (after_a after_b : List ℕ) → IsCell a → IsCell b → cell_spelling a ++ after_a ≡ cell_spelling b ++ after_b → (a ≡ b) × (after_a ≡ after_b)

-- the same for two lists of equally many cells
abbrev pub NoCellsBeginOthers : Type 0
NoCellsBeginOthers = (a b : List Cell) (after_a after_b : List ℕ) → AreCells a → AreCells b → length a ≡ length b → cells_spelling a ++ after_a ≡ cells_spelling b ++ after_b
    → (a ≡ b) × (after_a ≡ after_b)
