-- The one spelling of each cell, and where it stands in bytes.
use Rattle.std.specs.Prelude.{ℕ, List, [], ◌∷◌, ◌++◌, length, true, false, FitsSigned}
use Rattle.std.specs.List.{flat_map, AllByRecursion}
use Rattle.std.specs.Int.{w16, w64, to_be_bytes, cast_unsigned}
use Rattle.geo_base.specs.Cells.{IsText}
use Rattle.geo_base.specs.declared.cell.Cell.{Cell}
use Rattle.geo_base.specs.declared.cell.Cell.TheVariants.{Null, Int, Text, Truth}
use Rattle.row_codec.specs.Places.{StandsAt}

-- a tag; behind it a number's 8 bytes in two's complement, or a text's length in 2 bytes and the text
abbrev pub cell_spelling : Cell → List ℕ
cell_spelling Null = 0 ∷ []
cell_spelling (Int x) = 1 ∷ to_be_bytes w64 (cast_unsigned w64 x)
cell_spelling (Text x) = 2 ∷ (to_be_bytes w16 (length x) ++ x)
cell_spelling (Truth false) = 3 ∷ []
cell_spelling (Truth true) = 4 ∷ []

-- one cell after another, with nothing between them
abbrev pub cells_spelling : List Cell → List ℕ
cells_spelling = flat_map cell_spelling

-- a cell of the program: its number has 64 bits, its text is a text
abbrev pub IsCell : Cell → Type 0
IsCell Null = Unit {0}
IsCell (Int x) = FitsSigned w64 x
IsCell (Text x) = IsText x
IsCell (Truth x) = Unit {0}

-- each of them is a cell of the program
abbrev pub AreCells : List Cell → Type 0
AreCells cells = AllByRecursion IsCell cells

-- a cell of the program stands at the place in its spelling
abbrev pub CellStands : List ℕ → ℕ → Cell × ℕ → Type 0
CellStands bytes at x = IsCell x.0 × StandsAt (cell_spelling x.0) bytes at x.1

-- such cells stand there one after another
abbrev pub CellsStand : List ℕ → ℕ → List Cell × ℕ → Type 0
CellsStand bytes at x = AreCells x.0 × StandsAt (cells_spelling x.0) bytes at x.1
