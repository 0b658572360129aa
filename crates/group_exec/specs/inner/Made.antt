-- What is made of rows, as the definitions have it.
use Rattle.std.specs.Prelude.{Option, Some, None, List, []}
use denote.Ref.{Bor}
use Rattle.geo_base.specs.declared.cell.Cell.{Cell}
use Rattle.row_source.specs.Matches.{pair_cells, right_cells}
use Rattle.row_source.specs.declared.pair.Pair.{Pair}
use Rattle.group_exec.specs.Groups.{RowWithArguments}
use Rattle.group_exec.specs.Results.{LineOfRow}
use Rattle.group_exec.specs.declared.made.Made.{Made}

-- the cells of the left row, and of the right one
abbrev pub left_of : Option (Bor Pair) → List Cell
left_of None = []
left_of (Some pair) = pair.now.left

abbrev pub right_of : Option (Bor Pair) → List Cell
right_of None = []
right_of (Some pair) = right_cells pair.now.right

-- the cells of a row, or of a pair; none where there is no row
abbrev pub cells_of : Option (Bor Pair) → List Cell
cells_of None = []
cells_of (Some pair) = pair_cells pair.now

-- a line, and the row by whose columns it may be sorted
abbrev pub seen_line : Made → LineOfRow
seen_line m = record { line = m.cells; row = cells_of m.pair }

-- a row with the arguments of the items on it
abbrev pub seen_row : Made → RowWithArguments
seen_row m = record { row = cells_of m.pair; arguments = m.cells }
