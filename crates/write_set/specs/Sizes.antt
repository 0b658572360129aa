-- How many bytes the spellings of changes have.
use Rattle.std.specs.Prelude.{ℕ, ◌+◌, List, length, sum_by}
use Rattle.geo_base.specs.declared.cell.Cell.{Cell}
use Rattle.geo_base.specs.declared.cell.Cell.TheVariants as cell
use Rattle.write_set.specs.declared.change.Change.TheVariants.{Put, Remove, Touch}
use Rattle.write_set.specs.Sets.{ChangeOfRow}

-- a tag, and the bytes of a number or those of a text behind their count
abbrev pub cell_size : Cell → ℕ
cell_size cell.Null = 1
cell_size (cell.Int _) = 9
cell_size (cell.Text text) = 3 + length text
cell_size (cell.Truth _) = 1

-- the table, the kind of change, and the cells: those of a put's image, which has the key's cells too, so that the key and the other
-- cells together are the image's; or those of the key alone
abbrev pub change_size : ChangeOfRow → ℕ
change_size (row, Put image) = 2 + sum_by cell_size image
change_size (row, Remove) = 2 + sum_by cell_size row.key
change_size (row, Touch) = 2 + sum_by cell_size row.key

-- the changes, one behind another
abbrev pub set_size : List ChangeOfRow → ℕ
set_size set = sum_by change_size set
