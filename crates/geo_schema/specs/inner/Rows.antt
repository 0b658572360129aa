-- Inner: how the fault of a row is found. Inner words and proofs of crates above cite it.
use Rattle.std.specs.Prelude.{ℕ, ◌+◌, ◌&&◌, ◌||◌, ◌==◌, if◌then◌else◌, Option, Some, None, List, [], ◌∷◌, length}
use Rattle.std.specs.Option.{option_or}
use Rattle.geo_base.specs.declared.cell.Cell.{Cell}
use Rattle.geo_base.specs.Cells.{is_null, has_type}
use Rattle.geo_schema.specs.declared.column.ColumnDef.{ColumnDef}
use Rattle.geo_schema.specs.declared.fault.CellFault.{CellFault}
use Rattle.geo_schema.specs.declared.fault.CellFault.TheVariants as fault
use Rattle.geo_schema.specs.declared.table.TableDef.{TableDef}
use Rattle.geo_schema.specs.Rows.{type_of, is_too_long, is_in}

-- what is wrong with the cell of a column: its type, else a NULL where none may be, else its length
unfoldable pub cell_fault : List ℕ → ColumnDef → ℕ → Cell → Option CellFault
cell_fault key column place cell =
    if has_type (type_of column.kind) cell
    then (if is_null cell && (column.not_null || is_in key place) then Some (fault.NullNotAllowed place)
    else (if is_too_long column.kind cell then Some (fault.TextTooLong place) else None))
    else Some (fault.TypeClash place)

-- what is wrong with the first cell at fault, where the first column stands at the place
abbrev pub cells_fault : List ℕ → ℕ → List ColumnDef → List Cell → Option CellFault
cells_fault key place [] _ = None
cells_fault key place (column ∷ columns) [] = None
cells_fault key place (column ∷ columns) (cell ∷ cells) =
    option_or (cell_fault key column place cell) (cells_fault key (place + 1) columns cells)

-- why the cells are no row of the table: their count, else the first column at fault
unfoldable pub row_fault : TableDef → List Cell → Option CellFault
row_fault table cells =
    if length cells == length table.columns then cells_fault table.key 0 table.columns cells else Some fault.WrongCount
