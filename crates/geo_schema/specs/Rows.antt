-- Which cells are a row of a table, why others are none, and the key of a row.
use Rattle.std.specs.Prelude.{◌≡◌, ◌≢◌, ℕ, ◌<◌, Bool, true, false, ◌||◌, nat_lt, nat_eq, Some, List, length, map, slice_index_or}
use Rattle.std.specs.List.{list_any, slice_get}
use Rattle.geo_base.specs.declared.cell.Cell.{Cell}
use Rattle.geo_base.specs.declared.cell.Cell.TheVariants as cell
use Rattle.geo_base.specs.declared.cell_type.CellType.{CellType}
use Rattle.geo_base.specs.declared.cell_type.CellType.TheVariants as type
use Rattle.geo_base.specs.Cells.{is_null, has_type}
use Rattle.geo_schema.specs.declared.column.ColumnDef.{ColumnDef}
use Rattle.geo_schema.specs.declared.column.Kind.{Kind}
use Rattle.geo_schema.specs.declared.column.Kind.TheVariants as kind
use Rattle.geo_schema.specs.declared.fault.CellFault.{CellFault}
use Rattle.geo_schema.specs.declared.fault.CellFault.TheVariants as fault
use Rattle.geo_schema.specs.declared.table.TableDef.{TableDef}

-- the type of the cells of a column
abbrev pub type_of : Kind → CellType
type_of kind.Int = type.Int
type_of (kind.Text _) = type.Text
type_of kind.Truth = type.Truth

-- the cell is a text of more bytes than the column takes
abbrev pub is_too_long : Kind → Cell → Bool
is_too_long (kind.Text max) (cell.Text text) = nat_lt max (length text)
is_too_long _ _ = false

-- the column at a place is of the key
abbrev pub is_in : List ℕ → ℕ → Bool
is_in key place = list_any (λ p. nat_eq p place) key

-- the cell is of the column's type, not NULL where the column is not null or of the key, and not too long
pub record Suits (key : List ℕ) (column : ColumnDef) (place : ℕ) (cell : Cell) : Type 0 where
  pub type : has_type (type_of column.kind) cell ≡ true
  pub null : is_null cell ≡ true → (column.not_null || is_in key place) ≡ false
  pub short : is_too_long column.kind cell ≡ false

-- what is wrong with a cell that doesn't suit its column. It is one thing alone, since NULL is of each type and has no length
abbrev pub IsCause : List ℕ → ColumnDef → ℕ → Cell → CellFault → Type 0
IsCause key column place cell fault.WrongCount = ⊥
IsCause key column place cell (fault.TypeClash at) = (at ≡ place) × (has_type (type_of column.kind) cell ≡ false)
IsCause key column place cell (fault.NullNotAllowed at) = (at ≡ place) × (is_null cell ≡ true) × ((column.not_null || is_in key place) ≡ true)
IsCause key column place cell (fault.TextTooLong at) = (at ≡ place) × (is_too_long column.kind cell ≡ true)

-- one cell for each column, and each suits its column
pub record IsRow (table : TableDef) (cells : List Cell) : Type 0 where
  pub count : length cells ≡ length table.columns
  pub suits : (place : ℕ) (column : ColumnDef) (cell : Cell) →
      slice_get table.columns place ≡ Some column → slice_get cells place ≡ Some cell → Suits table.key column place cell

-- there is one cell for each column; the fault is what is wrong with the cell of one of them, and each before it suits its column
pub record IsFirstCause (table : TableDef) (cells : List Cell) (why : CellFault) : Type 0 where
  pub count : length cells ≡ length table.columns
  pub place : ℕ
  pub column : ColumnDef
  pub cell : Cell
  pub has_column : slice_get table.columns place ≡ Some column
  pub has_cell : slice_get cells place ≡ Some cell
  pub cause : IsCause table.key column place cell why
  pub before : (k : ℕ) (c : ColumnDef) (x : Cell) → k < place → slice_get table.columns k ≡ Some c → slice_get cells k ≡ Some x → Suits table.key c k x

-- why the cells are no row of the table: their count, and where that is right, the least column whose cell doesn't suit it
abbrev pub IsRowFault : TableDef → List Cell → CellFault → Type 0
IsRowFault table cells fault.WrongCount = length cells ≢ length table.columns
IsRowFault table cells (fault.TypeClash at) = IsFirstCause table cells (fault.TypeClash at)
IsRowFault table cells (fault.NullNotAllowed at) = IsFirstCause table cells (fault.NullNotAllowed at)
IsRowFault table cells (fault.TextTooLong at) = IsFirstCause table cells (fault.TextTooLong at)

-- the cells at the key's places, in the key's order
unfoldable pub key_cells : TableDef → List Cell → List Cell
key_cells table cells = map (λ place. slice_index_or cells place cell.Null) table.key
