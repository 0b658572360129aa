-- The rules of tables.
use Rattle.std.specs.Prelude.{ℕ, ◌≤◌, ◌<◌, ⊤, Bool, false, nat_eq, List, [], length, slice_index_or}
use Rattle.std.specs.List.{All}
use Rattle.geo_base.specs.declared.limits.TheConstants.{MAX_TEXT_BYTES, MAX_KEY_CELLS, MAX_COLUMNS, MAX_INDEXES, MAX_INDEX_COLUMNS, MAX_NAME_BYTES}
use Rattle.geo_base.specs.Order.{text_eq}
use Rattle.geo_schema.specs.declared.column.ColumnDef.{ColumnDef}
use Rattle.geo_schema.specs.declared.column.Kind.{Kind}
use Rattle.geo_schema.specs.declared.column.Kind.TheVariants as kind
use Rattle.geo_schema.specs.declared.index.IndexDef.{IndexDef}
use Rattle.geo_schema.specs.declared.table.TableDef.{TableDef}
use Rattle.geo_schema.specs.Repeats.{AreApart}

-- two columns have one name
abbrev pub same_column : ColumnDef → ColumnDef → Bool
same_column a b = text_eq a.name b.name

-- two indexes have one name
abbrev pub same_index : IndexDef → IndexDef → Bool
same_index a b = text_eq a.name b.name

-- two tables have one name
abbrev pub same_table : TableDef → TableDef → Bool
same_table a b = text_eq a.name b.name

-- a name has 1 to 32 bytes
pub record IsName (bytes : List ℕ) : Type 0 where
  pub some : 1 ≤ length bytes
  pub few : length bytes ≤ MAX_NAME_BYTES

-- a text column takes at most 1,024 bytes
abbrev pub IsKind : Kind → Type 0
IsKind kind.Int = ⊤
IsKind (kind.Text max) = max ≤ MAX_TEXT_BYTES
IsKind kind.Truth = ⊤

-- a column has a name, and a kind within the limit
pub record IsColumn (column : ColumnDef) : Type 0 where
  pub name : IsName column.name
  pub takes : IsKind column.kind

-- there are 1 to so many places, each is that of one of the columns, and none stands there twice
pub record ArePlaces (most columns : ℕ) (places : List ℕ) : Type 0 where
  pub some : 1 ≤ length places
  pub few : length places ≤ most
  pub within : All (λ place. place < columns) places
  pub apart : AreApart nat_eq places

-- an index has a name, and 1 to 4 places of columns
pub record IsIndex (columns : ℕ) (index : IndexDef) : Type 0 where
  pub name : IsName index.name
  pub places : ArePlaces MAX_INDEX_COLUMNS columns index.columns

-- what rows need of a table: 1 to 32 columns, and a key of 1 to 4 places of columns
pub record TakesRows (table : TableDef) : Type 0 where
  pub some : 1 ≤ length table.columns
  pub few : length table.columns ≤ MAX_COLUMNS
  pub columns : All IsColumn table.columns
  pub key : ArePlaces MAX_KEY_CELLS (length table.columns) table.key

-- a table has a name; what rows need; of its columns no two have one name; and at most 4 indexes, of which no two
-- have one name
pub record IsTable (table : TableDef) : Type 0 where
  pub name : IsName table.name
  pub rows : TakesRows table
  pub apart : AreApart same_column table.columns
  pub few_indexes : length table.indexes ≤ MAX_INDEXES
  pub indexes : All (IsIndex (length table.columns)) table.indexes
  pub indexes_apart : AreApart same_index table.indexes

-- a table with nothing, which stands for those past the last one
abbrev pub no_table : TableDef
no_table = record { name = []; columns = []; key = []; indexes = [] }

-- a column with nothing, which stands for those past the last one
abbrev pub no_column : ColumnDef
no_column = record { name = []; kind = kind.Int; not_null = false }

-- the table at a place of a list
abbrev pub table_in : List TableDef → ℕ → TableDef
table_in tables place = slice_index_or tables place no_table
