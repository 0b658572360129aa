-- The rules of uniques, and the hidden table of each.
use Rattle.std.specs.Prelude.{◌≢◌, ℕ, ◌<◌, true, List, [], ◌++◌, length, map, slice_index_or}
use Rattle.std.specs.List.{All, range_with_len}
use Rattle.geo_schema.specs.declared.column.ColumnDef.{ColumnDef}
use Rattle.geo_schema.specs.declared.limits.TheConstants.{MAX_UNIQUES, MAX_UNIQUE_COLUMNS}
use Rattle.geo_schema.specs.declared.table.TableDef.{TableDef}
use Rattle.geo_schema.specs.declared.unique.UniqueDef.{UniqueDef}
use Rattle.geo_schema.specs.Tables.{IsName, ArePlaces, no_column, table_in}

-- ---- the rules

-- the name is not the table's, and none of its indexes'
pub record IsNotOf (name : List ℕ) (table : TableDef) : Type 0 where
  pub itself : table.name ≢ name
  pub indexes : All (λ index. index.name ≢ name) table.indexes

-- the name is no table's, no index's, and none of the uniques'
pub record IsFree (tables : List TableDef) (uniques : List UniqueDef) (name : List ℕ) : Type 0 where
  pub of_tables : All (IsNotOf name) tables
  pub of_uniques : All (λ unique. unique.name ≢ name) uniques

-- a unique is of a table that there is, and has 1 to 4 places of its columns, none of them twice
pub record HasColumns (tables : List TableDef) (unique : UniqueDef) : Type 0 where
  pub table : unique.table < length tables
  pub columns : ArePlaces MAX_UNIQUE_COLUMNS (length (table_in tables unique.table).columns) unique.columns

-- a unique that stands behind others: it is at most the 64th, it has a name that nothing else before it has, and
-- it has its columns
pub record IsUnique (tables : List TableDef) (before : List UniqueDef) (unique : UniqueDef) : Type 0 where
  pub few : length before < MAX_UNIQUES
  pub name : IsName unique.name
  pub free : IsFree tables before unique.name
  pub columns : HasColumns tables unique

-- a unique with nothing, which stands for one past the last
abbrev pub no_unique : UniqueDef
no_unique = record { name = []; table = 0; columns = [] }

-- the unique at a place of a list
abbrev pub unique_in : List UniqueDef → ℕ → UniqueDef
unique_in uniques place = slice_index_or uniques place no_unique

-- ---- hidden tables

-- a column of a hidden table: its cells are like those of the table's column, and never NULL
abbrev pub hidden_column : ColumnDef → ColumnDef
hidden_column column = record { name = column.name; kind = column.kind; not_null = true }

-- the columns of a hidden table that stand for those at the places
abbrev pub hidden_columns : List ColumnDef → List ℕ → List ColumnDef
hidden_columns columns places = map (λ place. hidden_column (slice_index_or columns place no_column)) places

-- the hidden table has the unique's name and no index; its columns are the unique's, which are its key, and then
-- those of the table's key
abbrev pub hidden_table : List TableDef → UniqueDef → TableDef
hidden_table tables unique = record {
  name = unique.name;
  columns = hidden_columns (table_in tables unique.table).columns unique.columns ++ hidden_columns (table_in tables unique.table).columns (table_in tables unique.table).key;
  key = range_with_len 0 (length unique.columns);
  indexes = [];
}
