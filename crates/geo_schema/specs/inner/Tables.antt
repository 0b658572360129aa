-- Inner: how the rules of tables are tested. Proofs of crates above cite it.
use Rattle.std.specs.Prelude.{ℕ, Bool, true, not, ◌&&◌, nat_le, nat_lt, nat_eq, List, length}
use Rattle.std.specs.List.{list_all}
use Rattle.geo_base.specs.declared.limits.TheConstants.{MAX_TEXT_BYTES, MAX_KEY_CELLS, MAX_COLUMNS, MAX_INDEXES, MAX_INDEX_COLUMNS, MAX_NAME_BYTES}
use Rattle.geo_schema.specs.declared.column.ColumnDef.{ColumnDef}
use Rattle.geo_schema.specs.declared.column.Kind.{Kind}
use Rattle.geo_schema.specs.declared.column.Kind.TheVariants as kind
use Rattle.geo_schema.specs.declared.index.IndexDef.{IndexDef}
use Rattle.geo_schema.specs.declared.table.TableDef.{TableDef}
use Rattle.geo_schema.specs.Tables.{same_column, same_index}
use Rattle.geo_schema.specs.inner.Repeats.{is_distinct}

-- there is at least one, and there are at most so many
abbrev pub is_count : {A : Type 0} → ℕ → List A → Bool
is_count most items = nat_le 1 (length items) && nat_le (length items) most

-- a name has 1 to 32 bytes
abbrev pub is_name : List ℕ → Bool
is_name = is_count MAX_NAME_BYTES

-- a text column takes at most 1,024 bytes
abbrev pub is_kind : Kind → Bool
is_kind (kind.Text max) = nat_le max MAX_TEXT_BYTES
is_kind _ = true

-- a column has a name and a kind within the limits
unfoldable pub is_column : ColumnDef → Bool
is_column column = is_name column.name && is_kind column.kind

-- there are 1 to 32 columns, each one within the limits, and no two have one name
unfoldable pub are_columns : List ColumnDef → Bool
are_columns columns = is_count MAX_COLUMNS columns && (list_all is_column columns && is_distinct same_column columns)

-- there are 1 to so many places, each is that of one of the columns, and none stands there twice
unfoldable pub are_places : ℕ → ℕ → List ℕ → Bool
are_places most columns places =
    is_count most places && (list_all (λ place. nat_lt place columns) places && is_distinct nat_eq places)

-- an index has a name within the limits, and 1 to 4 places of columns
unfoldable pub is_index : ℕ → IndexDef → Bool
is_index columns index = is_name index.name && are_places MAX_INDEX_COLUMNS columns index.columns

-- there are at most 4 indexes, each one within the limits, and no two have one name
unfoldable pub are_indexes : ℕ → List IndexDef → Bool
are_indexes columns indexes =
    nat_le (length indexes) MAX_INDEXES && (list_all (is_index columns) indexes && is_distinct same_index indexes)

-- the name, the columns, the key of 1 to 4 places of columns, and the indexes
unfoldable pub is_table : TableDef → Bool
is_table table =
    is_name table.name
    && (are_columns table.columns
    && (are_places MAX_KEY_CELLS (length table.columns) table.key
    && are_indexes (length table.columns) table.indexes))

-- the table breaks a rule
abbrev pub is_bad_table : TableDef → Bool
is_bad_table table = not (is_table table)
