-- The table of every play: kv (k INT KEY, v INT).
use Rattle.std.specs.Prelude.{ℕ, ℤ, false, List, [], ◌∷◌, codes}
use Rattle.geo_base.specs.declared.cell.Cell.{Cell}
use Rattle.geo_base.specs.declared.cell.Cell.TheVariants as cell
use Rattle.geo_schema.specs.declared.column.ColumnDef.{ColumnDef}
use Rattle.geo_schema.specs.declared.column.Kind.TheVariants as kind
use Rattle.geo_schema.specs.declared.table.TableDef.{TableDef}
use Rattle.geo_schema.specs.Schemas.{Tables, shown_only}

-- a column of numbers
abbrev pub int_column : List ℕ → ColumnDef
int_column name = record { name = name; kind = kind.Int; not_null = false }

-- two columns of numbers, of which the first is the key
abbrev pub kv_table : TableDef
kv_table = record { name = codes "kv"; columns = int_column (codes "k") ∷ int_column (codes "v") ∷ []; key = 0 ∷ []; indexes = [] }

-- it is the only one, and no table is hidden
abbrev pub kv_tables : Tables
kv_tables = shown_only (kv_table ∷ [])

-- the cells of a row with this key and value
abbrev pub kv_cells : ℤ → ℤ → List Cell
kv_cells key value = cell.Int key ∷ cell.Int value ∷ []
