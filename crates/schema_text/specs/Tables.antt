-- What tables and indexes are made of their names and columns.
use Rattle.std.specs.Prelude.{ℕ, ◌+◌, if◌then◌else◌, List, [], ◌∷◌, map, position, Option}
use Rattle.geo_base.specs.Order.{text_eq}
use Rattle.geo_schema.specs.declared.column.ColumnDef.{ColumnDef}
use Rattle.geo_schema.specs.declared.table.TableDef.{TableDef}
use Rattle.schema_text.specs.declared.column.Column.{Column}

-- the places of the columns that are of the key, where the first column stands at the place
abbrev pub key_places : ℕ → List Column → List ℕ
key_places place [] = []
key_places place (column ∷ columns) =
    if column.is_key then place ∷ key_places (place + 1) columns else key_places (place + 1) columns

-- the table with a name and columns, and no index
abbrev pub table_with : List ℕ → List Column → TableDef
table_with name columns =
    record { name = name; columns = map (λ column. column.def) columns; key = key_places 0 columns; indexes = [] }

-- the place of the column with a name
abbrev pub column_place : List ColumnDef → List ℕ → Option ℕ
column_place columns name = position (λ column. text_eq column.name name) columns
