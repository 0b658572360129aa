-- What names of tables and columns mean in a statement.
use Rattle.std.specs.Prelude.{ℕ, ◌+◌, Bool, true, nat_le, if◌then◌else◌, Option, Some, None, List, [], length, map, position, slice_index_or, ok_or, Result, Ok, Err}
use Rattle.std.specs.Option.{option_map, unwrap_or}
use Rattle.geo_base.specs.declared.limits.TheConstants.{MAX_TEXT_BYTES}
use Rattle.geo_base.specs.Order.{text_eq}
use Rattle.geo_base.specs.Results.{◌>>=◌}
use Rattle.geo_schema.specs.declared.column.ColumnDef.{ColumnDef}
use Rattle.geo_schema.specs.declared.column.Kind.{Kind}
use Rattle.geo_schema.specs.declared.column.Kind.TheVariants as kind
use Rattle.geo_schema.specs.Rows.{is_in}
use Rattle.geo_schema.specs.Schemas.{Tables, table_at, number_of}
use Rattle.geo_schema.specs.Tables.{no_column}
use Rattle.sql_ast.specs.declared.ast.ColRef.{ColRef}
use Rattle.sql_ast.specs.declared.select.TableRef.{TableRef}
use Rattle.sql_ast.specs.Printing.{column_text}
use Rattle.sql_expr.specs.declared.value_type.ValueType.{ValueType}
use Rattle.sql_expr.specs.declared.value_type.ValueType.TheVariants as type
use Rattle.sql_bind.specs.declared.fault.BindFault.{BindFault}
use Rattle.sql_bind.specs.declared.fault.BindFault.TheVariants as fault
use Rattle.sql_bind.specs.declared.names.Found.{Found}
use Rattle.sql_bind.specs.declared.scope.Known.{Known}
use Rattle.sql_bind.specs.declared.scope.Scope.{Scope}
use Rattle.sql_bind.specs.Steps.{◌>>◌, refused_unless}

-- ---- tables

-- the number of the table that is shown under a name; a hidden table has none
abbrev pub table_named : Tables → List ℕ → Result ℕ BindFault
table_named tables name = ok_or (number_of tables.shown name) (fault.NoTable name)

-- the name that a table of a query is known by: that which AS gives it, and else its own
abbrev pub known_name : TableRef → List ℕ
known_name table = unwrap_or table.alias table.name

-- a table that a query names
unfoldable pub known_of : Tables → TableRef → Result Known BindFault
known_of tables table = do
  number ← table_named tables table.name
  Ok (record { name = known_name table; table = number })

-- the columns of a table
abbrev pub columns_of : Tables → ℕ → List ColumnDef
columns_of tables table = (table_at tables table).columns

-- the columns of a table of a statement, and none where it is missing
abbrev pub known_columns : Tables → Option Known → List ColumnDef
known_columns tables None = []
known_columns tables (Some known) = columns_of tables known.table

-- ---- where columns may stand

-- the columns of the tables of a query, each of them
abbrev pub everywhere : Known → Option Known → Scope
everywhere left right = record { left = Some left; right = right; group = None }

-- those of the one table of an UPDATE or DELETE
abbrev pub alone : List ℕ → ℕ → Scope
alone name table = everywhere (record { name = name; table = table }) None

-- none, as in the values of INSERT
abbrev pub nowhere : Scope
nowhere = record { left = None; right = None; group = None }

-- ---- columns of one table

-- the type of a column's cells
abbrev pub kind_type : Kind → ValueType
kind_type kind.Int = type.Int
kind_type (kind.Text _) = type.Text
kind_type kind.Truth = type.Truth

-- the types of columns
abbrev pub column_types : List ColumnDef → List ValueType
column_types columns = map (λ column. kind_type column.kind) columns

-- the type of the column at a place
abbrev pub type_at : List ColumnDef → ℕ → ValueType
type_at columns place = kind_type (slice_index_or columns place no_column).kind

-- the place of the column with a name
abbrev pub place_named : List ColumnDef → List ℕ → Option ℕ
place_named columns name = position (λ column. text_eq column.name name) columns

-- the same, where INSERT or SET names it
abbrev pub column_named : List ColumnDef → List ℕ → Result ℕ BindFault
column_named columns name = ok_or (place_named columns name) (fault.NoColumn name)

-- ---- columns of the tables of a statement

-- The name of a column as it is written, with that of its table where that is written. A name in two parts that is
-- too long for a text is written without the first; no text of a statement has one.
unfoldable pub written : ColRef → List ℕ
written column = if nat_le (length (column_text column)) MAX_TEXT_BYTES then column_text column else column.name

-- the column may be one of the table's: the table is known by the name before the column's, or none is written there
abbrev pub is_meant : Option (List ℕ) → Known → Bool
is_meant None known = true
is_meant (Some table) known = text_eq table known.name

-- a column of a table whose columns are numbered from a number on
abbrev pub found_at : ℕ → List ColumnDef → ℕ → Found
found_at first columns place = record { place = first + place; value_type = type_at columns place }

-- the column of a table that a written one may be
abbrev pub found_in : Tables → ℕ → ColRef → Option Known → Option Found
found_in tables first column None = None
found_in tables first column (Some known) =
    if is_meant column.table known
    then option_map (found_at first (columns_of tables known.table)) (place_named (columns_of tables known.table) column.name)
    else None

-- no table has it; or one does; or both do
abbrev pub only_one : ColRef → Option Found → Option Found → Result Found BindFault
only_one column None None = Err (fault.NoColumn (written column))
only_one column (Some found) None = Ok found
only_one column None (Some found) = Ok found
only_one column (Some _) (Some _) = Err (fault.Ambiguous (written column))

-- the column that is meant; the columns of the right table are numbered behind those of the left one
unfoldable pub found_of : Tables → Scope → ColRef → Result Found BindFault
found_of tables scope column =
    only_one column (found_in tables 0 column scope.left) (found_in tables (length (known_columns tables scope.left)) column scope.right)

-- the column may stand there: it is one of GROUP BY, where only these may
abbrev pub is_allowed : Option (List ℕ) → ℕ → Bool
is_allowed None place = true
is_allowed (Some group) place = is_in group place

-- a column is first looked up, and then it has to be one that may stand there
unfoldable pub column_meant : Tables → Scope → ColRef → Result Found BindFault
column_meant tables scope column = do
  found ← found_of tables scope column
  refused_unless (is_allowed scope.group found.place) (fault.NotGrouped (written column))
  Ok found
