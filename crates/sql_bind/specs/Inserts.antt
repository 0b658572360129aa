-- Bound INSERTs.
use Rattle.std.specs.Prelude.{ℕ, ◌==◌, List, [], ◌∷◌, length, map, slice_index_or, Result, Ok}
use Rattle.std.specs.List.{range_with_len}
use Rattle.geo_base.specs.Results.{◌>>=◌}
use Rattle.geo_schema.specs.declared.column.ColumnDef.{ColumnDef}
use Rattle.geo_schema.specs.Rows.{is_in}
use Rattle.geo_schema.specs.Schemas.{Tables}
use Rattle.sql_ast.specs.declared.ast.Ast.{Ast}
use Rattle.sql_ast.specs.declared.insert.AstRow.{AstRow}
use Rattle.sql_ast.specs.declared.insert.InsertStmt.{InsertStmt}
use Rattle.sql_expr.specs.declared.expr.Expr.{Expr}
use Rattle.sql_expr.specs.declared.value_type.ValueType.{ValueType}
use Rattle.sql_expr.specs.declared.value_type.ValueType.TheVariants as type
use Rattle.sql_bind.specs.declared.bound.BoundInsert.{BoundInsert}
use Rattle.sql_bind.specs.declared.bound.ExprRow.{ExprRow}
use Rattle.sql_bind.specs.declared.fault.BindFault.{BindFault}
use Rattle.sql_bind.specs.declared.fault.BindFault.TheVariants as fault
use Rattle.sql_bind.specs.declared.scope.Scope.{Scope}
use Rattle.sql_bind.specs.Expressions.{taken_by}
use Rattle.sql_bind.specs.Names.{table_named, columns_of, column_named, type_at, nowhere}
use Rattle.sql_bind.specs.Steps.{◌>>◌, refused_if, refused_unless, each, each_behind}

-- ---- columns

-- a column of the list: the table has it, and it isn't named before
unfoldable pub listed_column : List ColumnDef → List ℕ → List ℕ → Result ℕ BindFault
listed_column columns before name = do
  place ← column_named columns name
  refused_if (is_in before place) (fault.Ambiguous name)
  Ok place

-- the columns from left to right, and all of them where none is written
unfoldable pub listed_columns : List ColumnDef → List (List ℕ) → Result (List ℕ) BindFault
listed_columns columns [] = Ok (range_with_len 0 (length columns))
listed_columns columns (first ∷ others) = each_behind (listed_column columns) [] (first ∷ others)

-- ---- rows

-- the next value of a row, which has to be of the type at its place
abbrev pub next_value : Tables → Scope → List ValueType → List Expr → Ast → Result Expr BindFault
next_value tables scope types before value = taken_by (slice_index_or types (length before) type.Any) tables scope value

-- a row has one value for each column; then come its values from left to right
unfoldable pub row_of : Tables → Scope → List ValueType → AstRow → Result ExprRow BindFault
row_of tables scope types row = do
  refused_unless (length row.values == length types) fault.WrongCount
  values ← each_behind (next_value tables scope types) [] row.values
  Ok (record { values = values })

-- the rows in order, with a value for each column at the places; no column stands in a value
unfoldable pub rows_of : Tables → List ColumnDef → List ℕ → List AstRow → Result (List ExprRow) BindFault
rows_of tables columns places rows = each (row_of tables nowhere (map (type_at columns) places)) rows

-- ---- statements

-- an INSERT: the table; the list of columns; the rows in order
unfoldable pub insert_of : Tables → InsertStmt → Result BoundInsert BindFault
insert_of tables insert = do
  table ← table_named tables insert.table
  places ← listed_columns (columns_of tables table) insert.columns
  rows ← rows_of tables (columns_of tables table) places insert.rows
  Ok (record { table = table; columns = places; rows = rows })
