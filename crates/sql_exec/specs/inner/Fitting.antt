-- What only the bodies of this crate speak of: cells of the types of their columns, and cells that values are written into.
use Rattle.std.specs.Prelude.{◌≡◌, ℕ, true, Some, Result, Ok, List, [], ◌∷◌, length, map, slice_get, slice_set}
use Rattle.geo_base.specs.Cells.{has_type}
use Rattle.geo_base.specs.Results.{◌>>=◌}
use Rattle.geo_base.specs.declared.cell.Cell.{Cell}
use Rattle.geo_base.specs.declared.cell.Cell.TheVariants as cell
use Rattle.geo_schema.specs.Rows.{type_of}
use Rattle.geo_schema.specs.declared.column.ColumnDef.{ColumnDef}
use Rattle.row_source.specs.Matches.{value}
use Rattle.row_source.specs.declared.fault.ExecFault.{ExecFault}
use Rattle.sql_expr.specs.declared.expr.Expr.{Expr}

-- there is one cell for each column, and it is of the column's type
pub record AreTyped (columns : List ColumnDef) (cells : List Cell) : Type 0 where
  pub count : length cells ≡ length columns
  pub types : (place : ℕ) (column : ColumnDef) (c : Cell) → slice_get columns place ≡ Some column → slice_get cells place ≡ Some c → has_type (type_of column.kind) c ≡ true

-- NULL in each column
abbrev pub nulls : List ColumnDef → List Cell
nulls columns = map (λ _. cell.Null) columns

-- the cells with the values at the places
abbrev pub put_at : List ℕ → List Cell → List Cell → List Cell
put_at [] values cells = cells
put_at (place ∷ places) [] cells = cells
put_at (place ∷ places) (v ∷ values) cells = put_at places values (slice_set cells place v)

-- the cells with the values of expressions over a row at the places, from left to right, or the first fault
unfoldable pub written : List Cell → List ℕ → List Expr → List Cell → Result (List Cell) ExecFault
written row [] exprs cells = Ok cells
written row (place ∷ places) [] cells = Ok cells
written row (place ∷ places) (e ∷ exprs) cells = value row e >>= λ v. written row places exprs (slice_set cells place v)
