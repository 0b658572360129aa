-- Rows whose cells are of their columns' types.
use Rattle.std.specs.Prelude.{◌≡◌, ℕ, true, Some, List, length, slice_get}
use Rattle.geo_base.specs.declared.cell.Cell.{Cell}
use Rattle.sql_expr.specs.declared.value_type.ValueType.{ValueType}
use Rattle.sql_expr.specs.Types.{has_type}

-- one cell for each column, and each is of its column's type
pub record HasTypes (columns : List ValueType) (row : List Cell) : Type 0 where
  pub count : length row ≡ length columns
  pub types : (place : ℕ) (type : ValueType) (cell : Cell) →
      slice_get columns place ≡ Some type → slice_get row place ≡ Some cell → has_type type cell ≡ true
