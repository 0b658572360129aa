-- Which rows a range of an index finds: said of the rows that are kept, and of no pair.
use Rattle.std.specs.Prelude.{◌≡◌, ℕ, true, Some, List, Contains}
use Rattle.std.specs.List.Sorted.{IsStrictlySortedBy}
use Rattle.geo_base.specs.declared.cell.Cell.{Cell}
use Rattle.geo_base.specs.declared.row_image.RowImage.{RowImage}
use Rattle.geo_base.specs.Order.{cells_cmp}
use Rattle.geo_schema.specs.declared.range.KeyRange.{KeyRange}
use Rattle.geo_schema.specs.Indexes.{HasIndex, index_at, index_cells}
use Rattle.geo_schema.specs.Ranges.{is_within}
use Rattle.geo_schema.specs.Schemas.{Tables, table_at}
use Rattle.index_store.specs.Kept.{KeptImages, IsKeptEpoch}

-- after some epoch that is kept there was a row of the table with the key, whose cells in the table's index lay in the range
pub record WasIn (tables : Tables) (kept : KeptImages) (table index : ℕ) (range : KeyRange) (key : List Cell) : Type 0 where
  pub epoch : ℕ
  pub image : RowImage
  pub is_kept : IsKeptEpoch kept epoch
  pub has_image : kept.image (record { table = table; key = key }) epoch ≡ Some image
  pub has_index : HasIndex tables table index
  pub within : is_within range (index_cells (index_at (table_at tables table) index) image) ≡ true

-- the keys are those of all such rows, and of no other: they rise, so none comes twice
pub record FindsRows (tables : Tables) (kept : KeptImages) (table index : ℕ) (range : KeyRange) (keys : List (List Cell)) : Type 0 where
  pub rising : IsStrictlySortedBy cells_cmp keys
  pub each : (key : List Cell) → WasIn tables kept table index range key → Contains keys key
  pub only : (key : List Cell) → Contains keys key → WasIn tables kept table index range key
