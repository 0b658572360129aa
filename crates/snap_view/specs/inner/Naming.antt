-- Inner: the rows whose names an index has in a range, and those of them that lie in it at the snapshot's epoch.
use Rattle.std.specs.Prelude.{◌≡◌, ℕ, true, Option, Some, List, Contains}
use Rattle.std.specs.List.{All, filter_map}
use Rattle.std.specs.List.Sorted.{IsStrictlySortedBy}
use Rattle.std.specs.Option.{option_and_then, option_map}
use Rattle.geo_base.specs.declared.row_id.RowId.{RowId}
use Rattle.geo_base.specs.declared.row_image.RowImage.{RowImage}
use Rattle.geo_base.specs.Order.{row_cmp}
use Rattle.geo_schema.specs.declared.index.IndexDef.{IndexDef}
use Rattle.geo_schema.specs.declared.range.KeyRange.{KeyRange}
use Rattle.geo_schema.specs.Indexes.{index_cells}
use Rattle.geo_schema.specs.Ranges.{is_within}
use Rattle.index_store.specs.declared.pair.IndexPair.{IndexPair}
use Rattle.index_store.specs.Pairs.{row_of}
use Rattle.index_store.specs.Ranges.{LiesIn}
use Rattle.row_source.specs.Sources.{Entry}
use Rattle.write_set.specs.Overlay.{Table, image_in}
use Rattle.snap_view.specs.inner.Laying.{within}

-- names of rows of the table, each once and in rising order, with that of each row whose cells in the index lie in the range
pub record AreNamesIn (of_table : ℕ) (index : IndexDef) (range : KeyRange) (rows : Table) (names : List RowId) : Type 0 where
  pub rising : IsStrictlySortedBy row_cmp names
  pub table : All (λ row. row.table ≡ of_table) names
  pub each : (row : RowId) (image : RowImage) → image_in rows row ≡ Some image → row.table ≡ of_table →
      is_within range (index_cells index image) ≡ true → Contains names row

-- the row is that of a pair of the table's index whose cells lie in the range
pub record HasPairIn (of_table of_index : ℕ) (range : KeyRange) (pairs : List IndexPair) (row : RowId) : Type 0 where
  pub pair : IndexPair
  pub among : Contains pairs pair
  pub lies : LiesIn of_table of_index range pair
  pub same : row_of pair ≡ row

-- the image of the row among these rows, where there is one whose cells in the index lie in the range
abbrev pub image_within : IndexDef → KeyRange → Table → RowId → Option RowImage
image_within index range rows row = option_and_then (within index range) (image_in rows row)

-- the row with that image
abbrev pub entry_within : IndexDef → KeyRange → Table → RowId → Option Entry
entry_within index range rows row = option_map (λ image. (row, image)) (image_within index range rows row)

-- the rows of these names that there are and whose cells in the index lie in the range
abbrev pub entries_within : IndexDef → KeyRange → Table → List RowId → Table
entries_within index range rows names = filter_map (entry_within index range rows) names
