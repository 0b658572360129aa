-- The pairs of an index: that a row had certain cells in the columns of the index.
use Rattle.std.specs.Prelude.{◌≡◌, ℕ, Option, None, Some}
use Rattle.geo_base.specs.declared.row_id.RowId.{RowId}
use Rattle.geo_base.specs.declared.row_image.RowImage.{RowImage}
use Rattle.geo_schema.specs.Schemas.{Tables, table_at}
use Rattle.geo_schema.specs.Indexes.{HasIndex, index_at, index_cells}
use Rattle.index_store.specs.declared.pair.IndexPair.{IndexPair}
use Rattle.index_store.specs.Kept.{KeptImages}

-- the row of a pair
abbrev pub row_of : IndexPair → RowId
row_of pair = record { table = pair.table; key = pair.key }

-- the pair is that of its row with this image: its index is one of the table's, and its cells are the image's in the index
pub record IsPairOf (tables : Tables) (pair : IndexPair) (image : RowImage) : Type 0 where
  pub index : HasIndex tables pair.table pair.index
  pub cells : index_cells (index_at (table_at tables pair.table) pair.index) image ≡ pair.cells

-- the pair is that of its row with this image, if there is one
abbrev pub IsPairIn : Tables → IndexPair → Option RowImage → Type 0
IsPairIn tables pair None = ⊥
IsPairIn tables pair (Some image) = IsPairOf tables pair image

-- the pair's row had the pair after the epoch
abbrev pub IsHadAt : Tables → KeptImages → IndexPair → ℕ → Type 0
IsHadAt tables kept pair epoch = IsPairIn tables pair (kept.image (row_of pair) epoch)
