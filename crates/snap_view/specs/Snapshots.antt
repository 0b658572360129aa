-- What a snapshot is: the rows that there were after one epoch, by the versions that a region keeps.
use Rattle.std.specs.Prelude.{◌≡◌, ℕ, ◌≤◌, Some, List, Contains}
use Rattle.geo_base.specs.declared.row_id.RowId.{RowId}
use Rattle.geo_base.specs.declared.row_image.RowImage.{RowImage}
use Rattle.geo_schema.specs.Schemas.{Tables}
use Rattle.index_store.specs.declared.pair.IndexPair.{IndexPair}
use Rattle.index_store.specs.Kept.{KeptImages, kept_by}
use Rattle.index_store.specs.Pairs.{row_of, IsPairIn}
use Rattle.row_source.specs.Sources.{Fits}
use Rattle.version_store.specs.Chains.{Version, image_at, change_at}
use Rattle.version_store.specs.History.{Kept, IsKept, chain_of}
use Rattle.version_store.specs.Listing.{table_at}
use Rattle.write_set.specs.Journal.{Journal, epochs_of, last_sealed}
use Rattle.write_set.specs.Overlay.{Table}
use Rattle.write_set.specs.Snapshot.{snap_rows}

-- what a snapshot holds: versions of rows, the pairs of their indexes, and the epoch that it is of
pub record Held : Type 0 where
  pub versions : Kept
  pub pairs : List IndexPair
  pub epoch : ℕ

-- the versions are in order, and the epoch is one that can be read of them
pub record IsSnapshot (held : Held) : Type 0 where
  pub order : IsKept held.versions
  pub from : held.versions.horizon ≤ held.epoch
  pub upto : held.epoch ≤ held.versions.applied

-- the rows of a snapshot: those that there were after its epoch
abbrev pub rows_of : Held → Table
rows_of held = table_at held.versions held.epoch

-- its rows are those of the journal's snapshot of its epoch, which all regions have sealed
pub record IsSnapshotOf (journal : Journal) (held : Held) : Type 0 where
  pub sealed : held.epoch ≤ last_sealed journal
  pub rows : rows_of held ≡ snap_rows (epochs_of journal held.epoch)

-- in each index of these tables, the pairs have that of each version that is kept
abbrev pub HoldsIndexes : Tables → Held → Type 0
HoldsIndexes tables held = (pair : IndexPair) (version : Version) → Contains (chain_of held.versions (row_of pair)) version →
    IsPairIn tables pair version.image → Contains held.pairs pair

-- each image that is kept is that of a row of these tables, under its key
abbrev pub ImagesFit : Tables → Kept → Type 0
ImagesFit tables kept = (row : RowId) (version : Version) (image : RowImage) → Contains (chain_of kept row) version → version.image ≡ Some image →
    Fits tables (row, image)

-- the images that are read of kept versions, as indexes follow them
abbrev pub images_of : Kept → KeptImages
images_of kept = kept_by kept.horizon kept.applied (λ row epoch. image_at (chain_of kept row) epoch)

-- the last change of the row that a snapshot holds: the epoch of the newest version that was made up to its own epoch, 0 where there is none
abbrev pub last_held : Held → RowId → ℕ
last_held held row = change_at (chain_of held.versions row) held.epoch
