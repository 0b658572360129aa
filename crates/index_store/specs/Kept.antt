-- The images of rows that are kept, what one epoch more makes of them, and what a later horizon leaves of them.
use Rattle.std.specs.Prelude.{◌≡◌, ℕ, ◌+◌, ◌≤◌, false, Option, List}
use Rattle.std.specs.List.{list_any}
use Rattle.geo_base.specs.declared.row_id.RowId.{RowId}
use Rattle.geo_base.specs.declared.row_image.RowImage.{RowImage}
use Rattle.write_set.specs.Journal.{Placed}
use Rattle.write_set.specs.Sets.{changes_row}

-- the first and the last of the epochs that are kept, and the image of each row after each of them, if there was such a row
pub record KeptImages : Type 0 where
  pub first : ℕ
  pub last : ℕ
  pub image : RowId → ℕ → Option RowImage

-- these epochs and images together
abbrev pub kept_by : ℕ → ℕ → (RowId → ℕ → Option RowImage) → KeptImages
kept_by first last image = record { first = first; last = last; image = image }

-- the epoch is one of those that are kept
pub record IsKeptEpoch (kept : KeptImages) (epoch : ℕ) : Type 0 where
  pub from : kept.first ≤ epoch
  pub upto : epoch ≤ kept.last

-- one epoch more is kept, whose committed candidates are these: the images of the others are as they were, and a row that none of these
-- candidates changes has in it the image that it had
pub record IsNextOf (committed : List Placed) (old new : KeptImages) : Type 0 where
  pub some : old.first ≤ old.last
  pub first : new.first ≡ old.first
  pub last : new.last ≡ old.last + 1
  pub before : (row : RowId) (epoch : ℕ) → IsKeptEpoch old epoch → new.image row epoch ≡ old.image row epoch
  pub others : (row : RowId) → list_any (λ c. changes_row row c.set) committed ≡ false → new.image row new.last ≡ old.image row old.last

-- the first epochs are kept no longer, and the images of the others are as they were
pub record IsRestOf (old new : KeptImages) : Type 0 where
  pub first : old.first ≤ new.first
  pub some : new.first ≤ new.last
  pub last : new.last ≡ old.last
  pub same : (row : RowId) (epoch : ℕ) → IsKeptEpoch new epoch → new.image row epoch ≡ old.image row epoch
