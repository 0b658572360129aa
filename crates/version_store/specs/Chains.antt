-- The versions of a row: what they answer at an epoch, what an epoch adds to them, and what a horizon leaves of them.
use Rattle.std.specs.Prelude.{ℕ, ◌<◌, ◌≤◌, nat_le, nat_lt, Option, None, Some, List, [], ◌∷◌, find, if◌then◌else◌}
use Rattle.std.specs.List.{list_any}
use Rattle.std.specs.Option.{is_some}
use Rattle.geo_base.specs.declared.row_id.RowId.{RowId}
use Rattle.geo_base.specs.declared.row_image.RowImage.{RowImage}
use Rattle.write_set.specs.Sets.{changes_row}
use Rattle.write_set.specs.Journal.{Placed}
use Rattle.write_set.specs.Snapshot.{changes_of, image_after}

-- a version of a row: the epoch that made it, and the row's image from then on, None where it was removed
pub record Version : Type 0 where
  pub epoch : ℕ
  pub image : Option RowImage

-- the versions of a row, the newest first
abbrev pub Chain : Type 0
Chain = List Version

-- the image that a version leaves: where there is no version there is no row
abbrev pub image_of : Option Version → Option RowImage
image_of None = None
image_of (Some version) = version.image

-- the image of the row after the epoch: that of the newest version that was made up to then
abbrev pub image_at : Chain → ℕ → Option RowImage
image_at chain epoch = image_of (find (λ version. nat_le version.epoch epoch) chain)

-- the epoch of a version, 0 where there is none
abbrev pub epoch_of : Option Version → ℕ
epoch_of None = 0
epoch_of (Some version) = version.epoch

-- the last change of the row up to the epoch: the epoch of the newest version that was made up to then
abbrev pub change_at : Chain → ℕ → ℕ
change_at chain epoch = epoch_of (find (λ version. nat_le version.epoch epoch) chain)

-- the image that the newest version leaves
abbrev pub newest_image : Chain → Option RowImage
newest_image [] = None
newest_image (version ∷ older) = version.image

-- the epoch of the newest version, 0 where there is none
abbrev pub newest_epoch : Chain → ℕ
newest_epoch [] = 0
newest_epoch (version ∷ older) = version.epoch

-- the versions after an epoch whose committed candidates are these: one more, where one of them changes the row
abbrev pub grown : ℕ → List Placed → RowId → Chain → Chain
grown epoch committed row chain =
    if list_any (λ c. changes_row row c.set) committed
    then record { epoch = epoch; image = image_after (changes_of committed) row (newest_image chain) } ∷ chain
    else chain

-- what is left of the newest version that is at or below a horizon: the version, unless it is a removal
abbrev pub standing : Version → Chain
standing version = if is_some version.image then version ∷ [] else []

-- what a horizon leaves of the versions: all that are newer than it, and the newest of the others unless that one is a removal
abbrev pub kept_at : ℕ → Chain → Chain
kept_at horizon [] = []
kept_at horizon (version ∷ older) = if nat_lt horizon version.epoch then version ∷ kept_at horizon older else standing version

-- the epochs of the versions fall, begin below the bound, and none is 0
abbrev pub FallsBelow : ℕ → Chain → Type 0
FallsBelow bound [] = Unit {0}
FallsBelow bound (version ∷ older) = (1 ≤ version.epoch) × (version.epoch < bound) × FallsBelow version.epoch older
