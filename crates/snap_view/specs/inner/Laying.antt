-- Inner: what is left of own writes where they are laid over rows in a range.
use Rattle.std.specs.Prelude.{◌≡◌, ⊤, ℕ, false, nat_eq, Option, None, Some, List, [], ◌∷◌, filter, map, if◌then◌else◌}
use Rattle.std.specs.List.{AllByRecursion}
use Rattle.std.specs.Map.{keys_of}
use Rattle.std.specs.Ordering.{is_eq, is_gt, is_lt}
use Rattle.geo_base.specs.declared.row_id.RowId.{RowId}
use Rattle.geo_base.specs.Order.{row_cmp}
use Rattle.geo_base.specs.declared.row_image.RowImage.{RowImage}
use Rattle.geo_schema.specs.declared.index.IndexDef.{IndexDef}
use Rattle.geo_schema.specs.declared.range.KeyRange.{KeyRange}
use Rattle.geo_schema.specs.Indexes.{index_cells}
use Rattle.geo_schema.specs.Ranges.{is_within}
use Rattle.write_set.specs.declared.change.Change.{Change}
use Rattle.write_set.specs.declared.change.Change.TheVariants.{Put, Remove, Touch}
use Rattle.write_set.specs.Overlay.{Table}
use Rattle.write_set.specs.Sets.{ChangeOfRow, alters}

-- the change that leaves a row with this image, or without one
abbrev pub leaving : Option RowImage → Change
leaving (Some image) = Put image
leaving None = Remove

-- the changes but touches, which leave rows as they are
abbrev pub alterations : List ChangeOfRow → List ChangeOfRow
alterations changes = filter (λ change. alters change.1) changes

-- the image, where its cells in the index lie in the range
abbrev pub within : IndexDef → KeyRange → RowImage → Option RowImage
within index range image = if is_within range (index_cells index image) then Some image else None

-- what a change leaves of a row in the range of the index: a row that is put outside it is gone from the range
abbrev pub left_within : IndexDef → KeyRange → Change → Change
left_within index range (Put image) = leaving (within index range image)
left_within index range Remove = Remove
left_within index range Touch = Touch

-- what all changes leave of rows in the range
abbrev pub all_within : IndexDef → KeyRange → List ChangeOfRow → List ChangeOfRow
all_within index range changes = map (λ change. (change.0, left_within index range change.1)) changes

-- the changes of rows of the table, but touches
abbrev pub writes_of : ℕ → List ChangeOfRow → List ChangeOfRow
writes_of table own = alterations (filter (λ change. nat_eq change.0.table table) own)

-- no write is of a row below this one
abbrev pub AreFrom : RowId → List ChangeOfRow → Type 0
AreFrom row own = AllByRecursion (λ other. is_gt (row_cmp row other) ≡ false) (keys_of own)

-- the first of the rows, if there is one, isn't below this one
abbrev pub StartsFrom : RowId → Table → Type 0
StartsFrom row [] = ⊤
StartsFrom row (entry ∷ rest) = is_lt (row_cmp entry.0 row) ≡ false

-- the rows behind this one, where it is the first of them
abbrev pub behind : RowId → Table → Table
behind row [] = []
behind row (entry ∷ rest) = if is_eq (row_cmp entry.0 row) then rest else entry ∷ rest
