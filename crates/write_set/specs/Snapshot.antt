-- What the database holds after an epoch: `snap_at`, the image of each row, is the description to believe. `snap_rows` lists the
-- rows, and the law `rows_are_the_snapshot` ties it to `snap_at`.
use Rattle.std.specs.Prelude.{Option, None, Some, if◌then◌else◌, List, [], ◌∷◌}
use Rattle.std.specs.List.{flat_map}
use Rattle.geo_base.specs.declared.row_id.RowId.{RowId}
use Rattle.geo_base.specs.declared.row_image.RowImage.{RowImage}
use Rattle.geo_base.specs.Order.{row_eq}
use Rattle.write_set.specs.declared.change.Change.{Change}
use Rattle.write_set.specs.declared.change.Change.TheVariants.{Put, Remove, Touch}
use Rattle.write_set.specs.Sets.{ChangeOfRow}
use Rattle.write_set.specs.Journal.{Placed, Epochs}
use Rattle.write_set.specs.Merge.{committed}
use Rattle.write_set.specs.Overlay.{Table, overlay}

-- the changes of all these candidates
abbrev pub changes_of : List Placed → List ChangeOfRow
changes_of cs = flat_map (λ c. c.set) cs

-- the image that a change of a row leaves, where the row had the given one before it: a touch leaves that one
abbrev pub image_left : Change → Option RowImage → Option RowImage
image_left (Put image) before = Some image
image_left Remove before = None
image_left Touch before = before

-- the image of a row with a net laid over it, by what the net has of the row: where that is nothing, the image that was there
abbrev pub image_over : Option Change → Option RowImage → Option RowImage
image_over None before = before
image_over (Some change) before = image_left change before

-- the image of a row after the changes, where it had the given one before them
abbrev pub image_after : List ChangeOfRow → RowId → Option RowImage → Option RowImage
image_after [] row image = image
image_after (p ∷ ps) row image = image_after ps row (if row_eq row p.0 then image_left p.1 image else image)

-- the image of a row after these epochs, if there is such a row
abbrev pub snap_at : Epochs → RowId → Option RowImage
snap_at [] row = None
snap_at (all ∷ older) row = image_after (changes_of (committed (all ∷ older))) row (snap_at older row)

-- the rows that there are after these epochs
abbrev pub snap_rows : Epochs → Table
snap_rows [] = []
snap_rows (all ∷ older) = overlay (snap_rows older) (changes_of (committed (all ∷ older)))
