-- Tables of rows, and what they are with a write set laid over them.
use Rattle.std.specs.Prelude.{Option, List, [], ◌∷◌}
use Rattle.std.specs.Map.{lookup, remove_entry}
use Rattle.std.specs.BTreeMap.{insert_entry, is_at}
use Rattle.geo_base.specs.declared.row_id.RowId.{RowId}
use Rattle.geo_base.specs.declared.row_image.RowImage.{RowImage}
use Rattle.geo_base.specs.Order.{row_cmp}
use Rattle.write_set.specs.declared.change.Change.TheVariants.{Put, Remove, Touch}
use Rattle.write_set.specs.Sets.{ChangeOfRow}

-- rows with their images, in rising order of rows
abbrev pub Table : Type 0
Table = List (RowId × RowImage)

-- the image of the row in the table
abbrev pub image_in : Table → RowId → Option RowImage
image_in rows row = lookup (is_at (row_cmp row)) rows

-- the table with one change made; a touch changes nothing in it
abbrev pub changed : ChangeOfRow → Table → Table
changed (row, Put image) rows = insert_entry row_cmp rows row image
changed (row, Remove) rows = remove_entry (is_at (row_cmp row)) rows
changed (row, Touch) rows = rows

-- the table with the changes laid over it: their puts stand in it, what they remove doesn't, and what they touch is as it was
abbrev pub overlay : Table → List ChangeOfRow → Table
overlay rows [] = rows
overlay rows (p ∷ ps) = overlay (changed p rows) ps
