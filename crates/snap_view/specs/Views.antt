-- What a transaction sees: the rows of its snapshot, with its own writes laid over them.
use Rattle.std.specs.Prelude.{List, Contains}
use Rattle.geo_base.specs.declared.row_id.RowId.{RowId}
use Rattle.geo_base.specs.declared.row_image.RowImage.{RowImage}
use Rattle.geo_schema.specs.Schemas.{Tables}
use Rattle.row_source.specs.Sources.{Fits}
use Rattle.write_set.specs.declared.change.Change.TheVariants.{Put}
use Rattle.write_set.specs.Overlay.{Table, overlay}
use Rattle.write_set.specs.Sets.{ChangeOfRow}

-- what a view is seen as: the tables of its schema, the rows of its snapshot, and the transaction's own writes
pub record Viewed : Type 0 where
  pub tables : Tables
  pub base : Table
  pub own : List ChangeOfRow

-- the rows of a view: those of the snapshot with the own writes laid over them
abbrev pub seen_rows : Viewed → Table
seen_rows view = overlay view.base view.own

-- each image that is put is a row of these tables, under its key
abbrev pub PutsFit : Tables → List ChangeOfRow → Type 0
PutsFit tables own = (row : RowId) (image : RowImage) → Contains own (row, Put image) → Fits tables (row, image)
