-- The plain source: lists of rows with their images.
use Rattle.std.specs.Prelude.{Option, Some, None, List, map}
use Rattle.geo_schema.specs.Schemas.{Tables}
use Rattle.row_source.specs.declared.list_source.RowImageAt.{RowImageAt}
use Rattle.row_source.specs.Sources.{Entry}
use Rattle.write_set.specs.Overlay.{Table}

-- a row with its image
abbrev pub entry_of : RowImageAt → Entry
entry_of at = (at.row, at.image)

-- rows with their images, as a table
abbrev pub table_of : List RowImageAt → Table
table_of rows = map entry_of rows

-- what the plain source is seen as
pub record Listed : Type 0 where
  pub tables : Tables
  pub rows : Table
  pub base : Table

-- the rows of the base, where None stands for the rows themselves
abbrev pub base_of : List RowImageAt → Option (List RowImageAt) → Table
base_of rows None = table_of rows
base_of rows (Some base) = table_of base
