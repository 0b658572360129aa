-- What only the bodies of this crate speak of: the names of rows by their cells.
use Rattle.std.specs.Prelude.{ℕ, List}
use Rattle.geo_base.specs.declared.cell.Cell.{Cell}
use Rattle.geo_base.specs.declared.row_id.RowId.{RowId}
use Rattle.geo_schema.specs.Rows.{key_cells}
use Rattle.geo_schema.specs.Schemas.{Tables, table_at}
use Rattle.row_source.specs.Handing.{row_named}

-- the name of a row of a table, by its cells
unfoldable pub name_in : Tables → ℕ → List Cell → RowId
name_in tables number cells = row_named number (key_cells (table_at tables number) cells)
