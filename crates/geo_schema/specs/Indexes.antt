-- The indexes of a table, and the cells of a row in one.
use Rattle.std.specs.Prelude.{ℕ, ◌<◌, List, [], length, map, slice_index_or}
use Rattle.geo_base.specs.declared.cell.Cell.{Cell}
use Rattle.geo_base.specs.declared.cell.Cell.TheVariants as cell
use Rattle.geo_schema.specs.declared.index.IndexDef.{IndexDef}
use Rattle.geo_schema.specs.declared.table.TableDef.{TableDef}
use Rattle.geo_schema.specs.Schemas.{Tables, table_at}

-- an index with nothing, which stands for those past the last one
abbrev pub no_index : IndexDef
no_index = record { name = []; columns = [] }

-- the index of a table at a place
abbrev pub index_at : TableDef → ℕ → IndexDef
index_at table place = slice_index_or table.indexes place no_index

-- the cells of a row in the columns of an index, in the index's order
abbrev pub index_cells : IndexDef → List Cell → List Cell
index_cells index cells = map (λ place. slice_index_or cells place cell.Null) index.columns

-- there is a table with the number that has an index at the place
abbrev pub HasIndex : Tables → ℕ → ℕ → Type 0
HasIndex tables table place = place < length (table_at tables table).indexes
