-- Inner: what hashing a cell, a list of cells and a name of a row feeds a hasher.
use Rattle.std.specs.Prelude.{List, ◌++◌}
use Rattle.std.specs.Hash as fed
use Rattle.std.specs.Hash.{HashWrites}
use Rattle.geo_base.specs.declared.cell.Cell.{Cell}
use Rattle.geo_base.specs.declared.cell.Cell.TheVariants.{Null, Int, Text, Truth}
use Rattle.geo_base.specs.declared.row_id.RowId.{RowId}

-- the kind, and then the value
abbrev pub cell_writes : Cell → HashWrites
cell_writes Null = fed.u8 0
cell_writes (Int x) = fed.u8 1 ++ fed.i64 x
cell_writes (Text x) = fed.u8 2 ++ fed.str x
cell_writes (Truth x) = fed.u8 3 ++ fed.bool x

abbrev pub cells_writes : List Cell → HashWrites
cells_writes = fed.slice cell_writes

-- the table, and then the key
unfoldable pub row_writes : RowId → HashWrites
row_writes r = fed.u8 r.table ++ cells_writes r.key
