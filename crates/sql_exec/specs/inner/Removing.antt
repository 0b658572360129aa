-- What only the bodies of this crate speak of: the removals of rows by their names, and the changes that a statement makes.
use Rattle.std.specs.Prelude.{Result, Ok, List, map}
use Rattle.geo_base.specs.Results.{◌>>=◌}
use Rattle.geo_base.specs.declared.cell.Cell.{Cell}
use Rattle.geo_base.specs.declared.row_id.RowId.{RowId}
use Rattle.geo_schema.specs.Schemas.{Tables}
use Rattle.row_source.specs.declared.fault.ExecFault.{ExecFault}
use Rattle.sql_bind.specs.declared.bound.BoundDelete.{BoundDelete}
use Rattle.sql_exec.specs.Effects.{change_of}
use Rattle.sql_exec.specs.inner.Naming.{name_in}
use Rattle.sql_exec.specs.inner.Plain.{kept_rows}
use Rattle.write_set.specs.Overlay.{Table}
use Rattle.write_set.specs.declared.change.Change.TheVariants.{Remove}
use Rattle.write_set.specs.declared.row_change.RowChange.{RowChange}

-- the removals of the rows
unfoldable pub removals_by : Table → List RowId → List RowChange
removals_by base names = map (λ row. change_of base row Remove) names

-- what a DELETE makes of rows of its table: the removals of those that the tests keep
unfoldable pub removed_rows : Tables → Table → BoundDelete → List (List Cell) → Result (List RowChange) ExecFault
removed_rows tables base delete rows =
    kept_rows delete.tests rows >>= λ some. Ok (removals_by base (map (name_in tables delete.table) some))
