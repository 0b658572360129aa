-- What only the bodies of this crate speak of: the touches of rows by their names.
use Rattle.std.specs.Prelude.{ℕ, not, Result, Ok, List, filter, map}
use Rattle.geo_base.specs.Results.{◌>>=◌}
use Rattle.geo_base.specs.declared.cell.Cell.{Cell}
use Rattle.geo_base.specs.declared.row_id.RowId.{RowId}
use Rattle.geo_schema.specs.Schemas.{Tables}
use Rattle.row_source.specs.declared.fault.ExecFault.{ExecFault}
use Rattle.sql_bind.specs.declared.bound.BoundSelect.{BoundSelect}
use Rattle.sql_exec.specs.Effects.{change_of}
use Rattle.sql_exec.specs.inner.Naming.{name_in}
use Rattle.sql_exec.specs.inner.Plain.{kept_rows, limited_lines}
use Rattle.write_set.specs.Overlay.{Table}
use Rattle.write_set.specs.Sets.{ChangeOfRow, has_row}
use Rattle.write_set.specs.declared.change.Change.TheVariants.{Touch}
use Rattle.write_set.specs.declared.row_change.RowChange.{RowChange}

-- the touches of those of the rows that the net lacks
unfoldable pub touches_by : Table → List ChangeOfRow → List RowId → List RowChange
touches_by base own names = map (λ row. change_of base row Touch) (filter (λ row. not (has_row row own)) names)

-- what a query that locks makes of rows of its table: the lines of those that the tests keep, and the touches of all of them
unfoldable pub locked_rows : Tables → Table → List ChangeOfRow → BoundSelect → ℕ → List (List Cell) → Result (List (List Cell) × List RowChange) ExecFault
locked_rows tables base own query number rows =
    kept_rows query.tests rows >>= λ some. limited_lines query.items query.limit some >>= λ lines.
    Ok (lines, touches_by base own (map (name_in tables number) some))
