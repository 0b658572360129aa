-- What only the bodies of this crate speak of: a new row step by step, and the names of the rows that an INSERT has done.
use Rattle.std.specs.Prelude.{◌≡◌, Bool, if◌then◌else◌, Result, Ok, Err, List, []}
use Rattle.std.specs.BTreeMap.{is_at}
use Rattle.std.specs.List.{list_any}
use Rattle.std.specs.Option.{is_some}
use Rattle.geo_base.specs.Order.{row_cmp, row_eq}
use Rattle.geo_base.specs.Results.{◌>>=◌}
use Rattle.geo_base.specs.declared.cell.Cell.{Cell}
use Rattle.geo_base.specs.declared.row_id.RowId.{RowId}
use Rattle.geo_schema.specs.Schemas.{Tables, table_at}
use Rattle.row_source.specs.Matches.{value}
use Rattle.row_source.specs.declared.fault.ExecFault.{ExecFault}
use Rattle.row_source.specs.declared.fault.ExecFault.TheVariants as fault
use Rattle.sql_bind.specs.Steps.{each}
use Rattle.sql_bind.specs.declared.bound.BoundInsert.{BoundInsert}
use Rattle.sql_bind.specs.declared.bound.ExprRow.{ExprRow}
use Rattle.sql_exec.specs.Effects.{change_of, fitting, inserted_cells}
use Rattle.write_set.specs.Overlay.{Table, image_in, overlay}
use Rattle.write_set.specs.Sets.{ChangeOfRow}
use Rattle.write_set.specs.declared.change.Change.TheVariants.{Put}
use Rattle.write_set.specs.declared.row_change.RowChange.{RowChange}

-- the cells of a new row, or the first fault of its values and then of its cells
unfoldable pub new_image : Tables → BoundInsert → ExprRow → Result (List Cell) ExecFault
new_image tables insert row =
    each (value []) row.values >>= λ values. fitting (table_at tables insert.table) (inserted_cells (table_at tables insert.table) insert.columns values)

-- the change that puts a new row, where there is no such row
unfoldable pub new_row : Table → List ChangeOfRow → RowId → List Cell → Result RowChange ExecFault
new_row base own row cells = if is_some (image_in (overlay base own) row) then Err (fault.Duplicate row) else Ok (change_of base row (Put cells))

-- one of the names is that of the row
abbrev pub has_name : List RowId → RowId → Bool
has_name names row = list_any (is_at (row_cmp row)) names

-- the names are those of the rows that the changes change
unfoldable pub AreNamesOf : List RowChange → List RowId → Type 0
AreNamesOf changes names = (row : RowId) → has_name names row ≡ list_any (λ c. row_eq row c.row) changes
