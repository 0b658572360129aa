-- What only the bodies of this crate speak of: the changes of rows by their cells.
use Rattle.std.specs.Prelude.{if◌then◌else◌, Result, Ok, List, [], ◌∷◌, ◌++◌}
use Rattle.geo_base.specs.Results.{◌>>=◌}
use Rattle.geo_base.specs.declared.cell.Cell.{Cell}
use Rattle.geo_schema.specs.Schemas.{Tables, table_at}
use Rattle.row_source.specs.Matches.{in_statement, value}
use Rattle.row_source.specs.declared.fault.ExecFault.{ExecFault}
use Rattle.sql_bind.specs.Steps.{each}
use Rattle.sql_bind.specs.declared.bound.BoundUpdate.{BoundUpdate}
use Rattle.sql_exec.specs.Effects.{fitting, update_one, with_set}
use Rattle.sql_exec.specs.inner.Naming.{name_in}
use Rattle.sql_expr.specs.Conditions.{kept}
use Rattle.sql_expr.specs.declared.expr.Expr.{Expr}
use Rattle.write_set.specs.Overlay.{Table}
use Rattle.write_set.specs.declared.row_change.RowChange.{RowChange}

-- the new cells of a row that is kept, or the first fault of its values and then of its cells
unfoldable pub set_image : Tables → BoundUpdate → List Cell → Result (List Cell) ExecFault
set_image tables update row =
    each (λ set. value row set.value) update.sets >>= λ values. fitting (table_at tables update.table) (with_set update.sets values row)

-- the change of a row that is kept, by its cells
unfoldable pub update_row : Tables → BoundUpdate → Table → List Cell → Result RowChange ExecFault
update_row tables update base row = update_one tables update base (name_in tables update.table row, row)

-- the changes of a row: none where the tests drop it
abbrev pub row_updates : List Expr → (List Cell → Result RowChange ExecFault) → List Cell → Result (List RowChange) ExecFault
row_updates tests make row =
    in_statement (kept row tests) >>= λ passes. if passes then (make row >>= λ c. Ok (c ∷ [])) else Ok []

-- changes that were made before, and behind them those of the rows, one row after another
unfoldable pub updates_behind : List Expr → (List Cell → Result RowChange ExecFault) → List RowChange → List (List Cell) → Result (List RowChange) ExecFault
updates_behind tests make done [] = Ok done
updates_behind tests make done (row ∷ rows) = row_updates tests make row >>= λ made. updates_behind tests make (done ++ made) rows
