use Rattle.std.proofs.Common.{◌≡◌, ◌≤◌, length, map, slice_index_or}
use Rattle.geo_base.specs.declared.cell.Cell.TheVariants.{Null}
use Rattle.geo_schema.specs.Ranges.{beside}
use Rattle.snap_view.proofs.Compared.{beside_from}
use Rattle.snap_view.proofs.indexed.beside.Given as goal

-- the cells so far are the same, so that those from here on decide
abbrev pub invariant-loop-cell : goal.invariant-loop-cell
invariant-loop-cell l = record {
  place : l.at ≡ l.cell-index;
  within : l.at ≤ length l.places;
  rest : beside_from l.row l.places l.cells l.at ≡ beside (map (λ place. slice_index_or l.row place Null) l.places) l.cells;
}
