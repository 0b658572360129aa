-- the lesser of the cells so far, and what comes of it over those that are left
use Rattle.std.proofs.Common.{◌≡◌, Option, Some, drop, fold, map}
use Rattle.std.specs.List.{reduce}
use Rattle.geo_base.specs.declared.cell.Cell.{Cell}
use Rattle.group_exec.specs.inner.Aggregates.{lesser}
use Rattle.group_exec.proofs.aggregates.least_of.Given as goal

abbrev pub invariant-loop-cell : goal.invariant-loop-cell
invariant-loop-cell l =
    let found : Option Cell = Some (fold lesser l.least (map (λ cell. cell.now) (drop l.cell-index l.rest))) in
    found ≡ reduce lesser (map (λ cell. cell.now) l.cells)
