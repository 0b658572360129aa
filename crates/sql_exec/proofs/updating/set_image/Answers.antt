use Rattle.std.proofs.Common.{Result, List, subst}
use Rattle.std.proofs.lemmas.Result.{err_from_is_err_and}
use Rattle.geo_base.specs.Results.{Gives}
use Rattle.geo_base.specs.declared.cell.Cell.{Cell}
use Rattle.row_source.specs.declared.fault.ExecFault.{ExecFault}
use Rattle.row_source.specs.declared.fault.ExecFault.TheVariants as fault
use Rattle.sql_exec.proofs.Imaged.{set_fails, set_made, set_typed, sets_within}
use Rattle.sql_exec.proofs.updating.set_image.Goals as goal

pub set_cells-requires : goal.set_cells-requires
set_cells-requires c =
    sets_within c.args.schema.now c.args.query.now c.args.row.now c.requires.update c.requires.row c.items.result.now c.cells.result.now c.items.ensures c.cells.ensures.value

pub returns-in_err-cells : goal.returns-in_err-cells
returns-in_err-cells c =
    let p = err_from_is_err_and c.from_residual.result c.from_residual.ensures.1 in
    rw (p.1, p.2)
    (set_fails c.args.schema.now c.args.query.now c.args.row.now c.requires.update c.requires.row c.items.result.now c.cells.result.now c.items.ensures c.cells.ensures.value
    _ c.in_err-cells.ensures)

pub fitting-requires-clause-typed : goal.fitting-requires-clause-typed
fitting-requires-clause-typed c =
    set_typed c.args.schema.now c.args.query.now c.args.row.now c.requires.update c.requires.row c.items.result.now c.cells.result.now c.items.ensures c.cells.ensures.value
    c.bound_values_are_of_their_columns_types.ensures.updated c.in_ok-cells.cells.items c.in_ok-cells.ensures

pub returns : goal.returns
returns c =
    subst (λ (made : Result (List Cell) ExecFault). Gives fault.NoMemory (λ (i : List Cell). i) c.fitting.result made)
    (set_made c.args.schema.now c.args.query.now c.args.row.now c.requires.update c.requires.row c.items.result.now c.cells.result.now c.items.ensures c.cells.ensures.value
    c.in_ok-cells.cells.items c.in_ok-cells.ensures)
    c.fitting.ensures.image
