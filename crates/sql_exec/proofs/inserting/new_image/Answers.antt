use Rattle.std.proofs.Common.{Result, List, ap, subst, ◌∙◌}
use Rattle.std.proofs.lemmas.Result.{err_from_is_err_and}
use Rattle.geo_base.specs.Results.{Gives}
use Rattle.geo_base.specs.declared.cell.Cell.{Cell}
use Rattle.geo_schema.specs.declared.table.TableDef.{TableDef}
use Rattle.row_source.specs.declared.fault.ExecFault.{ExecFault}
use Rattle.row_source.specs.declared.fault.ExecFault.TheVariants as fault
use Rattle.sql_exec.proofs.Imaged.{new_fails, new_made, new_typed}
use Rattle.sql_exec.proofs.inserting.new_image.Goals as goal

pub returns-in_err-cells-clause-image : goal.returns-in_err-cells-clause-image
returns-in_err-cells-clause-image c =
    let p = err_from_is_err_and c.from_residual.result c.from_residual.ensures.1 in
    rw (p.1, p.2)
    (new_fails c.args.schema.now c.args.query.now c.args.row.now c.requires.insert c.requires.row c.items-columns.result.now c.items.result.now c.items-2.result.now
    (c.items-columns.ensures ∙ ap (λ (t : TableDef). t.columns) c.numbered.ensures.table) c.items.ensures c.items-2.ensures _ c.in_err-cells.ensures)

pub fitting-requires-clause-typed : goal.fitting-requires-clause-typed
fitting-requires-clause-typed c =
    new_typed c.args.schema.now c.args.query.now c.args.row.now c.requires.insert c.requires.row c.items-columns.result.now c.items.result.now c.items-2.result.now
    (c.items-columns.ensures ∙ ap (λ (t : TableDef). t.columns) c.numbered.ensures.table) c.items.ensures c.items-2.ensures
    c.bound_values_are_of_their_columns_types.ensures.inserted c.in_ok-cells.cells.items c.in_ok-cells.ensures

pub returns-clause-image : goal.returns-clause-image
returns-clause-image c =
    subst (λ (made : Result (List Cell) ExecFault). Gives fault.NoMemory (λ (i : List Cell). i) c.fitting.result made)
    (new_made c.args.schema.now c.args.query.now c.args.row.now c.requires.insert c.requires.row c.items-columns.result.now c.items.result.now c.items-2.result.now
    (c.items-columns.ensures ∙ ap (λ (t : TableDef). t.columns) c.numbered.ensures.table) c.items.ensures c.items-2.ensures c.in_ok-cells.cells.items c.in_ok-cells.ensures)
    c.fitting.ensures.image
