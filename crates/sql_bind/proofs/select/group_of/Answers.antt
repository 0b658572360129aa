use Rattle.std.proofs.Common.{sym, arith}
use Rattle.std.proofs.lemmas.Result.{err_from_is_err_and}
use Rattle.sql_bind.specs.declared.fault.BindFault.TheVariants as fault
use Rattle.sql_bind.proofs.Queries.{next_grouped, group_refused, whole_group}
use Rattle.sql_bind.proofs.select.group_of.Goals as goal

pub loop-column-preserved : goal.loop-column-preserved
loop-column-preserved c =
    rw c.in_ok-push_once.ensures
    (next_grouped c.args.schema.now c.args.scope.now c.args.columns.now _ c.loop-column.group.items c.loop-column.column-index c.column-item.result c.in_ok-found.found (omega arith) (sym c.column-item.is) c.loop-column.invariant c.in_ok-found.ensures)

pub returns-in_err-found : goal.returns-in_err-found
returns-in_err-found c =
    let p = err_from_is_err_and c.from_residual.result c.from_residual.ensures.1 in
    rw (p.1, p.2)
    (group_refused c.args.schema.now c.args.scope.now c.args.columns.now _ fault.NoMemory c.in_err-found.field-0.0 c.loop-column.group.items c.loop-column.column-index c.column-item.result (omega arith) (sym c.column-item.is) c.loop-column.invariant c.in_err-found.ensures)

pub returns : goal.returns
returns c =
    whole_group c.args.schema.now c.args.scope.now c.args.columns.now _ c.loop-column.group.items c.loop-column.column-index (omega arith) c.loop-column.invariant
