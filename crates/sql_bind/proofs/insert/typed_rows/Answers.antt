use Rattle.std.proofs.Common.{sym, arith}
use Rattle.std.proofs.lemmas.Result.{err_from_is_err_and}
use Rattle.sql_bind.specs.declared.fault.BindFault.TheVariants as fault
use Rattle.sql_bind.specs.Inserts.{row_of}
use Rattle.sql_bind.proofs.Lists.{next_made, next_refused, none_left}
use Rattle.sql_bind.proofs.insert.typed_rows.Goals as goal

pub loop-row-preserved : goal.loop-row-preserved
loop-row-preserved c =
    rw c.in_ok-push.ensures.items
    (next_made (λ _. row_of c.args.schema.now c.args.scope.now c.args.types.now) c.args.rows.now _ c.loop-row.bound.items c.loop-row.row-index c.row-item.result c.in_ok-row_of.field-0 (omega arith) (sym c.row-item.is) c.loop-row.invariant c.in_ok-row_of.ensures)

pub returns-in_err-row_of : goal.returns-in_err-row_of
returns-in_err-row_of c =
    let p = err_from_is_err_and c.from_residual.result c.from_residual.ensures.1 in
    rw (p.1, p.2)
    (next_refused (λ _. row_of c.args.schema.now c.args.scope.now c.args.types.now) c.args.rows.now _ fault.NoMemory c.in_err-row_of.field-0.0 c.loop-row.bound.items c.loop-row.row-index c.row-item.result (omega arith) (sym c.row-item.is) c.loop-row.invariant c.in_err-row_of.ensures)

pub returns : goal.returns
returns c =
    none_left (λ _. row_of c.args.schema.now c.args.scope.now c.args.types.now) c.args.rows.now _ c.loop-row.bound.items c.loop-row.row-index (omega arith) c.loop-row.invariant
