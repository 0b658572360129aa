use Rattle.std.proofs.Common.{sym, arith}
use Rattle.std.proofs.lemmas.Result.{err_from_is_err_and}
use Rattle.geo_schema.specs.Schemas.{table_at}
use Rattle.sql_bind.specs.declared.fault.BindFault.TheVariants as fault
use Rattle.sql_bind.specs.Updates.{set_behind}
use Rattle.sql_bind.proofs.Lists.{next_made, next_refused, none_left}
use Rattle.sql_bind.proofs.update.sets_of.Goals as goal

pub loop-set-preserved : goal.loop-set-preserved
loop-set-preserved c =
    rw c.in_ok-push.ensures.items
    (next_made (set_behind c.args.schema.now c.args.scope.now (table_at c.args.schema.now c.args.table)) c.args.sets.now _ c.loop-set.bound.items c.loop-set.set-index c.set-item.result c.in_ok-next.next (omega arith) (sym c.set-item.is) c.loop-set.invariant (rw c.as_slice.ensures.value at c.in_ok-next.ensures))

pub returns-in_err-next : goal.returns-in_err-next
returns-in_err-next c =
    let p = err_from_is_err_and c.from_residual.result c.from_residual.ensures.1 in
    rw (p.1, p.2)
    (next_refused (set_behind c.args.schema.now c.args.scope.now (table_at c.args.schema.now c.args.table)) c.args.sets.now _ fault.NoMemory c.in_err-next.field-0.0 c.loop-set.bound.items c.loop-set.set-index c.set-item.result (omega arith) (sym c.set-item.is) c.loop-set.invariant (rw c.as_slice.ensures.value at c.in_err-next.ensures))

pub returns : goal.returns
returns c =
    none_left (set_behind c.args.schema.now c.args.scope.now (table_at c.args.schema.now c.args.table)) c.args.sets.now _ c.loop-set.bound.items c.loop-set.set-index (omega arith) c.loop-set.invariant
