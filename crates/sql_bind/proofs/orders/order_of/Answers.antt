use Rattle.std.proofs.Common.{sym, arith}
use Rattle.std.proofs.lemmas.Result.{err_from_is_err_and}
use Rattle.sql_bind.specs.declared.fault.BindFault.TheVariants as fault
use Rattle.sql_bind.specs.Orders.{sort_of}
use Rattle.sql_bind.proofs.Lists.{next_made, next_refused, none_left}
use Rattle.sql_bind.proofs.orders.order_of.Goals as goal

pub loop-one-preserved : goal.loop-one-preserved
loop-one-preserved c =
    rw c.in_ok-push.ensures.items
    (next_made (λ _. sort_of c.args.schema.now c.args.plain.now c.args.list.now) c.args.order.now _ c.loop-one.sorts.items c.loop-one.one-index c.one-item.result c.in_ok-sort_of.field-0 (omega arith) (sym c.one-item.is) c.loop-one.invariant c.in_ok-sort_of.ensures)

pub returns-in_err-sort_of : goal.returns-in_err-sort_of
returns-in_err-sort_of c =
    let p = err_from_is_err_and c.from_residual.result c.from_residual.ensures.1 in
    rw (p.1, p.2)
    (next_refused (λ _. sort_of c.args.schema.now c.args.plain.now c.args.list.now) c.args.order.now _ fault.NoMemory c.in_err-sort_of.field-0.0 c.loop-one.sorts.items c.loop-one.one-index c.one-item.result (omega arith) (sym c.one-item.is) c.loop-one.invariant c.in_err-sort_of.ensures)

pub returns : goal.returns
returns c =
    none_left (λ _. sort_of c.args.schema.now c.args.plain.now c.args.list.now) c.args.order.now _ c.loop-one.sorts.items c.loop-one.one-index (omega arith) c.loop-one.invariant
