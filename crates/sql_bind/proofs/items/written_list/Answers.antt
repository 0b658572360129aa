use Rattle.std.proofs.Common.{sym, arith}
use Rattle.std.proofs.lemmas.Result.{err_from_is_err_and}
use Rattle.sql_bind.specs.declared.fault.BindFault.TheVariants as fault
use Rattle.sql_bind.specs.Items.{item_of}
use Rattle.sql_bind.proofs.Lists.{next_made, next_refused, none_left}
use Rattle.sql_bind.proofs.items.written_list.Goals as goal

pub loop-item-preserved : goal.loop-item-preserved
loop-item-preserved c =
    record {
      count = omega (arith, c.in_ok-push.ensures.len, c.loop-item.invariant.count);
      so_far =
          rw c.in_ok-push.ensures.items
          (next_made (λ _ i. item_of c.args.schema.now c.args.scope.now c.args.plain.now i.value) c.args.list.now _ c.loop-item.items.items c.loop-item.item-index c.item-item.result c.in_ok-item_of.field-0 (omega arith) (sym c.item-item.is) c.loop-item.invariant.so_far c.in_ok-item_of.ensures);
    }

pub returns-in_err-item_of-clause-items : goal.returns-in_err-item_of-clause-items
returns-in_err-item_of-clause-items c =
    let p = err_from_is_err_and c.from_residual.result c.from_residual.ensures.1 in
    rw (p.1, p.2)
    (next_refused (λ _ i. item_of c.args.schema.now c.args.scope.now c.args.plain.now i.value) c.args.list.now _ fault.NoMemory c.in_err-item_of.field-0.0 c.loop-item.items.items c.loop-item.item-index c.item-item.result (omega arith) (sym c.item-item.is) c.loop-item.invariant.so_far c.in_err-item_of.ensures)

pub returns-clause-items : goal.returns-clause-items
returns-clause-items c =
    none_left (λ _ i. item_of c.args.schema.now c.args.scope.now c.args.plain.now i.value) c.args.list.now _ c.loop-item.items.items c.loop-item.item-index (omega arith) c.loop-item.invariant.so_far
