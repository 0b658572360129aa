use Rattle.std.proofs.Common.{◌≡◌, ◌⊎◌, ℕ, length, Ok, Err, sym, subst, arith}
use Rattle.std.proofs.lemmas.Result.{err_from_is_err_and}
use Rattle.sql_bind.specs.declared.fault.BindFault.TheVariants as fault
use Rattle.sql_bind.specs.Items.{star_item, next_star}
use Rattle.sql_bind.proofs.Lists.{next_made, next_refused, none_left}
use Rattle.sql_bind.proofs.items.star_items.Goals as goal

pub loop-column-preserved : goal.loop-column-preserved
loop-column-preserved c =
    let items = c.loop-column.items in
    let place : items.len ≡ length items.items = omega (arith, items.ok.0) in
    let made = rw c.len-place.ensures at c.in_ok-star_item.ensures in
    record {
      count = omega (arith, c.in_ok-push.ensures.len, c.loop-column.invariant.count);
      so_far =
          rw c.in_ok-push.ensures.items
          (next_made (next_star c.args.plain.now) c.args.columns.now _ items.items c.loop-column.column-index c.column-item.result c.in_ok-star_item.field-0 (omega arith) (sym c.column-item.is) c.loop-column.invariant.so_far (subst (λ (n : ℕ). star_item c.args.plain.now n c.column-item.result ≡ Ok c.in_ok-star_item.field-0) place made));
    }

pub returns-in_err-star_item-clause-items : goal.returns-in_err-star_item-clause-items
returns-in_err-star_item-clause-items c =
    let place : c.loop-column.items.len ≡ length c.loop-column.items.items = omega (arith, c.loop-column.items.ok.0) in
    let told = rw c.len-place.ensures at c.in_err-star_item.ensures in
    let p = err_from_is_err_and c.from_residual.result c.from_residual.ensures.1 in
    rw (p.1, p.2)
    (next_refused (next_star c.args.plain.now) c.args.columns.now _ fault.NoMemory c.in_err-star_item.field-0.0 c.loop-column.items.items c.loop-column.column-index c.column-item.result (omega arith) (sym c.column-item.is) c.loop-column.invariant.so_far
    (subst (λ (n : ℕ). (c.in_err-star_item.field-0.0 ≡ fault.NoMemory) ⊎ (star_item c.args.plain.now n c.column-item.result ≡ Err c.in_err-star_item.field-0.0)) place told))

pub returns-clause-items : goal.returns-clause-items
returns-clause-items c =
    none_left (next_star c.args.plain.now) c.args.columns.now _ c.loop-column.items.items c.loop-column.column-index (omega arith) c.loop-column.invariant.so_far
