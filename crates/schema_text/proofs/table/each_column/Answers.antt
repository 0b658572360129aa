use Rattle.std.proofs.Common.{◌∙◌, sym, arith}
use Rattle.schema_text.specs.inner.Texts.{column_of}
use Rattle.schema_text.proofs.Lists.{one_lent, not_lent}
use Rattle.schema_text.proofs.table.each_column.Goals as goal

pub returns-in-None-clause-columns : goal.returns-in-None-clause-columns
returns-in-None-clause-columns c =
    sym (not_lent column_of c.args.items.now c.loop-item.columns.items c.loop-item.item-index c.item-item.result (omega arith) c.loop-item.invariant.read c.item-item.is (sym c.in_ok-column.ensures ∙ c.in-None.is))

pub loop-item-preserved : goal.loop-item-preserved
loop-item-preserved c = record {
  count = omega (arith, c.in_ok-push-in-Some.ensures.len);
  read =
      rw c.in_ok-push-in-Some.ensures.items
      (one_lent column_of c.args.items.now c.loop-item.columns.items c.loop-item.item-index c.item-item.result c.in-Some.column (omega arith) c.loop-item.invariant.read c.item-item.is (sym c.in_ok-column.ensures ∙ c.in-Some.is));
}
