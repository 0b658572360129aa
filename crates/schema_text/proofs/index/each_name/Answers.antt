use Rattle.std.proofs.Common.{◌∙◌, sym, arith}
use Rattle.schema_text.specs.inner.Texts.{name_of}
use Rattle.schema_text.proofs.Lists.{one_lent, not_lent}
use Rattle.schema_text.proofs.index.each_name.Goals as goal

pub returns-in-None : goal.returns-in-None
returns-in-None c =
    sym (not_lent name_of c.args.items.now c.loop-item.names.items c.loop-item.item-index c.item-item.result (omega arith) c.loop-item.invariant c.item-item.is (sym c.in_ok-name.ensures ∙ c.in-None.is))

pub loop-item-preserved : goal.loop-item-preserved
loop-item-preserved c =
    rw c.in_ok-push-in-Some.ensures.items
    (one_lent name_of c.args.items.now c.loop-item.names.items c.loop-item.item-index c.item-item.result c.in-Some.name (omega arith) c.loop-item.invariant c.item-item.is (sym c.in_ok-name.ensures ∙ c.in-Some.is))
