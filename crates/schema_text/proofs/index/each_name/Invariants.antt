use Rattle.std.proofs.Common.{map}
use Rattle.schema_text.specs.inner.Texts.{name_of}
use Rattle.schema_text.proofs.Lists.{AreRead}
use Rattle.schema_text.proofs.index.each_name.Given as goal

abbrev pub invariant-loop-item : goal.invariant-loop-item
invariant-loop-item l = AreRead name_of (map (λ item. item.now) l.items) l.names.items l.item-index
