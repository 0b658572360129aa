use Rattle.std.proofs.Common.{◌≡◌, map, length}
use Rattle.schema_text.specs.inner.Texts.{column_of}
use Rattle.schema_text.proofs.Lists.{AreRead}
use Rattle.schema_text.proofs.table.each_column.Given as goal

abbrev pub invariant-loop-item : goal.invariant-loop-item
invariant-loop-item l = record {
  count : length l.columns.items ≡ l.item-index;
  read : AreRead column_of (map (λ item. item.now) l.items) l.columns.items l.item-index;
}
