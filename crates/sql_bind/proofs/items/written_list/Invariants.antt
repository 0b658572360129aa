-- the items so far are bound
use Rattle.std.proofs.Common.{◌≡◌, drop, length}
use Rattle.sql_bind.specs.Items.{item_of, written_list}
use Rattle.sql_bind.specs.Steps.{each_behind}
use Rattle.sql_bind.proofs.items.written_list.Given as goal

abbrev pub invariant-loop-item : goal.invariant-loop-item
invariant-loop-item l =
    record {
      count : length l.items.items ≡ l.item-index;
      so_far : each_behind (λ _ i. item_of l.schema l.scope l.plain i.value) l.items.items (drop l.item-index l.list) ≡ written_list l.schema l.scope l.plain l.list;
    }
