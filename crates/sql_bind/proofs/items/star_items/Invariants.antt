-- the columns so far are items
use Rattle.std.proofs.Common.{◌≡◌, ◌+◌, drop, length}
use Rattle.sql_bind.specs.Items.{next_star}
use Rattle.sql_bind.specs.Steps.{each_behind}
use Rattle.sql_bind.proofs.items.star_items.Given as goal

abbrev pub invariant-loop-column : goal.invariant-loop-column
invariant-loop-column l =
    record {
      count : length l.items.items ≡ length l.fn.items.items + l.column-index;
      so_far : each_behind (next_star l.plain) l.items.items (drop l.column-index l.columns) ≡ each_behind (next_star l.plain) l.fn.items.items l.columns;
    }
