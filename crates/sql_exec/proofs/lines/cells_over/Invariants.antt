-- the cells so far, and behind them those of the items that are left, are the line
use Rattle.std.proofs.Common.{◌≡◌, [], drop, length}
use Rattle.group_exec.specs.Results.{plain_cell}
use Rattle.sql_bind.specs.Steps.{each_behind}
use Rattle.sql_exec.proofs.lines.cells_over.Given as goal

abbrev pub invariant-loop-item : goal.invariant-loop-item
invariant-loop-item l =
    record {
      count : length l.cells.items ≡ l.item-index;
      so_far : each_behind (λ _. plain_cell l.row) l.cells.items (drop l.item-index l.items) ≡ each_behind (λ _. plain_cell l.row) [] l.items;
    }
