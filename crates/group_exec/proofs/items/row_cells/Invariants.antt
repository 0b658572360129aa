-- the cells so far, and behind them those of the items that are left, are the line
use Rattle.std.proofs.Common.{◌≡◌, [], drop, length}
use Rattle.group_exec.specs.Results.{plain_cell}
use Rattle.row_source.specs.Matches.{pair_cells}
use Rattle.sql_bind.specs.Steps.{each_behind}
use Rattle.group_exec.proofs.items.row_cells.Given as goal

abbrev pub invariant-loop-item : goal.invariant-loop-item
invariant-loop-item l =
    record {
      count : length l.cells.items ≡ l.item-index;
      so_far : each_behind (λ _. plain_cell (pair_cells l.pair)) l.cells.items (drop l.item-index l.items) ≡ each_behind (λ _. plain_cell (pair_cells l.pair)) [] l.items;
    }
