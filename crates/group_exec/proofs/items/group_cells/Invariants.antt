-- the cells so far, and behind them those of the items that are left, are the line
use Rattle.std.proofs.Common.{◌≡◌, [], drop, length, map}
use Rattle.std.specs.List.{enumerate_from}
use Rattle.group_exec.specs.Groups.{item_cell}
use Rattle.group_exec.specs.inner.Made.{seen_row}
use Rattle.sql_bind.specs.Steps.{each_behind}
use Rattle.group_exec.proofs.items.group_cells.Given as goal

abbrev pub invariant-loop-place : goal.invariant-loop-place
invariant-loop-place l =
    record {
      count : length l.cells.items ≡ l.place;
      so_far : each_behind (λ _ i. item_cell (map seen_row l.rows) i.0 i.1) l.cells.items (enumerate_from l.place (drop l.place l.items)) ≡ each_behind (λ _ i. item_cell (map seen_row l.rows) i.0 i.1) [] (enumerate_from 0 l.items);
    }
