-- the pairs so far, and behind them those of the left rows that are left, are those of all; and each has taken one step at most
use Rattle.std.proofs.Common.{◌+◌, ◌≤◌, map}
use Rattle.join_exec.proofs.Kept.{IsKeptTo}
use Rattle.join_exec.specs.inner.Kept.{pairs_by}
use Rattle.std.specs.List.{filter}
use Rattle.geo_base.specs.Order.{row_eq}
use Rattle.row_source.specs.Handing.{part_cell, row_named}
use Rattle.row_source.specs.Sources.{images}
use Rattle.join_exec.proofs.by_key.keep_by_key.Given as goal

abbrev pub invariant-loop-left : goal.invariant-loop-left
invariant-loop-left g l = record {
  pairs : IsKeptTo l.tests (λ lefts. pairs_by (λ left. images (filter (λ entry. row_eq (row_named l.table (map (part_cell left) l.parts)) entry.0) (g.R.RowSource.rows l.source))) (map (λ row. row.now) lefts))
      l.fn.kept.items l.lefts l.kept.items l.left-index;
  few : l.steps ≤ l.fn.steps + l.left-index;
}
