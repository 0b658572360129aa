-- the pairs so far, and behind them those of the rows that are left, are those of all
use Rattle.std.proofs.Common.{map}
use Rattle.join_exec.proofs.Kept.{IsKeptTo}
use Rattle.join_exec.specs.inner.Kept.{pairs_by}
use Rattle.join_exec.specs.inner.Linked.{rows_at}
use Rattle.row_source.specs.Handing.{cell_at}
use Rattle.join_exec.proofs.by_link.keep_linked.Given as goal

abbrev pub invariant-loop-left : goal.invariant-loop-left
invariant-loop-left l =
    IsKeptTo l.tests (λ lefts. pairs_by (λ left. rows_at (λ k. k.now) (λ v. map (λ r. r.now) v.items) l.links.entries (cell_at left l.column)) (map (λ row. row.now) lefts))
    l.fn.kept.items l.lefts l.kept.items l.left-index
