-- the pairs so far, and behind them those of the rows that are left, are those of all
use Rattle.std.proofs.Common.{map}
use Rattle.join_exec.proofs.Kept.{IsKeptTo}
use Rattle.join_exec.specs.inner.Kept.{pairs_by}
use Rattle.join_exec.proofs.keeping.keep_product.Given as goal

abbrev pub invariant-loop-left : goal.invariant-loop-left
invariant-loop-left l = IsKeptTo l.tests (λ lefts. pairs_by (λ _. map (λ row. row.now) l.rights) (map (λ row. row.now) lefts)) l.fn.kept.items l.lefts l.kept.items l.left-index
