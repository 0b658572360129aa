-- the pairs so far, and behind them those of the rows that are left, are those of all
use Rattle.std.proofs.Common.{map}
use Rattle.join_exec.proofs.Kept.{IsKeptTo}
use Rattle.row_source.specs.Matches.{paired}
use Rattle.join_exec.proofs.keeping.keep_beside.Given as goal

abbrev pub invariant-loop-right : goal.invariant-loop-right
invariant-loop-right l = IsKeptTo l.tests (λ rows. map (paired l.left) (map (λ row. row.now) rows)) l.fn.kept.items l.rights l.kept.items l.right-index
