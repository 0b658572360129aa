-- the pairs so far, and behind them those of the rows that are left, are those of all
use Rattle.std.proofs.Common.{map}
use Rattle.join_exec.proofs.Kept.{IsKeptTo}
use Rattle.row_source.specs.Matches.{alone}
use Rattle.join_exec.proofs.keeping.keep_alone.Given as goal

abbrev pub invariant-loop-row : goal.invariant-loop-row
invariant-loop-row l = IsKeptTo l.tests (λ rows. map alone (map (λ row. row.now) rows)) l.fn.kept.items l.rows l.kept.items l.row-index
