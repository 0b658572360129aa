-- the arguments so far, and behind them those on the rows that are left, are all arguments
use Rattle.std.proofs.Common.{◌≡◌, ◌++◌, drop, map}
use Rattle.group_exec.specs.Groups.{arguments_without_null}
use Rattle.group_exec.specs.inner.Made.{seen_row}
use Rattle.group_exec.proofs.aggregates.arguments_at.Given as goal

abbrev pub invariant-loop-row : goal.invariant-loop-row
invariant-loop-row l =
    (map (λ cell. cell.now) l.found.items ++ arguments_without_null l.place (map seen_row (drop l.row-index l.rows))) ≡ arguments_without_null l.place (map seen_row l.rows)
