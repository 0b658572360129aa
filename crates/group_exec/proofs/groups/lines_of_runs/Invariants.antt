-- the lines so far, and behind them those of the runs that are left, are all lines
use Rattle.std.proofs.Common.{◌≡◌, ◌-◌, ◌≤◌, [], drop, length, map}
use Rattle.group_exec.specs.Results.{group_line}
use Rattle.group_exec.specs.inner.Made.{seen_line}
use Rattle.group_exec.specs.inner.Runs.{as_row, runs}
use Rattle.sql_bind.specs.Steps.{each_behind}
use Rattle.group_exec.proofs.groups.lines_of_runs.Given as goal

abbrev pub invariant-loop-start : goal.invariant-loop-start
invariant-loop-start l =
    (l.start ≤ length l.rows)
    × (each_behind (λ _ run. group_line l.items (map as_row run)) (map seen_line l.lines.items) (runs l.sorts (map seen_line (drop l.start l.rows)))
    ≡ each_behind (λ _ run. group_line l.items (map as_row run)) [] (runs l.sorts (map seen_line l.rows)))

abbrev pub decreases-loop-start : goal.decreases-loop-start
decreases-loop-start l = length l.rows - l.start
