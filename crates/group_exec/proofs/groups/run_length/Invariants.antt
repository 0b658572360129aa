-- the rows up to the place are of the run
use Rattle.std.proofs.Common.{◌≡◌, ◌+◌, ◌-◌, ◌≤◌, drop, length, map}
use Rattle.group_exec.specs.inner.Made.{seen_line}
use Rattle.group_exec.specs.inner.Runs.{run_length}
use Rattle.group_exec.proofs.groups.run_length.Given as goal

abbrev pub invariant-loop-place : goal.invariant-loop-place
invariant-loop-place l =
    (1 ≤ l.place) × (l.place ≤ length l.rows)
    × (run_length l.sorts (map seen_line l.rows) ≡ (l.place - 1) + run_length l.sorts (drop (l.place - 1) (map seen_line l.rows)))
