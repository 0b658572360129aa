-- so many columns are done
use Rattle.std.proofs.Common.{◌≡◌, map, take}
use Rattle.group_exec.specs.inner.Runs.{rising_by}
use Rattle.group_exec.proofs.groups.rising.Given as goal

abbrev pub invariant-loop-column : goal.invariant-loop-column
invariant-loop-column l = l.sorts.items ≡ map rising_by (take l.column-index l.columns)
