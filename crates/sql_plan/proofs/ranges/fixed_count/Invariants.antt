-- the columns so far are counted, and with those that are fixed of the others they are all
use Rattle.std.proofs.Common.{◌≡◌, ◌+◌, drop, length}
use Rattle.sql_plan.specs.Plans.{fixed_cells}
use Rattle.sql_plan.specs.inner.Borrowed.{usable}
use Rattle.sql_plan.proofs.ranges.fixed_count.Given as goal

abbrev pub invariant-loop-column : goal.invariant-loop-column
invariant-loop-column l =
    (l.count ≡ l.column-index)
    × (l.count + length (fixed_cells (usable l.tests) (drop l.column-index l.columns)) ≡ length (fixed_cells (usable l.tests) l.columns))
