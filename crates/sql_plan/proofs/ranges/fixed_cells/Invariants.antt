-- the cells so far, and those that the columns left fix, are all
use Rattle.std.proofs.Common.{◌≡◌, ◌++◌, drop}
use Rattle.sql_plan.specs.Plans as plans
use Rattle.sql_plan.specs.inner.Borrowed.{usable}
use Rattle.sql_plan.proofs.ranges.fixed_cells.Given as goal

abbrev pub invariant-loop-column : goal.invariant-loop-column
invariant-loop-column l = l.fixed.items ++ plans.fixed_cells (usable l.tests) (drop l.column-index l.columns) ≡ plans.fixed_cells (usable l.tests) l.columns
