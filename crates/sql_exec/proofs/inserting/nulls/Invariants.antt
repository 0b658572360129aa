-- the columns so far have NULL
use Rattle.std.proofs.Common.{◌≡◌, take}
use Rattle.sql_exec.specs.inner.Fitting.{nulls}
use Rattle.sql_exec.proofs.inserting.nulls.Given as goal

abbrev pub invariant-loop-column : goal.invariant-loop-column
invariant-loop-column l = l.cells.items ≡ nulls (take l._column-index l.columns)
