-- the values so far are written, and the others are to be
use Rattle.std.proofs.Common.{◌≡◌, [], drop, length}
use Rattle.sql_exec.specs.inner.Fitting.{nulls, written}
use Rattle.sql_exec.proofs.inserting.new_cells.Given as goal

abbrev pub invariant-loop-at : goal.invariant-loop-at
invariant-loop-at l =
    record {
      count : length l.cells.items ≡ length l.columns;
      so_far : written [] (drop l.at l.places) (drop l.at l.values) l.cells.items ≡ written [] l.places l.values (nulls l.columns);
    }
