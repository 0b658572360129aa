-- the values so far are written, and the others are to be
use Rattle.std.proofs.Common.{◌≡◌, drop, length, map}
use Rattle.sql_exec.specs.inner.Fitting.{written}
use Rattle.sql_exec.proofs.updating.set_cells.Given as goal

abbrev pub invariant-loop-set : goal.invariant-loop-set
invariant-loop-set l =
    record {
      count : length l.cells.items ≡ length l.row;
      so_far :
          written l.row (map (λ set. set.column) (drop l.set-index l.sets)) (map (λ set. set.value) (drop l.set-index l.sets)) l.cells.items
          ≡ written l.row (map (λ set. set.column) l.sets) (map (λ set. set.value) l.sets) l.row;
    }
