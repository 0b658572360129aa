use Rattle.std.proofs.Common.{[], get_or, ◌∙◌}
use Rattle.std.proofs.lemmas.List.{length-set}
use Rattle.std.proofs.lemmas.Result.{err_from_is_err_and}
use Rattle.sql_exec.proofs.Written.{next_fails, next_written}
use Rattle.sql_exec.proofs.inserting.new_cells.Goals as goal

pub returns-in_err-cells-2 : goal.returns-in_err-cells-2
returns-in_err-cells-2 c =
    let p = err_from_is_err_and c.from_residual-in_err-cells-2.result c.from_residual-in_err-cells-2.ensures.1 in
    rw (p.1, p.2)
    (next_fails [] c.args.places.now c.args.values.now c.loop-at.cells.items c.loop-at.at c.index-values-at.result _ _ c.loop-at-test.true c.requires.count c.index-values-at.is
    c.loop-at.invariant.so_far _ c.in_err-cells-2.ensures)

pub loop-at-preserved : goal.loop-at-preserved
loop-at-preserved c =
    record {
      count = length-set c.loop-at.cells.items (get_or c.args.places.now c.loop-at.at 0) c.in_ok-cells-2.field-0 ∙ c.loop-at.invariant.count;
      so_far =
          next_written [] c.args.places.now c.args.values.now c.loop-at.cells.items c.loop-at.at c.index-values-at.result _ _ c.loop-at-test.true c.requires.count c.index-values-at.is
          c.loop-at.invariant.so_far c.in_ok-cells-2.field-0 c.in_ok-cells-2.ensures;
    }
