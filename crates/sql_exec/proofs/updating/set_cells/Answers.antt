use Rattle.std.proofs.Common.{◌∙◌}
use Rattle.std.proofs.lemmas.List.{length-set}
use Rattle.std.proofs.lemmas.Result.{err_from_is_err_and}
use Rattle.sql_exec.proofs.Written.{all_set, next_set, set_fails}
use Rattle.sql_exec.proofs.updating.set_cells.Goals as goal

pub returns-in_err-cells-2 : goal.returns-in_err-cells-2
returns-in_err-cells-2 c =
    let p = err_from_is_err_and c.from_residual-in_err-cells-2.result c.from_residual-in_err-cells-2.ensures.1 in
    rw (p.1, p.2)
    (set_fails c.args.row.now c.args.sets.now c.loop-set.cells.items c.loop-set.set-index c.set-item.result _ _ c.loop-set-test.true c.set-item.is
    c.loop-set.invariant.so_far _ c.in_err-cells-2.ensures)

pub loop-set-preserved : goal.loop-set-preserved
loop-set-preserved c =
    record {
      count = length-set c.loop-set.cells.items c.set-item.result.column c.in_ok-cells-2.field-0 ∙ c.loop-set.invariant.count;
      so_far =
          next_set c.args.row.now c.args.sets.now c.loop-set.cells.items c.loop-set.set-index c.set-item.result _ _ c.loop-set-test.true c.set-item.is
          c.loop-set.invariant.so_far c.in_ok-cells-2.field-0 c.in_ok-cells-2.ensures;
    }

pub returns : goal.returns
returns c = all_set c.args.row.now c.args.sets.now c.loop-set.cells.items c.loop-set.set-index _ c.loop-set-test.false c.loop-set.invariant.so_far
