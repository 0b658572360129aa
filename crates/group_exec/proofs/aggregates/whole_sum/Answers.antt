use Rattle.std.proofs.Common.{arith}
use Rattle.std.proofs.lemmas.Int.{ints}
use Rattle.group_exec.proofs.Numbers.{sum_step}
use Rattle.group_exec.proofs.aggregates.whole_sum.Goals as goal

pub loop-cell-preserved : goal.loop-cell-preserved
loop-cell-preserved c = (
  sum_step c.args.cells.now c.loop-cell.cell-index c.cell-item.result _ c.integer.result _ _ c.loop-cell-test.true c.cell-item.is c.integer.ensures (omega (arith, ints)) c.loop-cell.invariant.0,
  omega (arith, ints),
  omega (arith, ints),
)
