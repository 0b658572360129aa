use Rattle.std.proofs.Common.{arith}
use Rattle.merge_round.proofs.Growing.{next_batch}
use Rattle.merge_round.proofs.numbering.number.Goals as goal

pub loop-batch-preserved : goal.loop-batch-preserved
loop-batch-preserved c = (
  next_batch c.args.batches.now c.loop-batch.batch-index c.batch-item.result _ c.loop-batch.numbering c.number_batch.new.numbering c.loop-batch.invariant.0 c.loop-batch-test.true c.batch-item.is c.in_ok-number_batch.ensures.grown,
  (let more = c.in_ok-number_batch.ensures.room in let before = c.loop-batch.invariant.1 in omega arith),
)
