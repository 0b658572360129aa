use Rattle.write_set.proofs.Lists.{candidates_of_more}
use Rattle.write_set.proofs.entrant.entrants.Goals as goal

pub loop-batch-preserved : goal.loop-batch-preserved
loop-batch-preserved c =
    let more = candidates_of_more c.args.batches.now c.loop-batch.batch-index c.batch-item.result c.loop-batch-test.true in
    let entered = c.in_ok-enter.ensures in
    cc
