use Rattle.std.proofs.Common.{ap, arith}
use Rattle.write_set.specs.declared.batch.Batch.{Batch}
use Rattle.epoch_inbox.specs.Inbox.{Holding}
use Rattle.region_core.proofs.Insides.{holding}
use Rattle.region_core.proofs.Started.{of_log_item, held_more}
use Rattle.region_core.proofs.restarting.hold_all.Goals as goal

pub loop-batch-init : goal.loop-batch-init
loop-batch-init c = ap (holding c.args.inbox.now.regions) c.requires.empty

pub hold-requires : goal.hold-requires
hold-requires c =
    let (tables, (region, there, of_log)) = c.requires.of_log in
    let item = of_log_item tables c.args.inbox.now.regions region c.loop-batch.batch-index c.args.log.now c.batch-item.result of_log c.loop-batch-test.true c.batch-item.is in
    omega (arith, item.region, there, ap (λ (b : Batch). b.region) c.in_ok-copy.ensures, ap (λ (k : Holding). k.regions) c.loop-batch.invariant)

pub loop-batch-preserved : goal.loop-batch-preserved
loop-batch-preserved c =
    let (tables, (region, there, of_log)) = c.requires.of_log in
    held_more tables c.args.inbox.now.regions region c.loop-batch.inbox _ c.args.inbox.now.regions c.loop-batch.batch-index c.args.log.now c.batch-item.result _
    of_log c.loop-batch-test.true c.batch-item.is c.in_ok-copy.ensures c.loop-batch.invariant c.in_ok-hold.ensures.held
