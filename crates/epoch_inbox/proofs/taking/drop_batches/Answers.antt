use Rattle.std.proofs.Common.{arith}
use Rattle.std.specs.Map.{values_of}
use Rattle.epoch_inbox.specs.inner.Entries.{held_below}
use Rattle.epoch_inbox.proofs.Kept.{gone_none, gone_more, taken_all}
use Rattle.epoch_inbox.proofs.taking.drop_batches.Goals as goal

pub loop-region-init : goal.loop-region-init
loop-region-init c = gone_none c.args.regions c.args.epoch c.args.batches.now.entries c.requires.kept

pub loop-region-preserved : goal.loop-region-preserved
loop-region-preserved c =
    gone_more c.args.regions c.args.epoch (values_of c.args.batches.now.entries) c.requires.kept.lawful.rising c.loop-region.batches.entries c.drop_batch.new.batches.entries c.loop-region.region
    c.loop-region.invariant c.drop_batch.ensures.left c.drop_batch.ensures.sorted

pub returns-clause-left : goal.returns-clause-left
returns-clause-left c =
    (taken_all c.args.regions c.args.epoch (values_of c.args.batches.now.entries) c.requires.kept.lawful.rising c.requires.kept.lawful.below c.loop-region.batches.entries c.loop-region.region
    (held_below (values_of c.args.batches.now.entries) c.args.epoch c.loop-region.region) c.loop-region.invariant (omega arith)).1
