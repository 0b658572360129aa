use Rattle.std.proofs.Common.{arith}
use Rattle.std.specs.Map.{values_of}
use Rattle.epoch_inbox.proofs.Kept.{taken_none, taken_more, taken_all}
use Rattle.epoch_inbox.proofs.taking.take_epoch.Goals as goal

pub loop-region-init : goal.loop-region-init
loop-region-init c = record {
  so_far = taken_none c.args.regions c.args.epoch c.args.batches.now.entries c.args.taken.now.items c.requires.kept c.requires.empty;
  room = c.requires.room;
}

pub loop-region-preserved : goal.loop-region-preserved
loop-region-preserved c = record {
  so_far = taken_more c.args.regions c.args.epoch (values_of c.args.batches.now.entries) c.requires.kept.lawful.rising c.loop-region.batches.entries c.take_batch.new.batches.entries c.loop-region.region c.loop-region.taken.items c.take_batch.new.taken.items
      c.loop-region.invariant.so_far c.take_batch.ensures.taken c.take_batch.ensures.left c.take_batch.ensures.sorted;
  room = omega (arith, c.loop-region.invariant.room, c.take_batch.ensures.capacity);
}

pub returns-clause-taken : goal.returns-clause-taken
returns-clause-taken c =
    (taken_all c.args.regions c.args.epoch (values_of c.args.batches.now.entries) c.requires.kept.lawful.rising c.requires.kept.lawful.below c.loop-region.batches.entries c.loop-region.region c.loop-region.taken.items
    c.loop-region.invariant.so_far (omega arith)).0

pub returns-clause-left : goal.returns-clause-left
returns-clause-left c =
    (taken_all c.args.regions c.args.epoch (values_of c.args.batches.now.entries) c.requires.kept.lawful.rising c.requires.kept.lawful.below c.loop-region.batches.entries c.loop-region.region c.loop-region.taken.items
    c.loop-region.invariant.so_far (omega arith)).1
