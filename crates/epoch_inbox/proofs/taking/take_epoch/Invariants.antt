use Rattle.std.proofs.Common.{◌≤◌}
use Rattle.std.specs.Map.{values_of}
use Rattle.std.specs.Vec.{vec_capacity}
use Rattle.epoch_inbox.proofs.Kept.{HasTaken}
use Rattle.epoch_inbox.proofs.taking.take_epoch.Given as goal

-- the batches of the regions before this one are taken
abbrev pub invariant-loop-region : goal.invariant-loop-region
invariant-loop-region l = record {
  so_far : HasTaken l.regions l.epoch (values_of l.fn.batches.entries) l.batches.entries l.region l.taken.items;
  room : l.regions ≤ vec_capacity l.taken;
}
