use Rattle.std.specs.Map.{values_of}
use Rattle.epoch_inbox.specs.inner.Entries.{held_below}
use Rattle.epoch_inbox.proofs.Kept.{HasTaken}
use Rattle.epoch_inbox.proofs.taking.drop_batches.Given as goal

-- the batches of the regions before this one are gone
abbrev pub invariant-loop-region : goal.invariant-loop-region
invariant-loop-region l = HasTaken l.regions l.epoch (values_of l.fn.batches.entries) l.batches.entries l.region (held_below (values_of l.fn.batches.entries) l.epoch l.region)
