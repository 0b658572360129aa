use Rattle.std.proofs.Common.{◌≡◌}
use Rattle.std.specs.Map.{values_of}
use Rattle.epoch_inbox.specs.inner.Entries.{held_below}
use Rattle.epoch_inbox.proofs.Kept.{lent_of}
use Rattle.epoch_inbox.proofs.taking.lend_epoch.Given as goal

-- the batches of the regions before this one are lent
abbrev pub invariant-loop-region : goal.invariant-loop-region
invariant-loop-region l = lent_of l.lent.items ≡ held_below (values_of l.batches.entries) l.epoch l.region
