use Rattle.std.proofs.Common.{◌≡◌, ◌≤◌, length}
use Rattle.epoch_inbox.specs.inner.Entries.{held_below}
use Rattle.epoch_inbox.proofs.inbox.Inbox.have.Given as goal

-- the batches of the regions before this one are counted
abbrev pub invariant-loop-region : goal.invariant-loop-region
invariant-loop-region l = record {
  counted : l.have ≡ length (held_below l.self.held l.epoch l.region);
  few : l.have ≤ l.region;
}
