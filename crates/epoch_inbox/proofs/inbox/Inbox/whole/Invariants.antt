use Rattle.std.proofs.Common.{◌≡◌, ℕ, ◌<◌, true}
use Rattle.epoch_inbox.specs.Inbox.{is_held}
use Rattle.epoch_inbox.proofs.inbox.Inbox.whole.Given as goal

-- the batches of the regions before this one are held
abbrev pub invariant-loop-region : goal.invariant-loop-region
invariant-loop-region l = (region : ℕ) → region < l.region → is_held l.self.held l.epoch region ≡ true
