use Rattle.std.proofs.Common.{not, ◌∙◌, ap}
use Rattle.std.specs.Prelude.{is_some}
use Rattle.epoch_inbox.specs.Inbox.{Holding, is_held}
use Rattle.epoch_inbox.proofs.Kept.{finds}
use Rattle.epoch_inbox.proofs.inbox.Inbox.missing.Goals as goal

pub returns : goal.returns
returns c =
    ap not (c.contains_key.ensures ∙ ap is_some (finds c.self.inside.regions c.self.inside.batches.entries c.self.invariant c.args.epoch c.args.region))
    ∙ ap (λ (inbox : Holding). not (is_held inbox.held c.args.epoch c.args.region)) c.self.view_is
