use Rattle.std.proofs.Common.{◌∙◌, ap}
use Rattle.epoch_inbox.specs.Inbox.{Holding, held_at}
use Rattle.epoch_inbox.proofs.Kept.{finds}
use Rattle.epoch_inbox.proofs.inbox.Inbox.get.Goals as goal

pub returns : goal.returns
returns c =
    c.get.ensures.value ∙ finds c.self.inside.regions c.self.inside.batches.entries c.self.invariant c.args.epoch c.args.region
    ∙ ap (λ (inbox : Holding). held_at inbox.held c.args.epoch c.args.region) c.self.view_is
