use Rattle.epoch_inbox.proofs.Kept.{lawful_of}
use Rattle.epoch_inbox.proofs.inbox.Inbox.lawful.Goals as goal

pub returns : goal.returns
returns c = lawful_of c.args.self.now c.self.inside.regions c.self.inside.batches.entries c.self.invariant c.self.view_is
