use Rattle.std.proofs.Common.{◌<◌, arith, ap}
use Rattle.epoch_inbox.specs.Inbox.{Holding}
use Rattle.epoch_inbox.proofs.Kept.{kept_more, seen_more}
use Rattle.epoch_inbox.proofs.inbox.Inbox.hold.Goals as goal

pub invariant_of-self-2 : goal.invariant_of-self-2
invariant_of-self-2 c =
    let within : c.args.batch.region < c.self.inside.regions = omega (arith, c.requires, ap (λ (inbox : Holding). inbox.regions) c.self.view_is) in
    (kept_more c.self.inside.regions c.self.inside.batches.entries c.insert.new.self.entries c.args.batch c.self.invariant within c.in_ok-insert.ensures.entries c.insert.ensures.ordered).1

pub returns-clause-held : goal.returns-clause-held
returns-clause-held c =
    let within : c.args.batch.region < c.self.inside.regions = omega (arith, c.requires, ap (λ (inbox : Holding). inbox.regions) c.self.view_is) in
    seen_more c.args.self.now c.self.inside.regions c.self.inside.batches.entries c.insert.new.self.entries c.args.batch c.self.view_is
    (kept_more c.self.inside.regions c.self.inside.batches.entries c.insert.new.self.entries c.args.batch c.self.invariant within c.in_ok-insert.ensures.entries c.insert.ensures.ordered).0
