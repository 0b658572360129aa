-- What is removed is of that region and epoch.
use Rattle.std.proofs.Common.{Bool, cond, None, ap, ◌∙◌}
use Rattle.geo_world.specs.inner.Arrivals.{batch_in}
use Rattle.geo_world.proofs.Arriving.{same_place}
use Rattle.geo_world.proofs.inbox.take_batch.Goals as goal

pub returns-clause-left : goal.returns-clause-left
returns-clause-left c = λ q later. c.remove.ensures.updates.0 (q, later)
    ∙ ap (λ (b : Bool). cond b None (batch_in c.args.inbox.now q later)) (same_place c.args.of c.args.epoch q later)
