-- The map has the batch at its place, and at other places what it had.
use Rattle.std.proofs.Common.{Bool, cond, ap, ◌∙◌, Some}
use Rattle.geo_world.specs.inner.Arrivals.{batch_in}
use Rattle.geo_world.proofs.Arriving.{same_place}
use Rattle.geo_world.proofs.inbox.put_batch.Goals as goal

pub returns : goal.returns
returns c = λ of epoch. c.in_ok-insert.ensures.updates.0 (of, epoch)
    ∙ ap (λ (b : Bool). cond b (Some c.args.batch) (batch_in c.args.inbox.now of epoch)) (same_place c.args.batch.region c.args.batch.epoch of epoch)
