-- The batch of one region more is gathered.
use Rattle.std.proofs.Common.{Some, sym, ◌∙◌, subst}
use Rattle.std.specs.Option.{IsSome}
use Rattle.write_set.specs.declared.batch.Batch.{Batch}
use Rattle.geo_world.specs.inner.Regions.{next_batch_of}
use Rattle.geo_world.proofs.Gathering.{gathered_more, next_same, gathers_none, gathers_more}
use Rattle.geo_world.proofs.region.Region.gather.Goals as goal

pub loop-of-init : goal.loop-of-init
loop-of-init c = record { batches = c.new-batches.ensures.items; kept = gathers_none c.args.self.now c.args.number c.args.epoch }

pub take_next-requires-clause-there : goal.take_next-requires-clause-there
take_next-requires-clause-there c =
    subst (IsSome {T = Batch}) (sym (next_same c.args.self.now c.loop-of.self c.args.number c.args.epoch c.loop-of.of c.loop-of.invariant.kept))
    (c.requires.there c.loop-of.of c.loop-of-test.true)

pub loop-of-preserved : goal.loop-of-preserved
loop-of-preserved c =
    let same = next_same c.args.self.now c.loop-of.self c.args.number c.args.epoch c.loop-of.of c.loop-of.invariant.kept in
    record {
      batches = gathered_more (next_batch_of c.args.self.now c.args.number c.args.epoch) c.loop-of.of c.loop-of.batches.items c.push.new.self.items (Some c.in_ok-take_next.field-0)
          c.loop-of.invariant.batches (sym c.in_ok-take_next.ensures.taken ∙ same) c.in_ok-push.ensures.items;
      kept = gathers_more c.args.self.now c.loop-of.self c.take_next.new.self c.args.number c.args.epoch c.loop-of.of c.loop-of.invariant.kept c.take_next.ensures.kept;
    }
