use Rattle.std.proofs.Common.{arith, sym, ◌∙◌, ap}
use Rattle.std.specs.Map.{values_of}
use Rattle.epoch_inbox.specs.inner.Entries.{held_below}
use Rattle.epoch_inbox.specs.laws.Held.{below_none, below_all}
use Rattle.epoch_inbox.proofs.Kept.{lent_of, lends_more, lends_none}
use Rattle.epoch_inbox.proofs.taking.lend_epoch.Goals as goal
use Rattle.epoch_inbox.proofs.taking.lend_epoch.Goals.{in-Some+in_ok-push-in-Some, in-None}

pub loop-region-init : goal.loop-region-init
loop-region-init c = ap lent_of c.new-lent.ensures.items ∙ sym (below_none (values_of c.args.batches.now.entries) c.args.epoch)

pub loop-region-preserved : goal.loop-region-preserved
loop-region-preserved c = elim c.match-get.branch [
  | in-Some+in_ok-push-in-Some w ↦
      lends_more c.args.regions c.args.batches.now.entries c.requires.kept c.args.epoch c.loop-region.region c.loop-region.lent.items c.loop-region.invariant
      c.match-get.lent.items c.get.result w.in-Some.batch w.in-Some.is c.get.ensures.value (ap (λ l. l.items) w.lent-is ∙ w.in_ok-push-in-Some.ensures.items)
  | in-None w ↦
      ap (λ l. lent_of l.items) w.lent-is
      ∙ lends_none c.args.regions c.args.batches.now.entries c.requires.kept c.args.epoch c.loop-region.region c.loop-region.lent.items c.loop-region.invariant c.get.result w.in-None.is c.get.ensures.value
]

pub returns : goal.returns
returns c =
    c.loop-region.invariant ∙ ap (held_below (values_of c.args.batches.now.entries) c.args.epoch) (omega arith)
    ∙ below_all (values_of c.args.batches.now.entries) c.args.epoch c.args.regions c.requires.kept.lawful.below
