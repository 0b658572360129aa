use Rattle.std.proofs.Common.{◌≡◌, arith, sym, ◌∙◌, ap, length}
use Rattle.epoch_inbox.specs.Inbox.{Holding, IsLawful}
use Rattle.epoch_inbox.specs.laws.Held.{below_none}
use Rattle.epoch_inbox.proofs.Kept.{lawful_of, counts_held, counts_missing, counts_all}
use Rattle.epoch_inbox.proofs.inbox.Inbox.have.Goals as goal
use Rattle.epoch_inbox.proofs.inbox.Inbox.have.Goals.{then-not-missing, else-not-missing}

pub loop-region-init : goal.loop-region-init
loop-region-init c = record { counted = sym (ap length (below_none c.args.self.now.held c.args.epoch)); few = omega arith }

pub loop-region-preserved : goal.loop-region-preserved
loop-region-preserved c =
    let lawful : IsLawful c.args.self.now = lawful_of c.args.self.now c.self.inside.regions c.self.inside.batches.entries c.self.invariant c.self.view_is in
    elim c.if-not-missing.branch [
      | then-not-missing w ↦ record {
        counted = w.have-is ∙ counts_held c.args.self.now c.args.epoch c.loop-region.region c.loop-region.have lawful c.loop-region.invariant.counted c.missing.result c.missing.ensures w.if-not-missing.true;
        few = omega arith;
      }
      | else-not-missing w ↦ record {
        counted = w.have-is ∙ counts_missing c.args.self.now c.args.epoch c.loop-region.region c.loop-region.have lawful c.loop-region.invariant.counted c.missing.result c.missing.ensures w.if-not-missing.false;
        few = omega arith;
      }
    ]

pub returns : goal.returns
returns c =
    let lawful : IsLawful c.args.self.now = lawful_of c.args.self.now c.self.inside.regions c.self.inside.batches.entries c.self.invariant c.self.view_is in
    let end : c.loop-region.region ≡ c.args.self.now.regions = omega (arith, ap (λ (inbox : Holding). inbox.regions) c.self.view_is) in
    counts_all c.args.self.now c.args.epoch c.loop-region.region c.loop-region.have lawful c.loop-region.invariant.counted end
