use Rattle.std.proofs.Common.{◌≡◌, ℕ, List, length, refl, sym, ap, ◌∙◌, subst}
use Rattle.epoch_inbox.specs.Inbox.{Holding, others}
use Rattle.region_core.specs.Region.{RegionValue, next_batches, next_epoch}
use Rattle.region_core.specs.Publishing.{next_own_outcomes}
use Rattle.region_core.specs.inner.Publishing.{IsAdvance}
use Rattle.region_core.proofs.Counted.{few_outcomes}
use Rattle.region_core.proofs.Advanced.{leaves}
use Rattle.region_core.proofs.region.Region.publish_next.Goals as goal

pub count_committed-commits-requires : goal.count_committed-commits-requires
count_committed-commits-requires c = few_outcomes c.args.self.now c.args.outcomes.now c.lawful.ensures.stands c.requires.whole c.requires.outcomes

pub overflow_cast-aborts : goal.overflow_cast-aborts
overflow_cast-aborts c = record { fits = few_outcomes c.args.self.now c.args.outcomes.now c.lawful.ensures.stands c.requires.whole c.requires.outcomes }

pub invariant_of-self-2 : goal.invariant_of-self-2
invariant_of-self-2 c =
    leaves c.self.inside.no c.self.inside.regions c.self.inside.schema c.self.inside.last c.self.inside.up c.self.inside.life c.self.inside.log.items c.self.inside.open_candidates.items
    c.self.inside.inbox.held c.self.inside.versions c.self.inside.outcomes.items c.self.inside.size c.self.inside.inbox c.drop_epoch.new.self c.self.inside.index _ _ _ _ refl c.self.invariant
    (ap (λ (r : RegionValue). r.standing.up) c.self.view_is ∙ c.requires.up)
    (subst (λ (r : RegionValue). length (next_batches r.standing) ≡ r.standing.regions) (sym c.self.view_is) c.requires.whole)
    (subst (λ (r : RegionValue). IsAdvance r c.in_ok-versions.field-0.versions c.in_ok-versions.field-0.index) (sym c.self.view_is) c.in_ok-versions.ensures.made)
    (c.drop_epoch.ensures
    ∙ ap (λ (e : ℕ). record { regions = c.self.inside.inbox.regions; held = others c.self.inside.inbox.held e }) (c.requires.epoch ∙ ap (λ (r : RegionValue). next_epoch r.standing) (sym c.self.view_is)))
    (c.in_ok-versions.ensures.own ∙ ap next_own_outcomes (sym c.self.view_is)) c.in_ok-push.ensures.items
