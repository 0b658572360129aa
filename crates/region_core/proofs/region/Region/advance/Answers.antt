use Rattle.std.proofs.Common.{List, Bor, map, ap, ap₂, ◌∙◌, subst, arith}
use Rattle.geo_base.specs.declared.outcome.Outcome.{Outcome}
use Rattle.write_set.specs.declared.batch.Batch.{Batch}
use Rattle.write_set.specs.Journal.{candidates_of}
use Rattle.write_set.specs.Merge.{committed_among}
use Rattle.epoch_inbox.specs.Inbox.{held_of}
use Rattle.version_store.specs.History.{IsApplied}
use Rattle.index_store.specs.Kept.{KeptImages, IsNextOf}
use Rattle.index_store.specs.Store.{IsStoreOf}
use Rattle.snap_view.specs.Snapshots.{images_of}
use Rattle.region_core.specs.Region.{RegionValue}
use Rattle.region_core.specs.Lawful.{IsRegion}
use Rattle.region_core.specs.inner.Publishing.{own_among}
use Rattle.region_core.proofs.Advanced.{advanced, own_are}
use Rattle.region_core.proofs.region.Region.advance.Goals as goal

pub returns-clause-made : goal.returns-clause-made
returns-clause-made c =
    advanced c.args.self.now (subst IsRegion c.self.view_is c.self.invariant.lawful) c.self.inside.index
    (subst (λ (r : RegionValue). IsStoreOf r.standing.tables (images_of r.versions) c.self.inside.index) c.self.view_is c.self.invariant.follows)
    (map (λ b. b.now) c.in_ok-batches.batches.items) c.args.outcomes.now
    (c.in_ok-batches.ensures ∙ ap₂ held_of (ap (λ (r : RegionValue). r.standing.held) c.self.view_is) c.requires.epoch) c.requires.outcomes
    c.in_ok-versions.versions c.apply_epoch.new.self (c.in_ok-versions.ensures ∙ ap (λ (r : RegionValue). r.versions) c.self.view_is)
    (subst (λ (bs : List (Bor Batch)). IsApplied (committed_among (candidates_of (map (λ b. b.now) bs)) c.args.outcomes.now) c.in_ok-versions.versions c.apply_epoch.new.self)
    c.as_slice-2.ensures.value c.in_ok-apply_epoch.ensures.applied)
    c.keeps_order.ensures c.self.inside.schema (ap (λ (r : RegionValue). r.standing.tables) c.self.view_is) c.in_ok-index.index c.apply.new.self c.in_ok-index.ensures
    (subst
    (λ (bs : List (Bor Batch)). (kept : KeptImages) → IsStoreOf c.self.inside.schema kept c.in_ok-index.index →
    IsNextOf (committed_among (candidates_of (map (λ b. b.now) bs)) c.args.outcomes.now) kept (images_of c.apply_epoch.new.self) → IsStoreOf c.self.inside.schema (images_of c.apply_epoch.new.self) c.apply.new.self)
    c.as_slice-3.ensures.value c.in_ok-apply.ensures.applied)
    c.saturating_sub.result c.trim.new.self c.trim-2.new.self (omega (arith, c.saturating_sub.ensures, c.requires.epoch)) c.in_ok-trim.ensures.trimmed c.keeps_order-2.ensures c.in_ok-trim-2.ensures.trimmed

pub returns-clause-own : goal.returns-clause-own
returns-clause-own c =
    own_are c.args.self.now c.self.inside.no (map (λ b. b.now) c.in_ok-batches.batches.items) c.args.outcomes.now c.in_ok-own.own (ap (λ (r : RegionValue). r.standing.number) c.self.view_is)
    (c.in_ok-batches.ensures ∙ ap₂ held_of (ap (λ (r : RegionValue). r.standing.held) c.self.view_is) c.requires.epoch) c.requires.outcomes
    (c.in_ok-own.ensures ∙ ap (λ (bs : List (Bor Batch)). own_among c.self.inside.no (candidates_of (map (λ b. b.now) bs)) c.args.outcomes.now) c.as_slice.ensures.value)
