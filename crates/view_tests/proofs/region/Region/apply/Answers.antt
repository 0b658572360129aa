use Rattle.std.proofs.Common.{[], ◌∷◌, List, sym, ◌∙◌, subst}
use Rattle.geo_base.specs.declared.outcome.Outcome.{Outcome}
use Rattle.index_store.specs.Store.{IsStoreOf}
use Rattle.snap_view.specs.laws.Following.{next_images}
use Rattle.snap_view.specs.Snapshots.{images_of}
use Rattle.version_store.specs.History.{Kept, IsApplied}
use Rattle.write_set.specs.Journal.{candidates_of}
use Rattle.write_set.specs.Merge.{committed_among}
use Rattle.view_tests.proofs.region.Region.apply.Goals as goal

pub invariant_of-self : goal.invariant_of-self
invariant_of-self c =
    let step =
    subst (λ (k : Kept). IsApplied (committed_among (candidates_of (c.in_ok-judged.judged.zero ∷ c.in_ok-judged.judged.one ∷ [])) c.as_slice-2.result.now) k c.apply_epoch.new.self)
    c.in_ok-versions.ensures
    (subst
    (λ (outcomes : List Outcome). IsApplied (committed_among (candidates_of (c.in_ok-judged.judged.zero ∷ c.in_ok-judged.judged.one ∷ [])) outcomes) c.in_ok-versions.versions c.apply_epoch.new.self)
    (c.as_slice.ensures.value ∙ sym c.as_slice-2.ensures.value) c.in_ok-apply_epoch.ensures.applied) in
    let store = subst (IsStoreOf c.self.inside.schema.now (images_of c.self.inside.versions)) (sym c.in_ok-index.ensures) c.self.invariant in
    c.in_ok-apply.ensures.applied (images_of c.self.inside.versions) store
    (next_images (committed_among (candidates_of (c.in_ok-judged.judged.zero ∷ c.in_ok-judged.judged.one ∷ [])) c.as_slice-2.result.now)
    c.self.inside.versions c.apply_epoch.new.self c.keeps_order.ensures c.keeps_order-2.ensures step)
