use Rattle.std.proofs.Common.{List, [], ◌∷◌, sym, ◌∙◌, subst}
use Rattle.geo_base.specs.declared.outcome.Outcome.{Outcome}
use Rattle.index_store.specs.Store.{IsStoreOf, pairs_of}
use Rattle.snap_view.specs.laws.Following.{next_images, no_images}
use Rattle.snap_view.specs.laws.Histories.{holds_indexes}
use Rattle.snap_view.specs.Snapshots.{Held, HoldsIndexes, images_of}
use Rattle.version_store.specs.History.{Kept, IsApplied}
use Rattle.write_set.specs.Journal.{candidates_of}
use Rattle.write_set.specs.Merge.{committed_among}
use Rattle.report_tests.proofs.tables.snapshot_of.Goals as goal

pub returns : goal.returns
returns c =
    let batches = c.in_ok-judged.judged.zero ∷ c.in_ok-judged.judged.one ∷ [] in
    let step =
    subst (λ (outcomes : List Outcome). IsApplied (committed_among (candidates_of batches) outcomes) c.empty-versions.result c.apply_epoch.new.self)
    (c.as_slice.ensures.value ∙ sym c.as_slice-2.ensures.value) c.in_ok-apply_epoch.ensures.applied in
    let store =
    subst (λ (k : Kept). IsStoreOf c.args.schema.now (images_of k) c.empty-index.result) (sym c.empty-versions.ensures)
    (c.empty-index.ensures.begins c.args.schema.now (images_of (record { horizon = 0; applied = 0; rows = [] })) no_images) in
    let next =
    c.in_ok-apply.ensures.applied (images_of c.empty-versions.result) store
    (next_images (committed_among (candidates_of batches) c.as_slice-2.result.now) c.empty-versions.result c.apply_epoch.new.self c.keeps_order.ensures c.keeps_order-2.ensures step) in
    subst (λ (held : Held). HoldsIndexes c.args.schema.now held) (sym c.new.ensures.held)
    (holds_indexes c.args.schema.now c.apply_epoch.new.self (pairs_of c.apply.new.self) 1 c.keeps_order-2.ensures (IsStoreOf.index next))
