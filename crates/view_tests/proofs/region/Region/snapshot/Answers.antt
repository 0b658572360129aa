use Rattle.std.proofs.Common.{◌∙◌, sym, ap, subst}
use Rattle.index_store.specs.Indexes.{IsIndexOf}
use Rattle.index_store.specs.Store.{IsStoreOf, Stored, pairs_of}
use Rattle.snap_view.specs.laws.Histories.{holds_indexes}
use Rattle.snap_view.specs.Snapshots.{Held, HoldsIndexes, images_of}
use Rattle.version_store.specs.History.{Kept, IsKept}
use Rattle.view_tests.proofs.region.Region.snapshot.Goals as goal

pub returns : goal.returns
returns c =
    let kept = subst IsKept (sym c.in_ok-versions.ensures) c.keeps_order.ensures in
    let store =
    subst (λ (k : Kept). IsStoreOf c.self.inside.schema.now (images_of k) c.in_ok-index.index) (sym c.in_ok-versions.ensures)
    (subst (IsStoreOf c.self.inside.schema.now (images_of c.self.inside.versions)) (sym c.in_ok-index.ensures) c.self.invariant) in
    subst (λ (held : Held). HoldsIndexes c.args.self.now held) (sym c.new.ensures.held)
    (subst (λ tables. HoldsIndexes tables (record { versions = c.in_ok-versions.versions; pairs = pairs_of c.in_ok-index.index; epoch = c.args.epoch })) c.self.view_is
    (holds_indexes c.self.inside.schema.now c.in_ok-versions.versions (pairs_of c.in_ok-index.index) c.args.epoch kept (IsStoreOf.index store)))
