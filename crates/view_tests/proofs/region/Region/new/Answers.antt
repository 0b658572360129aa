use Rattle.std.proofs.Common.{[], sym, subst}
use Rattle.index_store.specs.Store.{IsStoreOf}
use Rattle.snap_view.specs.laws.Following.{no_images}
use Rattle.snap_view.specs.Snapshots.{images_of}
use Rattle.version_store.specs.History.{Kept}
use Rattle.view_tests.proofs.region.Region.new.Goals as goal

pub invariant_of-result : goal.invariant_of-result
invariant_of-result c =
    subst (λ (kept : Kept). IsStoreOf c.args.schema.now (images_of kept) c.empty-2.result) (sym c.empty.ensures)
    (c.empty-2.ensures.begins c.args.schema.now (images_of (record { horizon = 0; applied = 0; rows = [] })) no_images)
