use Rattle.std.proofs.Common.{◌≤◌, sym, subst, arith}
use Rattle.index_store.specs.Store.{IsStoreOf}
use Rattle.snap_view.specs.laws.Following.{rest_images}
use Rattle.snap_view.specs.Snapshots.{images_of}
use Rattle.version_store.specs.History.{Kept, IsTrimmed}
use Rattle.view_tests.proofs.region.Region.trim.Goals as goal

pub invariant_of-self : goal.invariant_of-self
invariant_of-self c =
    let from : c.self.inside.versions.horizon ≤ c.args.horizon = omega (arith, c.if-horizon.false, c.horizon.ensures.epoch) in
    let step = subst (λ (k : Kept). IsTrimmed c.args.horizon k c.trim.new.self) c.in_ok-versions.ensures c.in_ok-trim.ensures.trimmed in
    let store = subst (IsStoreOf c.self.inside.schema.now (images_of c.self.inside.versions)) (sym c.in_ok-index.ensures) c.self.invariant in
    c.in_ok-trim-2.ensures.trimmed c.self.inside.schema.now (images_of c.self.inside.versions) store
    (rest_images c.args.horizon c.self.inside.versions c.trim.new.self c.keeps_order.ensures from step)
