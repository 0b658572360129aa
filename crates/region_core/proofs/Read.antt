-- The rows of a snapshot are rows of the tables, where each image that is kept is.
use Rattle.std.proofs.Common.{◌≡◌, ℕ, ◌≤◌, refl, sym, ap, ◌∙◌, subst, arith}
use Rattle.index_store.specs.Store.{Stored, IsStoreOf, pairs_of}
use Rattle.snap_view.specs.Snapshots.{Held, images_of}
use Rattle.snap_view.specs.laws.Fitting.{rows_fit}
use Rattle.snap_view.specs.laws.Histories.{holds_indexes}
use Rattle.version_store.specs.History.{Kept}
use Rattle.epoch_inbox.specs.Inbox.{Holding}
use Rattle.region_core.specs.Region.{RegionValue}
use Rattle.region_core.specs.Lawful.{IsRegion}
use Rattle.region_core.specs.Calls.{IsOfEpoch}
use Rattle.region_core.specs.inner.Fields.{AreFields}

-- a snapshot of forks of what the region keeps is one of the region's
of_epoch : (r : RegionValue) (index : Stored) (epoch : ℕ) → IsRegion r → IsStoreOf r.standing.tables (images_of r.versions) index → r.versions.horizon ≤ epoch → epoch ≤ r.versions.applied →
    IsOfEpoch r epoch (record { versions = r.versions; pairs = pairs_of index; epoch = epoch })
of_epoch r index epoch h follows from upto = record {
  epoch = refl;
  versions = refl;
  indexes = holds_indexes r.standing.tables r.versions (pairs_of index) epoch h.kept follows.index;
  rows = rows_fit r.standing.tables (record { versions = r.versions; pairs = pairs_of index; epoch = epoch }) (record { order = h.kept; from = from; upto = upto }) h.fits;
}

pub snapshot_of : (size : ℕ) (inbox : Holding) (index : Stored) (old value : RegionValue) (versions : Kept) (fork : Stored) (epoch : ℕ) (held : Held) →
    AreFields size inbox index old → old ≡ value → value.versions.horizon ≤ epoch → epoch ≤ value.versions.applied → versions ≡ old.versions → fork ≡ index → held ≡ record { versions = versions; pairs = pairs_of fork; epoch = epoch } → IsOfEpoch value epoch held
snapshot_of size inbox index old value versions fork epoch held fields view from upto same_versions same_index is =
    subst (λ (r : RegionValue). IsOfEpoch r epoch held) view
    (subst (IsOfEpoch old epoch) (sym (is ∙ (λ i. record { versions = same_versions i; pairs = pairs_of (same_index i); epoch = epoch })))
    (of_epoch old index epoch fields.lawful fields.follows
    (omega (arith, from, ap (λ (r : RegionValue). r.versions.horizon) view)) (omega (arith, upto, ap (λ (r : RegionValue). r.versions.applied) view))))
