-- Laws: what an index follows, as the versions of rows go on.
use Rattle.std.proofs.Common.{◌≡◌, ℕ, ◌≤◌, ◌+◌, cond, None, List, [], ◌∷◌, refl, sym, ap, ◌∙◌, arith}
use Rattle.geo_base.specs.declared.row_id.RowId.{RowId}
use Rattle.index_store.specs.Kept.{IsKeptEpoch, IsNextOf, IsRestOf}
use Rattle.version_store.specs.Chains.{newest_image}
use Rattle.version_store.specs.History.{Kept, IsApplied, IsKept, IsTrimmed, chain_of}
use Rattle.version_store.specs.laws.Keeping.{earlier_stay, later_stay, newest_is_read}
use Rattle.write_set.specs.Journal.{Placed}
use Rattle.write_set.specs.Snapshot.{changes_of, image_after}
use Rattle.snap_view.specs.Snapshots.{images_of}

-- before the first epoch there are no images
pub no_images : (row : RowId) (epoch : ℕ) → IsKeptEpoch (images_of (record { horizon = 0; applied = 0; rows = [] })) epoch →
    (images_of (record { horizon = 0; applied = 0; rows = [] })).image row epoch ≡ None
no_images row epoch kept = refl

pub next_images : (committed : List Placed) (old new : Kept) → IsKept old → IsKept new → IsApplied committed old new → IsNextOf committed (images_of old) (images_of new)
next_images committed old new old_is new_is step = record {
  some = old_is.within;
  first = step.horizon;
  last = step.applied;
  before = λ row epoch kept. earlier_stay committed old new row step epoch kept.upto;
  others = λ row none.
      newest_is_read new row new_is
      ∙ (ap newest_image
      (step.chains row
      ∙ ap (λ b. cond b (record { epoch = old.applied + 1; image = image_after (changes_of committed) row (newest_image (chain_of old row)) } ∷ chain_of old row) (chain_of old row)) none)
      ∙ sym (newest_is_read old row old_is));
}

pub rest_images : (horizon : ℕ) (old new : Kept) → IsKept new → old.horizon ≤ horizon → IsTrimmed horizon old new → IsRestOf (images_of old) (images_of new)
rest_images horizon old new new_is from step = record {
  first = omega (arith, from, step.horizon);
  some = new_is.within;
  last = step.applied;
  same = λ row epoch kept. later_stay horizon old new row epoch step (omega (arith, step.horizon, kept.from));
}
