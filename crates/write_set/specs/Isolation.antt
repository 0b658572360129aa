-- Snapshot isolation of a journal: two transactions that overlap never change one row, and no row that one has, if only touched, is
-- changed by another after its start and up to its epoch. What they read is said where they run.
use Rattle.std.specs.Prelude.{◌≡◌, ◌⊎◌, ℕ, suc, ◌<◌, ◌≤◌, true, false, Contains}
use Rattle.geo_base.specs.declared.row_id.RowId.{RowId}
use Rattle.write_set.specs.declared.change.Change.{Change}
use Rattle.write_set.specs.Sets.{has_row, changes_row}
use Rattle.write_set.specs.Journal.{Journal, Placed, epochs_of, last_sealed}
use Rattle.write_set.specs.Merge.{committed}
use Rattle.write_set.specs.Snapshot.{snap_at, image_left}

-- the candidate is one of the epoch that commits
pub record Commits (journal : Journal) (epoch : ℕ) (c : Placed) : Type 0 where
  pub sealed : epoch ≤ last_sealed journal
  pub among : Contains (committed (epochs_of journal epoch)) c

-- the snapshot after the epoch is the one before it with the puts and removals of the candidates that commit: a row that one of them
-- has is as that one leaves it, and a row that none of them changes is as it was
pub record AppliesEpoch (journal : Journal) (epoch : ℕ) : Type 0 where
  pub written : (c : Placed) (row : RowId) (change : Change) → Commits journal (suc epoch) c → Contains c.set (row, change) →
      snap_at (epochs_of journal (suc epoch)) row ≡ image_left change (snap_at (epochs_of journal epoch) row)
  pub kept : (row : RowId) → ((c : Placed) → Commits journal (suc epoch) c → changes_row row c.set ≡ false) →
      snap_at (epochs_of journal (suc epoch)) row ≡ snap_at (epochs_of journal epoch) row

-- the two candidates are one, or one has committed when the other starts
abbrev pub AreApart : ℕ → Placed → ℕ → Placed → Type 0
AreApart e c f d = ((e ≡ f) × (c ≡ d)) ⊎ ((e ≤ d.start) ⊎ (f ≤ c.start))

-- the second candidate is the first, or it has committed when the first starts, or it commits in a later epoch than the first
abbrev pub IsOutside : ℕ → Placed → ℕ → Placed → Type 0
IsOutside e c f d = ((e ≡ f) × (c ≡ d)) ⊎ ((f ≤ c.start) ⊎ (e < f))

-- the committed transactions of the journal are a snapshot-isolated history
pub record IsSnapshotIsolated (journal : Journal) : Type 0 where
  pub starts : (epoch : ℕ) (c : Placed) → Commits journal epoch c → c.start < epoch
  pub applies : (epoch : ℕ) → suc epoch ≤ last_sealed journal → AppliesEpoch journal epoch
  pub apart : (e f : ℕ) (c d : Placed) (row : RowId) → Commits journal e c → Commits journal f d →
      changes_row row c.set ≡ true → changes_row row d.set ≡ true → AreApart e c f d
  pub claimed : (e f : ℕ) (c d : Placed) (row : RowId) → Commits journal e c → Commits journal f d →
      has_row row c.set ≡ true → changes_row row d.set ≡ true → IsOutside e c f d
