-- What a region keeps of its rows: the versions that a horizon leaves of those that the epochs made.
use Rattle.std.specs.Prelude.{◌≡◌, ℕ, suc, ◌+◌, ◌<◌, ◌≤◌, Some, List, [], ◌∷◌, length, unwrap_or}
use Rattle.geo_base.specs.declared.row_id.RowId.{RowId}
use Rattle.geo_base.specs.declared.outcome.Outcome.{Outcome}
use Rattle.geo_base.specs.Order.{row_cmp}
use Rattle.write_set.specs.declared.batch.Batch.{Batch}
use Rattle.write_set.specs.Journal.{Journal, Placed, Epochs, batches_at, epochs_of, last_sealed}
use Rattle.write_set.specs.Merge.{committed, verdicts}
use Rattle.page_map.specs.Pairs.{IsRising, found_at}
use Rattle.version_store.specs.Chains.{Chain, FallsBelow, grown, kept_at}

-- what is kept: the first and the last epoch that can be read, and for each row that has versions those, in rising order of rows
pub record Kept : Type 0 where
  pub horizon : ℕ
  pub applied : ℕ
  pub rows : List (RowId × Chain)

-- the versions that are kept of the row
abbrev pub chain_of : Kept → RowId → Chain
chain_of kept row = unwrap_or (found_at row_cmp row kept.rows) []

-- versions of a row as they are kept: some, of which the horizon leaves all, so that at most the last is at or below it, and is no removal there
pub record IsKeptChain (horizon applied : ℕ) (chain : Chain) : Type 0 where
  pub some : 1 ≤ length chain
  pub falls : FallsBelow (applied + 1) chain
  pub whole : kept_at horizon chain ≡ chain

-- what is kept is in order: the rows rise, and those that have versions have them as they are kept
pub record IsKept (kept : Kept) : Type 0 where
  pub within : kept.horizon ≤ kept.applied
  pub rising : IsRising row_cmp kept.rows
  pub chains : (row : RowId) (chain : Chain) → found_at row_cmp row kept.rows ≡ Some chain → IsKeptChain kept.horizon kept.applied chain

-- all the versions of the row that the epochs made: one for each epoch in which a candidate that commits changes the row
abbrev pub versions_of : Epochs → RowId → Chain
versions_of [] row = []
versions_of (all ∷ older) row = grown (length older + 1) (committed (all ∷ older)) row (versions_of older row)

-- what is kept is what the horizon leaves of the versions that the journal's epochs made, up to the last one applied
pub record IsHistoryOf (journal : Journal) (kept : Kept) : Type 0 where
  pub sealed : kept.applied ≤ last_sealed journal
  pub horizon : kept.horizon ≤ kept.applied
  pub chains : (row : RowId) → chain_of kept row ≡ kept_at kept.horizon (versions_of (epochs_of journal kept.applied) row)

-- where a row's last change is after the horizon, it is told; else an epoch that isn't after the horizon
pub record TellsChange (horizon last told : ℕ) : Type 0 where
  pub later : horizon < last → told ≡ last
  pub upto : last ≤ horizon → told ≤ horizon

-- the batches are those of the journal's next epoch, and the outcomes their verdicts
pub record AreNextOf (journal : Journal) (kept : Kept) (batches : List Batch) (outcomes : List Outcome) : Type 0 where
  pub sealed : kept.applied < last_sealed journal
  pub whole : batches ≡ batches_at journal kept.applied
  pub judged : outcomes ≡ verdicts (epochs_of journal (suc kept.applied))

-- the next epoch was applied, whose committed candidates are these: each row has the versions that they leave it
pub record IsApplied (committed : List Placed) (old new : Kept) : Type 0 where
  pub horizon : new.horizon ≡ old.horizon
  pub applied : new.applied ≡ old.applied + 1
  pub chains : (row : RowId) → chain_of new row ≡ grown (old.applied + 1) committed row (chain_of old row)

-- the horizon was moved to the epoch: each row has the versions that it leaves
pub record IsTrimmed (to : ℕ) (old new : Kept) : Type 0 where
  pub horizon : new.horizon ≡ to
  pub applied : new.applied ≡ old.applied
  pub chains : (row : RowId) → chain_of new row ≡ kept_at to (chain_of old row)
