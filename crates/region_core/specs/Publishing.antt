-- What a region makes of its next epoch, of which it holds the batches of all regions: the outcomes of its candidates, the versions
-- of the rows that the committed ones change, and the horizon. And what each entry makes of a whole region.
use Rattle.std.specs.Prelude.{◌≡◌, ℕ, ◌==◌, List, [], ◌∷◌, ◌++◌, filter, map}
use Rattle.geo_base.specs.declared.outcome.Outcome.{Outcome}
use Rattle.geo_base.specs.declared.row_id.RowId.{RowId}
use Rattle.write_set.specs.Journal.{Placed}
use Rattle.write_set.specs.Merge.{verdict_of, committed_among}
use Rattle.version_store.specs.History.{Kept, IsKept, IsApplied, IsTrimmed}
use Rattle.region_core.specs.Region.{RegionValue, next_epoch, next_candidates, last_in, horizon_at, unpublished, with_standing}
use Rattle.region_core.specs.Entries.{Entry, Txn, Seal, Arrive, Publish, Crash, after}

-- what becomes of each of these candidates of the epoch, where `last` gives each row's last change
abbrev pub outcomes_by : (RowId → ℕ) → ℕ → List Placed → List Outcome
outcomes_by last epoch all = map (verdict_of last epoch all) all

-- what becomes of those of one region, by commit number
abbrev pub own_outcomes_by : (RowId → ℕ) → ℕ → List Placed → ℕ → List Outcome
own_outcomes_by last epoch all region = map (verdict_of last epoch all) (filter (λ c. c.region == region) all)

-- what becomes of each candidate of the next epoch
abbrev pub next_outcomes : RegionValue → List Outcome
next_outcomes r = outcomes_by (last_in r) (next_epoch r.standing) (next_candidates r.standing)

-- what becomes of the region's own
abbrev pub next_own_outcomes : RegionValue → List Outcome
next_own_outcomes r = own_outcomes_by (last_in r) (next_epoch r.standing) (next_candidates r.standing) r.standing.number

-- the candidates of the next epoch that commit
abbrev pub next_committed : RegionValue → List Placed
next_committed r = committed_among (next_candidates r.standing) (next_outcomes r)

-- the region publishes its next epoch: the committed candidates' changes are applied to its versions, and the horizon follows. What is
-- kept is in order again
pub record Publishes (old new : RegionValue) : Type 0 where
  pub standing : new.standing ≡ after (Publish (next_epoch old.standing)) old.standing
  pub grown : Kept
  pub applied : IsApplied (next_committed old) old.versions grown
  pub trimmed : IsTrimmed (horizon_at (next_epoch old.standing)) grown new.versions
  pub kept : IsKept new.versions
  pub outcomes : new.outcomes ≡ old.outcomes ++ next_own_outcomes old ∷ []

-- what the entry makes of the region. A crash loses its versions and outcomes, and its next epoch alone is published
abbrev pub Becomes : Entry → RegionValue → RegionValue → Type 0
Becomes (Txn candidate) old new = new ≡ with_standing (after (Txn candidate) old.standing) old
Becomes (Seal batch) old new = new ≡ with_standing (after (Seal batch) old.standing) old
Becomes (Arrive batch) old new = new ≡ with_standing (after (Arrive batch) old.standing) old
Becomes (Publish epoch) old new = (epoch ≡ next_epoch old.standing) × Publishes old new
Becomes (Crash read) old new = new ≡ unpublished (after (Crash read) old.standing)
