-- Inner: what a publication makes of versions and index, and which of all outcomes are those of one region's candidates.
use Rattle.std.specs.Prelude.{◌≡◌, ◌==◌, ℕ, List, [], ◌∷◌, if◌then◌else◌}
use Rattle.geo_base.specs.declared.outcome.Outcome.{Outcome}
use Rattle.write_set.specs.Journal.{Placed}
use Rattle.version_store.specs.History.{Kept, IsKept, IsApplied, IsTrimmed}
use Rattle.index_store.specs.Store.{Stored, IsStoreOf}
use Rattle.snap_view.specs.Snapshots.{images_of}
use Rattle.region_core.specs.Region.{RegionValue, next_epoch, horizon_at}
use Rattle.region_core.specs.Publishing.{next_committed}

-- the versions are those after the next epoch, and the index is theirs
pub record IsAdvance (r : RegionValue) (versions : Kept) (index : Stored) : Type 0 where
  pub grown : Kept
  pub applied : IsApplied (next_committed r) r.versions grown
  pub trimmed : IsTrimmed (horizon_at (next_epoch r.standing)) grown versions
  pub kept : IsKept versions
  pub follows : IsStoreOf r.standing.tables (images_of versions) index

-- of outcomes, each that of the candidate at its place, those of the region's candidates
abbrev pub own_among : ℕ → List Placed → List Outcome → List Outcome
own_among region [] outcomes = []
own_among region (c ∷ more) [] = []
own_among region (c ∷ more) (outcome ∷ outcomes) = if c.region == region then outcome ∷ own_among region more outcomes else own_among region more outcomes
