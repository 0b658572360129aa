-- A region as its callers see it: where it stands, the versions of rows that it keeps, and what became of its own candidates.
-- The batches that it has sealed outlive a crash; all else is of its present life.
use Rattle.std.specs.Prelude.{ℕ, zero, suc, ◌+◌, ◌-◌, Bool, List, [], length, Option, None, slice_index_or}
use Rattle.std.specs.List.{slice_get}
use Rattle.geo_base.specs.declared.limits.TheConstants.{MAX_AGE}
use Rattle.geo_base.specs.declared.outcome.Outcome.{Outcome}
use Rattle.geo_base.specs.declared.row_id.RowId.{RowId}
use Rattle.geo_schema.specs.Schemas.{Tables}
use Rattle.write_set.specs.declared.batch.Batch.{Batch}
use Rattle.write_set.specs.declared.candidate.Candidate.{Candidate}
use Rattle.write_set.specs.Journal.{Placed, candidates_of}
use Rattle.epoch_inbox.specs.Inbox.{Holding, held_of}
use Rattle.version_store.specs.Chains.{newest_epoch}
use Rattle.version_store.specs.History.{Kept, chain_of}

-- where a region stands: all that the entries of its history decide (Entries.antt)
pub record Standing : Type 0 where
  -- its number, and how many regions there are
  pub number : ℕ
  pub regions : ℕ
  -- the tables of the database, and the last epoch that may be open
  pub tables : Tables
  pub last : ℕ
  -- whether it is up, and how often it has crashed
  pub up : Bool
  pub life : ℕ
  -- the batches that it has sealed: that of epoch e stands at place e - 1
  pub log : List Batch
  -- its open candidates, in the order of their commit numbers
  pub open_candidates : List Candidate
  -- the batches of epochs that it hasn't published, its own ones too, by epoch and then by region
  pub held : List Batch
  -- the last epoch that it has published, 0 before the first
  pub published : ℕ

-- a region
pub record RegionValue : Type 0 where
  pub standing : Standing
  -- the versions of rows that it keeps
  pub versions : Kept
  -- what became of its own candidates of each published epoch: those of epoch e stand at place e - 1, by commit number
  pub outcomes : List (List Outcome)

-- ---- its epochs

-- the epoch of the batch that it seals next
abbrev pub open_epoch : Standing → ℕ
open_epoch r = length r.log + 1

-- the epoch that it publishes next
abbrev pub next_epoch : Standing → ℕ
next_epoch r = r.published + 1

-- the first epoch that can be read where this one is published
abbrev pub horizon_at : ℕ → ℕ
horizon_at published = published - MAX_AGE

-- the batch that a log has for the epoch
abbrev pub batch_for : List Batch → ℕ → Option Batch
batch_for log zero = None
batch_for log (suc place) = slice_get log place

-- the batch that it has sealed for the epoch
abbrev pub own_batch : Standing → ℕ → Option Batch
own_batch r epoch = batch_for r.log epoch

-- what became of its candidates of the epoch, by commit number, where it is published
abbrev pub own_outcomes : RegionValue → ℕ → List Outcome
own_outcomes r zero = []
own_outcomes r (suc place) = slice_index_or r.outcomes place []

-- ---- what it holds

-- its inbox
abbrev pub inbox_of : Standing → Holding
inbox_of r = record { regions = r.regions; held = r.held }

-- the batches that it holds of the next epoch, by region
abbrev pub next_batches : Standing → List Batch
next_batches r = held_of r.held (next_epoch r)

-- their candidates, by region and then commit number
abbrev pub next_candidates : Standing → List Placed
next_candidates r = candidates_of (next_batches r)

-- the epoch that it holds for the row's last change
abbrev pub last_in : RegionValue → RowId → ℕ
last_in r row = newest_epoch (chain_of r.versions row)

-- ---- nothing published

-- no version of any row
abbrev pub no_versions : Kept
no_versions = record { horizon = 0; applied = 0; rows = [] }

-- a region that stands so and has published nothing in its present life
abbrev pub unpublished : Standing → RegionValue
unpublished r = record { standing = r; versions = no_versions; outcomes = [] }

-- a region that stands so, with all else as it was
abbrev pub with_standing : Standing → RegionValue → RegionValue
with_standing s r = record { standing = s; versions = r.versions; outcomes = r.outcomes }
