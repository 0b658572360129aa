-- Journals: what the regions have sealed, and the candidates of an epoch.
use Rattle.std.specs.Prelude.{◌≡◌, ℕ, zero, suc, ◌+◌, ◌≤◌, min, Option, Some, List, [], ◌∷◌, ◌++◌, length, All}
use Rattle.std.specs.List.{slice_get, filter_map}
use Rattle.std.specs.Prelude.{slice_index_or}
use Rattle.geo_base.specs.declared.limits.TheConstants.{MAX_REGIONS}
use Rattle.write_set.specs.declared.candidate.Candidate.{Candidate}
use Rattle.write_set.specs.declared.batch.Batch.{Batch}
use Rattle.write_set.specs.Bounds.{IsEarlier, IsYoung, AreSomeRows, IsCandidateCount}
use Rattle.write_set.specs.Sets.{ChangeOfRow, IsWriteSet}

-- for each region the list of its batches: the batch of epoch e stands at place e - 1
abbrev pub Journal : Type 0
Journal = List (List Batch)

-- the batches of a region
abbrev pub log_of : Journal → ℕ → List Batch
log_of journal region = slice_index_or journal region []

-- the batch at a place of a region's list: place p of the list holds its batch of epoch p + 1
abbrev pub batch_at : Journal → ℕ → ℕ → Option Batch
batch_at journal region place = slice_get (log_of journal region) place

-- the last epoch that all regions have sealed: the length of the shortest list
abbrev pub last_sealed : Journal → ℕ
last_sealed [] = 0
last_sealed (log ∷ []) = length log
last_sealed (log ∷ more ∷ logs) = min (length log) (last_sealed (more ∷ logs))

-- a candidate of an epoch with its place in it: its region and its commit number
pub record Placed : Type 0 where
  pub region : ℕ
  pub csn : ℕ
  pub start : ℕ
  pub set : List ChangeOfRow

-- a region's candidates, the first of which has this commit number
abbrev pub placed_from : ℕ → ℕ → List Candidate → List Placed
placed_from region csn [] = []
placed_from region csn (c ∷ cs) =
    record { region = region; csn = csn; start = c.start; set = c.set } ∷ placed_from region (csn + 1) cs

-- the candidates of the batches of one epoch, by region and then commit number
abbrev pub candidates_of : List Batch → List Placed
candidates_of [] = []
candidates_of (b ∷ bs) = placed_from b.region 0 b.items ++ candidates_of bs

-- the batches at one place of all lists
abbrev pub batches_at : Journal → ℕ → List Batch
batches_at journal place = filter_map (λ log. slice_get log place) journal

-- the candidates of each epoch, from the given one down to the first
abbrev pub Epochs : Type 0
Epochs = List (List Placed)

-- the candidates of a journal's epochs, from the given one down to the first
abbrev pub epochs_of : Journal → ℕ → Epochs
epochs_of journal zero = []
epochs_of journal (suc e) = candidates_of (batches_at journal e) ∷ epochs_of journal e

-- a candidate that may stand in a batch of the epoch
pub record IsCandidate (epoch : ℕ) (c : Candidate) : Type 0 where
  pub earlier : IsEarlier epoch c.start
  pub young : IsYoung epoch c.start
  pub some : AreSomeRows (length c.set)
  pub lawful : IsWriteSet c.set

-- a batch of this region and epoch
pub record IsBatch (of_region of_epoch : ℕ) (batch : Batch) : Type 0 where
  pub region : batch.region ≡ of_region
  pub epoch : batch.epoch ≡ of_epoch
  pub few : IsCandidateCount (length batch.items)
  pub lawful : All (IsCandidate of_epoch) batch.items

-- one batch of the epoch for each region, from this region on
abbrev pub AreBatches : ℕ → ℕ → List Batch → Type 0
AreBatches region epoch [] = Unit {0}
AreBatches region epoch (b ∷ bs) = IsBatch region epoch b × AreBatches (region + 1) epoch bs

-- 1 to 8 lists, of lawful batches that stand at their places
pub record IsJournal (journal : Journal) : Type 0 where
  pub some : 1 ≤ length journal
  pub few : length journal ≤ MAX_REGIONS
  pub lawful : (region place : ℕ) (batch : Batch) → batch_at journal region place ≡ Some batch → IsBatch region (place + 1) batch

-- the second list begins with the first
abbrev pub IsFront : List Batch → List Batch → Type 0
IsFront front whole = (rest : List Batch) × (front ++ rest ≡ whole)

-- the newer journal is the older one with more batches at the ends of its lists
pub record Extends (older newer : Journal) : Type 0 where
  pub same : length newer ≡ length older
  pub fronts : (region : ℕ) → IsFront (log_of older region) (log_of newer region)
