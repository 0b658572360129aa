-- What a region has to do with a journal, which is all that the regions have sealed; and what stays so at each entry.
use Rattle.std.specs.Prelude.{◌≡◌, ℕ, ◌+◌, ◌<◌, ◌≤◌, true, Some, None, List, [], ◌∷◌, ◌++◌, length, All, slice_set}
use Rattle.geo_base.specs.declared.outcome.Outcome.{Outcome}
use Rattle.write_set.specs.declared.batch.Batch.{Batch}
use Rattle.write_set.specs.Journal.{Journal, Epochs, IsJournal, IsFront, Extends, log_of, batch_at, epochs_of}
use Rattle.write_set.specs.Merge.{last_change, verdicts}
use Rattle.version_store.specs.History.{IsHistoryOf}
use Rattle.region_core.specs.Region.{Standing, RegionValue, next_epoch, own_outcomes, next_batches, unpublished}
use Rattle.region_core.specs.Entries as entry
use Rattle.region_core.specs.Entries.{Entry, after, started}
use Rattle.region_core.specs.Publishing.{own_outcomes_by, next_outcomes, Becomes}
use Rattle.region_core.specs.Lawful.{IsRegion, Accepts}

-- the verdicts of the newest epoch's candidates of one region, by commit number
abbrev pub own_verdicts : Epochs → ℕ → List Outcome
own_verdicts [] region = []
own_verdicts (all ∷ older) region = own_outcomes_by (last_change older) (length older + 1) all region

-- what the region has sealed and published is the journal's: its log is its list there, all have sealed what it has published, and its
-- versions and outcomes are those of the published epochs. Where the region is down its log is a front of the list: an append that failed
-- may have got its entry
pub record IsPublishedIn (journal : Journal) (r : RegionValue) : Type 0 where
  pub there : r.standing.number < length journal
  pub all : length journal ≡ r.standing.regions
  pub log : r.standing.up ≡ true → log_of journal r.standing.number ≡ r.standing.log
  pub front : IsFront r.standing.log (log_of journal r.standing.number)
  pub history : IsHistoryOf journal r.versions
  pub applied : r.versions.applied ≡ r.standing.published
  pub outcomes : (epoch : ℕ) → epoch ≤ r.standing.published → own_outcomes r epoch ≡ own_verdicts (epochs_of journal epoch) r.standing.number

-- the batch is as its region sealed it: it stands in the journal, at the place of its region and epoch
abbrev pub IsAsSealed : Journal → Batch → Type 0
IsAsSealed journal batch = (place : ℕ) × (batch.epoch ≡ place + 1) × (batch_at journal batch.region place ≡ Some batch)

-- the region is one of this journal's: so it is published, and it holds batches as they were sealed
pub record IsRegionIn (journal : Journal) (r : RegionValue) : Type 0 where
  pub published : IsPublishedIn journal r
  pub held : All (IsAsSealed journal) r.standing.held

-- the journal after the entry of one of its regions: a seal's batch stands at the end of the region's list
abbrev pub sealed_by : Standing → Entry → Journal → Journal
sealed_by r (entry.Seal batch) journal = slice_set journal r.number (log_of journal r.number ++ batch ∷ [])
sealed_by r (entry.Txn candidate) journal = journal
sealed_by r (entry.Arrive batch) journal = journal
sealed_by r (entry.Publish epoch) journal = journal
sealed_by r (entry.Crash read) journal = journal

-- what an entry has from the outside is the journal's: a batch that comes is as it was sealed, and a log that is read is the region's list
abbrev pub IsOfJournal : Journal → Standing → Entry → Type 0
IsOfJournal journal r (entry.Arrive batch) = IsAsSealed journal batch
IsOfJournal journal r (entry.Crash (Some log)) = log ≡ log_of journal r.number
IsOfJournal journal r (entry.Crash None) = Unit {0}
IsOfJournal journal r (entry.Txn candidate) = Unit {0}
IsOfJournal journal r (entry.Seal batch) = Unit {0}
IsOfJournal journal r (entry.Publish epoch) = Unit {0}

-- where the entry is a publication, the batches that it publishes are as they were sealed
abbrev pub PublishesAsSealed : Journal → Standing → Entry → Type 0
PublishesAsSealed journal r (entry.Publish epoch) = All (IsAsSealed journal) (next_batches r)
PublishesAsSealed journal r (entry.Txn candidate) = Unit {0}
PublishesAsSealed journal r (entry.Seal batch) = Unit {0}
PublishesAsSealed journal r (entry.Arrive batch) = Unit {0}
PublishesAsSealed journal r (entry.Crash read) = Unit {0}

-- ---- laws

-- a region stays one of the journal's when other regions seal, and what it has published does
pub record StaysWithOthers (older newer : Journal) (r : RegionValue) : Type 0 where
  pub published : IsPublishedIn older r → IsPublishedIn newer r
  pub region : IsRegionIn older r → IsRegionIn newer r

-- that is so where the journal grows and, while the region is up, its own list doesn't change
abbrev pub OthersMaySeal : Type 0
OthersMaySeal = (older newer : Journal) (r : RegionValue) → Extends older newer →
    (r.standing.up ≡ true → log_of newer r.standing.number ≡ log_of older r.standing.number) → StaysWithOthers older newer r

-- a journal with what the entry seals is a journal, and the one before it with more at the end of the region's list
abbrev pub SealsStayJournals : Type 0
SealsStayJournals = (journal : Journal) (r : RegionValue) (entry : Entry) → IsJournal journal → IsRegion r → IsPublishedIn journal r → Accepts r.standing entry →
    IsJournal (sealed_by r.standing entry journal) × Extends journal (sealed_by r.standing entry journal)

-- what a region has published stays the journal's at each entry that it accepts, where it publishes batches as they were sealed
abbrev pub PublishedStays : Type 0
PublishedStays = (journal : Journal) (old new : RegionValue) (entry : Entry) → IsJournal journal → IsRegion old → IsPublishedIn journal old →
    Accepts old.standing entry → PublishesAsSealed journal old.standing entry → IsOfJournal journal old.standing entry →
    Becomes entry old new → IsPublishedIn (sealed_by old.standing entry journal) new

-- and a region of the journal stays one
abbrev pub EntriesStay : Type 0
EntriesStay = (journal : Journal) (old new : RegionValue) (entry : Entry) → IsJournal journal → IsRegion old → IsRegionIn journal old →
    Accepts old.standing entry → IsOfJournal journal old.standing entry → Becomes entry old new → IsRegionIn (sealed_by old.standing entry journal) new

-- a region that starts on its list of a journal is one of the journal's, whatever it was before
abbrev pub StartsStay : Type 0
StartsStay = (journal : Journal) (r : Standing) → IsJournal journal → r.number < length journal → length journal ≡ r.regions →
    IsRegionIn journal (unpublished (started (log_of journal r.number) r))

-- the outcomes of the next epoch are the journal's verdicts, where the region holds all batches of it, and they are as they were sealed
abbrev pub NextOutcomesAreVerdicts : Type 0
NextOutcomesAreVerdicts = (journal : Journal) (r : RegionValue) → IsJournal journal → IsRegion r → IsPublishedIn journal r →
    length (next_batches r.standing) ≡ r.standing.regions → All (IsAsSealed journal) (next_batches r.standing) →
    next_outcomes r ≡ verdicts (epochs_of journal (next_epoch r.standing))
