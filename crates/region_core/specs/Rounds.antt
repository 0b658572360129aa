-- Rounds of a region's next epoch: that they give the outcomes by which the region publishes, and how long these stay such.
use Rattle.std.specs.Prelude.{◌≡◌, ℕ, true, None, List, length}
use Rattle.write_set.specs.declared.batch.Batch.{Batch}
use Rattle.write_set.specs.Journal.{candidates_of}
use Rattle.merge_round.specs.Gathers.{Decided}
use Rattle.merge_round.specs.Rounds.{Round, outcomes_of}
use Rattle.snap_view.specs.Snapshots.{Held, last_held}
use Rattle.region_core.specs.Region.{RegionValue, next_epoch, next_batches}
use Rattle.region_core.specs.Entries as entry
use Rattle.region_core.specs.Entries.{Entry}
use Rattle.region_core.specs.Publishing.{next_outcomes, Becomes}
use Rattle.region_core.specs.Refusals.{round_refusal}
use Rattle.region_core.specs.Lawful.{IsRegion, Accepts}
use Rattle.region_core.specs.Calls.{IsNextRound, AreOutcomesFor}

-- the round is of this epoch and these batches, and knows last changes by the snapshot before it
pub record IsRoundOver (of : ℕ) (batches : List Batch) (before : Held) (round : Round) : Type 0 where
  pub epoch : round.epoch ≡ of
  pub all : round.all ≡ candidates_of batches
  pub last : round.last ≡ last_held before

-- what a round gives, as its end tells it
abbrev pub decided_by : Round → Decided
decided_by round = record { epoch = round.epoch; outcomes = outcomes_of round }

-- the entry is of the region's present life
abbrev pub IsInLife : Entry → Type 0
IsInLife (entry.Txn candidate) = Unit {0}
IsInLife (entry.Seal batch) = Unit {0}
IsInLife (entry.Arrive batch) = Unit {0}
IsInLife (entry.Publish epoch) = Unit {0}
IsInLife (entry.Crash read) = ⊥

-- it publishes nothing either
abbrev pub IsInEpoch : Entry → Type 0
IsInEpoch (entry.Txn candidate) = Unit {0}
IsInEpoch (entry.Seal batch) = Unit {0}
IsInEpoch (entry.Arrive batch) = Unit {0}
IsInEpoch (entry.Publish epoch) = ⊥
IsInEpoch (entry.Crash read) = ⊥

-- the next epoch, its batches and what becomes of its candidates are as they were
pub record KeepsNext (old new : RegionValue) : Type 0 where
  pub epoch : next_epoch new.standing ≡ next_epoch old.standing
  pub batches : next_batches new.standing ≡ next_batches old.standing
  pub outcomes : next_outcomes new ≡ next_outcomes old

-- ---- laws

-- the round that a region gives, run to its end, gives outcomes by which the region publishes
abbrev pub RoundsGiveOutcomes : Type 0
RoundsGiveOutcomes = (r : RegionValue) (of : ℕ) (batches : List Batch) (before : Held) (round : Round) → IsRegion r → round_refusal r.standing ≡ None →
    IsNextRound r of batches before → IsRoundOver of batches before round → AreOutcomesFor r (decided_by round)

-- once a region holds all batches of its next epoch, that epoch stays as it is at each entry that neither publishes nor crashes
abbrev pub WholeEpochsStay : Type 0
WholeEpochsStay = (old new : RegionValue) (entry : Entry) → IsRegion old → Accepts old.standing entry → Becomes entry old new → IsInEpoch entry →
    length (next_batches old.standing) ≡ old.standing.regions → KeepsNext old new

-- outcomes by which a region publishes are such after each entry of its life
abbrev pub OutcomesStay : Type 0
OutcomesStay = (old new : RegionValue) (entry : Entry) (judged : Decided) → IsRegion old → Accepts old.standing entry → Becomes entry old new → IsInLife entry →
    old.standing.up ≡ true → AreOutcomesFor old judged → AreOutcomesFor new judged
