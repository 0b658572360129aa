-- An inbox holds batches, at most one of each epoch and region, in the order of their places.
use Rattle.std.specs.Prelude.{◌≡◌, ◌↔◌, ℕ, zero, suc, ◌+◌, ◌<◌, ◌==◌, Bool, true, false, not, ◌&&◌, ◌||◌, List, [], ◌∷◌, length, map, Option, Some, None, is_some, nat_lt, nat_le, if◌then◌else◌}
use Rattle.std.specs.List.{AllByRecursion, filter, slice_get}
use Rattle.std.specs.List.Sorted.{IsStrictlySortedBy}
use Rattle.std.specs.Ordering.{nat_cmp, ordering_then, match_ordering}
use Rattle.std.specs.declared.cmp.Ordering.{Ordering}
use Rattle.geo_base.specs.declared.limits.TheConstants.{MAX_AGE}
use Rattle.write_set.specs.declared.batch.Batch.{Batch}
use Rattle.epoch_inbox.specs.declared.arrival.Arrival.{Arrival}
use Rattle.epoch_inbox.specs.declared.arrival.Arrival.TheVariants.{New, Known, Far}

-- the number of regions, and the batches that are held
pub record Holding : Type 0 where
  pub regions : ℕ
  pub held : List Batch

-- ---- places

-- the place of a batch: its epoch and its region
abbrev pub place_of : Batch → ℕ × ℕ
place_of batch = (batch.epoch, batch.region)

-- the order of places: by epoch, and then by region
abbrev pub place_cmp : ℕ × ℕ → ℕ × ℕ → Ordering
place_cmp a b = ordering_then (nat_cmp a.0 b.0) (nat_cmp a.1 b.1)

-- the batch is the region's of the epoch
abbrev pub is_at : ℕ → ℕ → Batch → Bool
is_at epoch region batch = (epoch == batch.epoch) && (region == batch.region)

-- ---- what is held

-- the region's batch of the epoch
abbrev pub held_at : List Batch → ℕ → ℕ → Option Batch
held_at [] epoch region = None
held_at (batch ∷ held) epoch region = if is_at epoch region batch then Some batch else held_at held epoch region

-- there is one
abbrev pub is_held : List Batch → ℕ → ℕ → Bool
is_held held epoch region = is_some (held_at held epoch region)

-- the batches of the epoch, in their order
abbrev pub held_of : List Batch → ℕ → List Batch
held_of held epoch = filter (λ batch. epoch == batch.epoch) held

-- the batches of the other epochs
abbrev pub others : List Batch → ℕ → List Batch
others held epoch = filter (λ batch. not (epoch == batch.epoch)) held

-- the batches at the other places
abbrev pub without_batch : List Batch → ℕ → ℕ → List Batch
without_batch held epoch region = filter (λ batch. not (is_at epoch region batch)) held

-- the held batches and this one, in its place in the order; one that was held there gives way
abbrev pub with_batch : List Batch → Batch → List Batch
with_batch [] batch = batch ∷ []
with_batch (first ∷ rest) batch =
    match_ordering (place_cmp (place_of batch) (place_of first)) (batch ∷ first ∷ rest) (batch ∷ rest) (first ∷ with_batch rest batch)

-- ---- lawful and whole

-- the places of what is held rise, and the batches are of the regions that there are
pub record IsLawful (inbox : Holding) : Type 0 where
  pub rising : IsStrictlySortedBy place_cmp (map place_of inbox.held)
  pub below : AllByRecursion (λ batch. batch.region < inbox.regions) inbox.held

-- the epoch's batch of every region is held
abbrev pub IsWhole : Holding → ℕ → Type 0
IsWhole inbox epoch = (region : ℕ) → region < inbox.regions → is_held inbox.held epoch region ≡ true

-- of how many regions below this one the epoch's batch is held
abbrev pub regions_held : List Batch → ℕ → ℕ → ℕ
regions_held held epoch zero = 0
regions_held held epoch (suc region) = regions_held held epoch region + (if is_held held epoch region then 1 else 0)

-- ---- arrivals

-- what becomes of a batch that comes, where this epoch is published
abbrev pub arrival_of : List Batch → ℕ → Batch → Arrival
arrival_of held published batch =
    if nat_le batch.epoch published || is_held held batch.epoch batch.region then Known
    else (if nat_lt (published + MAX_AGE) batch.epoch then Far (published + MAX_AGE) else New)

-- what is held after a batch came: a new one too
abbrev pub after_arrival : Holding → Batch → Arrival → Holding
after_arrival inbox batch New = record { regions = inbox.regions; held = with_batch inbox.held batch }
after_arrival inbox batch Known = inbox
after_arrival inbox batch (Far limit) = inbox

-- ---- laws

-- what is held at a place is a batch of this place
abbrev pub FoundBatchesAreOfTheirPlaces : Type 0
FoundBatchesAreOfTheirPlaces = (held : List Batch) (epoch region : ℕ) (batch : Batch) → held_at held epoch region ≡ Some batch → (batch.epoch ≡ epoch) × (batch.region ≡ region)

-- a batch that was put in is held at its place, and at each other place what was held there
abbrev pub PutBatchesAreHeld : Type 0
PutBatchesAreHeld = (held : List Batch) (batch : Batch) (epoch region : ℕ) → held_at (with_batch held batch) epoch region ≡ (if is_at epoch region batch then Some batch else held_at held epoch region)

-- a batch that is let go again leaves what was held before it was put in, where that was nothing at its place
abbrev pub DroppedBatchesAreGone : Type 0
DroppedBatchesAreGone = (inbox : Holding) (batch : Batch) → IsLawful inbox → is_held inbox.held batch.epoch batch.region ≡ false →
    without_batch (with_batch inbox.held batch) batch.epoch batch.region ≡ inbox.held

-- of an epoch that was taken nothing is held, and at each place of another epoch what was held there
abbrev pub TakenEpochsAreGone : Type 0
TakenEpochsAreGone = (held : List Batch) (taken epoch region : ℕ) → held_at (others held taken) epoch region ≡ (if taken == epoch then None else held_at held epoch region)

-- one batch of the epoch for each region, from this region on
abbrev pub AreOfRegions : ℕ → ℕ → List Batch → Type 0
AreOfRegions region epoch [] = Unit {0}
AreOfRegions region epoch (batch ∷ batches) = (batch.epoch ≡ epoch) × (batch.region ≡ region) × AreOfRegions (region + 1) epoch batches

-- one batch for each region, in the order of the regions, each the one that is held
pub record AreInOrder (inbox : Holding) (epoch : ℕ) (batches : List Batch) : Type 0 where
  pub all : length batches ≡ inbox.regions
  pub order : AreOfRegions 0 epoch batches
  pub each : (region : ℕ) → region < inbox.regions → slice_get batches region ≡ held_at inbox.held epoch region

-- the batches of a whole epoch are so
abbrev pub WholeEpochsAreInOrder : Type 0
WholeEpochsAreInOrder = (inbox : Holding) (epoch : ℕ) → IsLawful inbox → IsWhole inbox epoch → AreInOrder inbox epoch (held_of inbox.held epoch)

-- as many batches of the epoch are held as there are regions of which one is held, and these are all regions exactly where the epoch is whole
pub record AreCounted (inbox : Holding) (epoch : ℕ) : Type 0 where
  pub counted : length (held_of inbox.held epoch) ≡ regions_held inbox.held epoch inbox.regions
  pub all : (length (held_of inbox.held epoch) ≡ inbox.regions) ↔ IsWhole inbox epoch

-- the batches of each epoch are so
abbrev pub HeldBatchesAreCounted : Type 0
HeldBatchesAreCounted = (inbox : Holding) (epoch : ℕ) → IsLawful inbox → AreCounted inbox epoch
