-- Inner: what each event does to a region of the program.
use Rattle.std.specs.Prelude.{◌≡◌, ℕ, ◌+◌, ◌-◌, ◌^◌, ◌<◌, ◌==◌, ◌&&◌, not, nat_lt, Bool, Option, None, IsSome, is_some, if◌then◌else◌, List, [], ◌∷◌, ◌++◌, length, replicate, slice_set}
use Rattle.std.specs.List.{slice_get, filter_map}
use Rattle.geo_base.specs.declared.limits.TheConstants.{SESSIONS_PER_REGION}
use Rattle.geo_base.specs.declared.numbers.CandId.{CandId}
use Rattle.write_set.specs.declared.batch.Batch.{Batch}
use Rattle.write_set.specs.declared.candidate.Candidate.{Candidate}
use Rattle.write_set.specs.Journal.{Epochs, AreBatches}
use Rattle.write_set.specs.Plain.{IsMergeOf}
use Rattle.geo_world.specs.declared.region.Region.{Region}
use Rattle.geo_world.specs.declared.session.Session.TheVariants.{Idle, Pending}
use Rattle.geo_world.specs.inner.Arrivals.{batch_in, with_batch, without_batch}
use Rattle.geo_world.specs.Step.{numbers_below}

-- a region of so many, before any event
pub record IsNew (regions : ℕ) (region : Region) : Type 0 where
  pub opens : region.open ≡ 1
  pub log : region.log.items ≡ []
  pub waiting : region.waiting.items ≡ []
  pub inbox : (of epoch : ℕ) → batch_in region.inbox of epoch ≡ None
  pub merges : region.plain.regions ≡ regions
  pub published : region.plain.epoch ≡ 0
  pub merged : IsMergeOf [] region.plain
  pub sessions : region.sessions.items ≡ replicate SESSIONS_PER_REGION Idle

-- the region takes a candidate, whose session waits with this ticket
pub record Takes (number session : ℕ) (candidate : Candidate) (ticket : CandId) (old new : Region) : Type 0 where
  pub named : ticket ≡ record { epoch = old.open; region = number; csn = length old.waiting.items }
  pub opens : new.open ≡ old.open
  pub log : new.log.items ≡ old.log.items
  pub waiting : new.waiting.items ≡ old.waiting.items ++ candidate ∷ []
  pub inbox : new.inbox ≡ old.inbox
  pub plain : new.plain ≡ old.plain
  pub sessions : new.sessions.items ≡ slice_set old.sessions.items session (Pending ticket)

-- the region seals its open candidates
pub record Seals (number : ℕ) (old new : Region) : Type 0 where
  pub opens : new.open ≡ old.open + 1
  pub log : new.log.items ≡ old.log.items ++ record { region = number; epoch = old.open; items = old.waiting.items } ∷ []
  pub waiting : new.waiting.items ≡ []
  pub inbox : new.inbox ≡ old.inbox
  pub plain : new.plain ≡ old.plain
  pub sessions : new.sessions.items ≡ old.sessions.items

-- a batch comes to the region
pub record Receives (batch : Batch) (old new : Region) : Type 0 where
  pub opens : new.open ≡ old.open
  pub log : new.log.items ≡ old.log.items
  pub waiting : new.waiting.items ≡ old.waiting.items
  pub inbox : (of epoch : ℕ) → batch_in new.inbox of epoch ≡ with_batch batch (batch_in old.inbox) of epoch
  pub plain : new.plain ≡ old.plain
  pub sessions : new.sessions.items ≡ old.sessions.items

-- the batch of that region and epoch is one that the region of this number gathers from its inbox: it is of the epoch, and of another one of so many regions
abbrev pub is_gathered : ℕ → ℕ → ℕ → ℕ → ℕ → Bool
is_gathered regions number gathered of epoch = (gathered == epoch) && (nat_lt of regions && not (of == number))

-- the epoch's batches of the other regions, of so many, have left the inbox
pub record Gathers (regions number gathered : ℕ) (old new : Region) : Type 0 where
  pub opens : new.open ≡ old.open
  pub log : new.log.items ≡ old.log.items
  pub waiting : new.waiting.items ≡ old.waiting.items
  pub inbox : (of epoch : ℕ) → batch_in new.inbox of epoch ≡ (if is_gathered regions number gathered of epoch then None else batch_in old.inbox of epoch)
  pub plain : new.plain ≡ old.plain
  pub sessions : new.sessions.items ≡ old.sessions.items

-- that region's batch of the epoch has left the inbox, unless it is the region's own
pub record TakesOut (number from gathered : ℕ) (old new : Region) : Type 0 where
  pub opens : new.open ≡ old.open
  pub log : new.log.items ≡ old.log.items
  pub waiting : new.waiting.items ≡ old.waiting.items
  pub inbox : (of epoch : ℕ) → batch_in new.inbox of epoch ≡ (if from == number then batch_in old.inbox of epoch else without_batch from gathered (batch_in old.inbox) of epoch)
  pub plain : new.plain ≡ old.plain
  pub sessions : new.sessions.items ≡ old.sessions.items

-- the region of this number has that region's batch of the epoch
abbrev pub has_next : Region → ℕ → ℕ → ℕ → Bool
has_next region number epoch of =
    if of == number then nat_lt epoch region.open else is_some (batch_in region.inbox of epoch)

-- that region's batch of the epoch, if the region of this number has it
abbrev pub next_batch_of : Region → ℕ → ℕ → ℕ → Option Batch
next_batch_of region number epoch of =
    if of == number then slice_get region.log.items (epoch - 1) else batch_in region.inbox of epoch

-- the batches of the epoch that the region of this number, of so many, has, by region
abbrev pub next_batches : Region → ℕ → ℕ → ℕ → List Batch
next_batches region regions number epoch = filter_map (next_batch_of region number epoch) (numbers_below regions)

-- the batches of the next epoch are all here and lawful
pub record IsReady (regions number epoch : ℕ) (region : Region) : Type 0 where
  pub next : epoch ≡ region.plain.epoch + 1
  pub room : epoch < 2 ^ 32
  pub all : length (next_batches region regions number epoch) ≡ region.plain.regions
  pub each : (of : ℕ) → of < regions → IsSome (next_batch_of region number epoch of)
  pub lawful : AreBatches 0 epoch (next_batches region regions number epoch)

-- the region of this number, of so many, publishes the epoch, after which it has published these; the epoch's batches have left the inbox
pub record Publishes (regions number : ℕ) (epochs : Epochs) (published : ℕ) (old new : Region) : Type 0 where
  pub opens : new.open ≡ old.open
  pub log : new.log.items ≡ old.log.items
  pub waiting : new.waiting.items ≡ old.waiting.items
  pub inbox : (of epoch : ℕ) → batch_in new.inbox of epoch ≡ (if is_gathered regions number published of epoch then None else batch_in old.inbox of epoch)
  pub merges : new.plain.regions ≡ old.plain.regions
  pub merged : IsMergeOf epochs new.plain
  pub sessions : new.sessions.items ≡ old.sessions.items
