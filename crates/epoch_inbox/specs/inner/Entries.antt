-- What only the bodies of this crate speak of: the entries of a map of batches, and the part of an epoch that was gone through.
use Rattle.std.specs.Prelude.{◌≡◌, ℕ, ◌==◌, not, ◌&&◌, List, [], ◌∷◌, map, Option, None, Some, nat_lt}
use Rattle.std.specs.List.{filter}
use Rattle.std.specs.Map.{values_of}
use Rattle.write_set.specs.declared.batch.Batch.{Batch}
use Rattle.epoch_inbox.specs.Inbox.{Holding, place_of, IsLawful}

-- the batches by their places
abbrev pub entries_of : List Batch → List ((ℕ × ℕ) × Batch)
entries_of held = map (λ batch. (place_of batch, batch)) held

-- the inbox of these entries
abbrev pub seen : ℕ → List ((ℕ × ℕ) × Batch) → Holding
seen regions entries = record { regions = regions; held = values_of entries }

-- each entry's key is the place of its batch, and the batches are lawful for so many regions
pub record IsKept (regions : ℕ) (entries : List ((ℕ × ℕ) × Batch)) : Type 0 where
  pub placed : entries ≡ entries_of (values_of entries)
  pub lawful : IsLawful (seen regions entries)

-- the epoch's batches of the regions below this one
abbrev pub held_below : List Batch → ℕ → ℕ → List Batch
held_below held epoch region = filter (λ batch. (epoch == batch.epoch) && nat_lt batch.region region) held

-- the others
abbrev pub left_from : List Batch → ℕ → ℕ → List Batch
left_from held epoch region = filter (λ batch. not ((epoch == batch.epoch) && nat_lt batch.region region)) held

-- the list of what there is
abbrev pub listed : Option Batch → List Batch
listed None = []
listed (Some batch) = batch ∷ []
