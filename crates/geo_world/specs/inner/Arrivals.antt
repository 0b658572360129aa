-- Inner: what an inbox holds.
use Rattle.std.specs.Prelude.{ℕ, ◌&&◌, ◌==◌, Option, None, Some, if◌then◌else◌}
use Rattle.std.specs.BTreeMap.{get}
use Rattle.std.specs.Ordering.{nat_cmp, ordering_then}
use Rattle.std.specs.declared.cmp.Ordering.{Ordering}
use Rattle.write_set.specs.declared.batch.Batch.{Batch}
use Rattle.geo_world.specs.declared.inbox.Inbox.{Inbox}

-- the order of batches in an inbox: by region, and then by epoch
abbrev pub place_cmp : (ℕ × ℕ) → (ℕ × ℕ) → Ordering
place_cmp a b = ordering_then (nat_cmp a.0 b.0) (nat_cmp a.1 b.1)

-- the batch of that region and epoch that the inbox holds
abbrev pub batch_in : Inbox → ℕ → ℕ → Option Batch
batch_in inbox of epoch = get place_cmp inbox.batches (of, epoch)

-- these batches, and this one at its region and epoch
abbrev pub with_batch : Batch → (ℕ → ℕ → Option Batch) → ℕ → ℕ → Option Batch
with_batch batch held of epoch = if (batch.region == of) && (batch.epoch == epoch) then Some batch else held of epoch

-- these batches, but for that region's of the epoch
abbrev pub without_batch : ℕ → ℕ → (ℕ → ℕ → Option Batch) → ℕ → ℕ → Option Batch
without_batch region gathered held of epoch = if (region == of) && (gathered == epoch) then None else held of epoch
