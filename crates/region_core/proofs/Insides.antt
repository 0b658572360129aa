-- The fields of a region, as the value that they are seen as.
use Rattle.std.proofs.Common.{ℕ, Bool, List}
use Rattle.write_set.specs.declared.batch.Batch.{Batch}
use Rattle.write_set.specs.declared.candidate.Candidate.{Candidate}
use Rattle.epoch_inbox.specs.Inbox.{Holding}
use Rattle.region_core.specs.declared.region.Region.TheInside.{Inside}
use Rattle.region_core.specs.Region.{RegionValue}
use Rattle.region_core.specs.inner.Fields.{seen, AreFields}

-- the region that the fields are seen as
abbrev pub view_of : Inside → RegionValue
view_of a = seen a.no a.regions a.schema a.last a.up a.life a.log.items a.open_candidates.items a.inbox.held a.versions a.outcomes.items

-- they are those of a region
abbrev pub AreInside : Inside → Type 0
AreInside a = AreFields a.size a.inbox a.index (view_of a)

-- the region with this log, these open candidates and held batches in place of those of the fields
abbrev pub seen_with : Inside → (up : Bool) → (log : List Batch) → (open_candidates : List Candidate) → (held : List Batch) → RegionValue
seen_with a up log open_candidates held = seen a.no a.regions a.schema a.last up a.life log open_candidates held a.versions a.outcomes.items

-- an inbox of so many regions that holds these
abbrev pub holding : ℕ → List Batch → Holding
holding regions held = record { regions = regions; held = held }
