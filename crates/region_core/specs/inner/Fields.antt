-- Inner: what the fields of a region stand for.
use Rattle.std.specs.Prelude.{◌≡◌, ℕ, Bool, List}
use Rattle.geo_base.specs.declared.outcome.Outcome.{Outcome}
use Rattle.geo_schema.specs.Schemas.{Tables}
use Rattle.write_set.specs.declared.batch.Batch.{Batch}
use Rattle.write_set.specs.declared.candidate.Candidate.{Candidate}
use Rattle.write_set.specs.BatchSizes.{batch_size}
use Rattle.epoch_inbox.specs.Inbox.{Holding}
use Rattle.version_store.specs.History.{Kept}
use Rattle.index_store.specs.Store.{Stored, IsStoreOf}
use Rattle.snap_view.specs.Snapshots.{images_of}
use Rattle.region_core.specs.Region.{RegionValue}
use Rattle.region_core.specs.Lawful.{IsRegion}

-- the region that the fields are seen as: what it has published last is the last epoch that its versions can be read at
abbrev pub seen : (number regions : ℕ) → Tables → (last : ℕ) → (up : Bool) → (life : ℕ) → (log : List Batch) → (open_candidates : List Candidate) → (held : List Batch) → Kept → List (List Outcome) → RegionValue
seen number regions tables last up life log open_candidates held versions outcomes =
    record {
      standing = record {
        number = number;
        regions = regions;
        tables = tables;
        last = last;
        up = up;
        life = life;
        log = log;
        open_candidates = open_candidates;
        held = held;
        published = versions.applied;
      };
      versions = versions;
      outcomes = outcomes;
    }

-- it is lawful, and the fields beside what is seen of it belong to it: the bytes of its next batch are counted, its inbox is that of all regions, and its index is of its versions
pub record AreFields (size : ℕ) (inbox : Holding) (index : Stored) (r : RegionValue) : Type 0 where
  pub lawful : IsRegion r
  pub counted : size ≡ batch_size r.standing.open_candidates
  pub inbox_regions : inbox.regions ≡ r.standing.regions
  pub follows : IsStoreOf r.standing.tables (images_of r.versions) index
