-- The entries of a region's history, and what each makes of where the region stands. This change is said here alone: the world's
-- step and the history of a shared region are folds of it.
use Rattle.std.specs.Prelude.{◌≡◌, ℕ, ◌+◌, ◌<◌, ◌≢◌, true, false, List, [], ◌∷◌, ◌++◌, length, Option, Some, None, if◌then◌else◌}
use Rattle.geo_schema.specs.Schemas.{Tables}
use Rattle.write_set.specs.declared.batch.Batch.{Batch}
use Rattle.write_set.specs.declared.candidate.Candidate.{Candidate}
use Rattle.epoch_inbox.specs.Inbox.{with_batch, others}
use Rattle.region_core.specs.declared.ticket.Ticket.{Ticket}
use Rattle.region_core.specs.Region.{Standing, open_epoch}

-- an entry: the region took a candidate, sealed a batch, took a batch of another region in, published an epoch, or crashed. After a
-- crash it is down where there is no log, and else it has started again on this one
pub data Entry : Type 0 where
  Txn : (candidate : Candidate) → Entry
  Seal : (batch : Batch) → Entry
  Arrive : (batch : Batch) → Entry
  Publish : (epoch : ℕ) → Entry
  Crash : (read : Option (List Batch)) → Entry

-- what the owner of the next candidate gets
abbrev pub next_ticket : Standing → Ticket
next_ticket r = record { id = record { epoch = open_epoch r; region = r.number; csn = length r.open_candidates }; life = r.life }

-- the batch that the region seals next
abbrev pub next_batch : Standing → Batch
next_batch r = record { region = r.number; epoch = open_epoch r; items = r.open_candidates }

-- a region that is down, in this life, with this log
abbrev pub down_with : (number regions : ℕ) → Tables → (last life : ℕ) → List Batch → Standing
down_with number regions tables last life log =
    record {
      number = number;
      regions = regions;
      tables = tables;
      last = last;
      up = false;
      life = life;
      log = log;
      open_candidates = [];
      held = [];
      published = 0;
    }

-- the region is down, in its next life if it was up, and has lost all but its log
abbrev pub crashed : Standing → Standing
crashed r = if r.up then down_with r.number r.regions r.tables r.last (r.life + 1) r.log else r

-- a region that was down is up: its log is what was read, whose batches it holds, and it has published nothing
abbrev pub started : List Batch → Standing → Standing
started log r = record (down_with r.number r.regions r.tables r.last r.life log) { up = true; held = log }

-- where the region stands after the entry
abbrev pub after : Entry → Standing → Standing
after (Txn candidate) r = record r { open_candidates = r.open_candidates ++ candidate ∷ [] }
after (Seal batch) r = record r { log = r.log ++ batch ∷ []; open_candidates = []; held = with_batch r.held batch }
after (Arrive batch) r = record r { held = with_batch r.held batch }
after (Publish epoch) r = record r { published = epoch; held = others r.held epoch }
after (Crash None) r = crashed r
after (Crash (Some log)) r = started log (crashed r)

-- where it stands after these entries, the oldest first
abbrev pub after_all : List Entry → Standing → Standing
after_all [] r = r
after_all (entry ∷ entries) r = after_all entries (after entry r)

-- a region that was just opened on a log
abbrev pub opened : (number regions : ℕ) → Tables → ℕ → List Batch → Standing
opened number regions tables last log = started log (down_with number regions tables last 0 log)
