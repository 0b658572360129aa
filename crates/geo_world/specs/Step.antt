-- What each event prints and changes.
use Rattle.std.specs.Prelude.{ℕ, ℤ, zero, suc, ◌+◌, ◌-◌, Bool, not, ◌==◌, ◌||◌, nat_le, nat_lt, Option, None, Some, is_some, if◌then◌else◌, List, [], ◌∷◌, ◌++◌, length, map, filter, count_by, slice_set}
use Rattle.std.specs.List.{slice_get}
use Rattle.geo_base.specs.declared.limits.TheConstants.{MAX_AGE, MAX_AHEAD, MAX_CANDIDATES, MAX_BATCH_BYTES}
use Rattle.geo_base.specs.declared.cell.Cell.TheVariants as cell
use Rattle.geo_base.specs.declared.numbers.CandId.{CandId}
use Rattle.geo_base.specs.declared.row_id.RowId.{RowId}
use Rattle.write_set.specs.declared.batch.Batch.{Batch}
use Rattle.write_set.specs.declared.candidate.Candidate.{Candidate}
use Rattle.write_set.specs.declared.change.Change.TheVariants.{Put}
use Rattle.write_set.specs.Journal.{log_of, epochs_of}
use Rattle.write_set.specs.Merge.{verdicts, is_committed}
use Rattle.write_set.specs.Snapshot.{snap_at, snap_rows}
use Rattle.write_set.specs.BatchSizes.{batch_size}
use Rattle.world_script.specs.declared.event.Statement.{Statement}
use Rattle.world_script.specs.declared.event.Statement.TheVariants.{Insert, Select}
use Rattle.world_script.specs.declared.event.Event.{Event}
use Rattle.world_script.specs.declared.event.Event.TheVariants.{Sql, Seal, Deliver, Publish, Show}
use Rattle.geo_world.specs.Tables.{kv_cells}
use Rattle.geo_world.specs.World.{World, RegionState, Session, Idle, Pending, Packet, BatchPacket, region_of, sealed_by, open_epoch, published_epochs, session_of, holds}
use Rattle.geo_world.specs.Lines.{changed_one, duplicate, too_old, session_waits, batch_full, answer, seal_ahead, seal_last, batch_sealed, sent, packet_new, packet_known, packet_far, packet_absent, epoch_published, region_waits, shown}

-- the next world, and what is printed on the way
pub record Stepped : Type 0 where
  pub world : World
  pub lines : List ℕ

-- the world stays, and this is printed
abbrev pub says : World → List ℕ → Stepped
says w lines = record { world = w; lines = lines }

-- the numbers below n, rising
abbrev pub numbers_below : ℕ → List ℕ
numbers_below zero = []
numbers_below (suc n) = numbers_below n ++ n ∷ []

-- the world with another state of a region
abbrev pub with_region : ℕ → RegionState → World → World
with_region region state w =
    record { last = w.last; journal = w.journal; regions = slice_set w.regions region state; sessions = w.sessions; packets = w.packets }

-- ---- statements

-- the row of the table with this key
abbrev pub kv_row : ℤ → RowId
kv_row key = record { table = 0; key = cell.Int key ∷ [] }

-- the candidate that puts one row
abbrev pub put_candidate : ℕ → ℤ → ℤ → Candidate
put_candidate start key value =
    record { start = start; set = (kv_row key, Put (kv_cells key value)) ∷ [] }

-- the region takes one more open candidate, and its session waits for the verdict
abbrev pub submitted : ℕ → ℕ → Candidate → CandId → World → World
submitted region session candidate ticket w =
    record {
      last = w.last;
      journal = w.journal;
      regions =
          slice_set w.regions region
          (record (region_of w region) { waiting = (region_of w region).waiting ++ candidate ∷ [] });
      sessions = ((region, session), Pending ticket) ∷ w.sessions;
      packets = w.packets;
    }

-- one more candidate would be too many for the batch, or too long
abbrev pub is_full : List Candidate → Candidate → Bool
is_full waiting candidate =
    nat_le MAX_CANDIDATES (length waiting) || nat_lt MAX_BATCH_BYTES (batch_size (waiting ++ candidate ∷ []))

-- the ticket of the region's next open candidate
abbrev pub next_ticket : World → ℕ → CandId
next_ticket w region =
    record { epoch = open_epoch w region; region = region; csn = length (region_of w region).waiting }

-- a session's candidate: refused where it is too old or the batch is full, and else taken, with the next ticket
abbrev pub submit : World → ℕ → ℕ → Candidate → Stepped
submit w region session candidate =
    if nat_lt MAX_AGE (open_epoch w region - candidate.start)
    then says w (too_old region session candidate.start (open_epoch w region))
    else if is_full (region_of w region).waiting candidate
    then says w (batch_full region session)
    else record {
      world = submitted region session candidate (next_ticket w region) w;
      lines = changed_one region session (next_ticket w region);
    }

-- a statement alone runs on what the region has published
abbrev pub run_statement : World → ℕ → ℕ → Statement → Stepped
run_statement w region session (Insert key value) =
    if is_some (snap_at (published_epochs w region) (kv_row key))
    then says w (duplicate region session (kv_row key))
    else submit w region session (put_candidate (region_of w region).published key value)
run_statement w region session Select =
    says w (answer region session (snap_rows (published_epochs w region)))

-- a statement of a session in this state: it runs where the session is idle, and is refused where it waits
abbrev pub sql : World → ℕ → ℕ → Statement → Session → Stepped
sql w region session statement Idle = run_statement w region session statement
sql w region session statement (Pending ticket) = says w (session_waits region session ticket)

-- ---- epochs

-- the regions that a region's batches go to
abbrev pub others : ℕ → ℕ → List ℕ
others regions region = filter (λ q. not (q == region)) (numbers_below regions)

-- the lines of packets that are sent, from this number on
abbrev pub sent_lines : ℕ → List ℕ → List ℕ
sent_lines packet [] = []
sent_lines packet (to ∷ tos) = sent packet to ++ sent_lines (packet + 1) tos

-- the batch that the region seals
abbrev pub next_batch : World → ℕ → Batch
next_batch w region = record { region = region; epoch = open_epoch w region; items = (region_of w region).waiting }

-- the batch stands at the end of the region's list and is on its way to every other region
abbrev pub sealed_world : World → ℕ → World
sealed_world w region =
    record {
      last = w.last;
      journal = slice_set w.journal region (log_of w.journal region ++ next_batch w region ∷ []);
      regions = slice_set w.regions region (record (region_of w region) { waiting = [] });
      sessions = w.sessions;
      packets = w.packets ++ map (λ to. BatchPacket to region (open_epoch w region)) (others (length w.regions) region);
    }

-- a seal: refused where the open epoch is the last or the region is too far ahead, and else a batch with its packets
abbrev pub seal : World → ℕ → Stepped
seal w region =
    if nat_le w.last (open_epoch w region)
    then says w (seal_last region)
    else if nat_le MAX_AHEAD (sealed_by w region - (region_of w region).published)
    then says w (seal_ahead region)
    else record {
      world = sealed_world w region;
      lines =
          batch_sealed region (open_epoch w region) (length (region_of w region).waiting)
          ++ sent_lines (length w.packets) (others (length w.regions) region);
    }

-- a batch comes to a region
abbrev pub arrive : World → ℕ → Packet → Stepped
arrive w packet (BatchPacket to region epoch) =
    if nat_le epoch (region_of w to).published || holds w to region epoch
    then says w (packet_known packet)
    else if nat_lt ((region_of w to).published + MAX_AGE) epoch
    then says w (packet_far packet ((region_of w to).published + MAX_AGE))
    else record {
      world = with_region to (record (region_of w to) { arrived = (region, epoch) ∷ (region_of w to).arrived }) w;
      lines = packet_new packet;
    }

-- the packet of a number is delivered, if it was ever sent
abbrev pub deliver_one : World → ℕ → Option Packet → Stepped
deliver_one w packet None = says w (packet_absent packet)
deliver_one w packet (Some p) = arrive w packet p

-- so many packets, from this number on, each in the world that the one before left
abbrev pub deliver : ℕ → ℕ → World → Stepped
deliver zero packet w = says w []
deliver (suc count) packet w =
    let step = deliver_one w packet (slice_get w.packets packet) in
    let rest = deliver count (packet + 1) step.world in
    record { world = rest.world; lines = step.lines ++ rest.lines }

-- of how many regions the region has the batch of the epoch
abbrev pub have : World → ℕ → ℕ → ℕ
have w region epoch = count_by (λ q. holds w region q epoch) (numbers_below (length w.regions))

-- a publish: the next epoch where the region has every region's batch of it, and else the region waits
abbrev pub publish : World → ℕ → Stepped
publish w region =
    let epoch = (region_of w region).published + 1 in
    let outcomes = verdicts (epochs_of w.journal epoch) in
    if nat_lt (have w region epoch) (length w.regions)
    then says w (region_waits region epoch (have w region epoch) (length w.regions))
    else record {
      world = with_region region (record (region_of w region) { published = epoch }) w;
      lines = epoch_published region epoch (count_by is_committed outcomes) (count_by (λ o. not (is_committed o)) outcomes);
    }

-- a show: the region's published epoch and its rows
abbrev pub show : World → ℕ → Stepped
show w region = says w (shown region (region_of w region).published (snap_rows (published_epochs w region)))

-- ---- all events

-- an event in a world
abbrev pub step : World → Event → Stepped
step w (Sql region session statement) = sql w region session statement (session_of w region session)
step w (Seal region) = seal w region
step w (Deliver first last) = deliver (last + 1 - first) first w
step w (Publish region) = publish w region
step w (Show region) = show w region
