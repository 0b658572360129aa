-- What a play can answer to an event.
use Rattle.std.specs.Prelude.{◌≡◌, ◌⊎◌, ℕ, ℤ, zero, suc, ◌+◌, ◌-◌, ◌<◌, true, not, Option, None, Some, List, [], ◌++◌, length, count_by}
use Rattle.geo_base.specs.declared.row_image.RowImage.{RowImage}
use Rattle.write_set.specs.Journal.{epochs_of}
use Rattle.write_set.specs.Merge.{verdicts, is_committed}
use Rattle.write_set.specs.Snapshot.{snap_at, snap_rows}
use Rattle.world_script.specs.declared.event.Statement.{Statement}
use Rattle.world_script.specs.declared.event.Statement.TheVariants.{Insert, Select}
use Rattle.world_script.specs.declared.event.Event.{Event}
use Rattle.world_script.specs.declared.event.Event.TheVariants.{Sql, Seal, Deliver, Publish, Show}
use Rattle.geo_world.specs.World.{World, Session, Idle, Pending, region_of, open_epoch, published_epochs, session_of, holds}
use Rattle.geo_world.specs.Step.{kv_row, next_ticket, others, sent_lines, have}
use Rattle.geo_world.specs.Lines.{changed_one, duplicate, session_waits, answer, seal_ahead, batch_sealed, packet_new, packet_known, packet_absent, epoch_published, region_waits, shown}

-- ---- statements

-- an insert: by whether the region's snapshot has the row, the next ticket or the row that is there
abbrev pub IsInserted : World → ℕ → ℕ → ℤ → Option RowImage → List ℕ → Type 0
IsInserted w region session key None lines = lines ≡ changed_one region session (next_ticket w region)
IsInserted w region session key (Some image) lines = lines ≡ duplicate region session (kv_row key)

-- a statement of an idle session: an insert, or the rows of the region's snapshot
abbrev pub IsRun : World → ℕ → ℕ → Statement → List ℕ → Type 0
IsRun w region session (Insert key value) lines = IsInserted w region session key (snap_at (published_epochs w region) (kv_row key)) lines
IsRun w region session Select lines = lines ≡ answer region session (snap_rows (published_epochs w region))

-- a statement: it runs where its session is idle, and else the session waits with the ticket that it has
abbrev pub IsReply : World → ℕ → ℕ → Statement → Session → List ℕ → Type 0
IsReply w region session statement Idle lines = IsRun w region session statement lines
IsReply w region session statement (Pending ticket) lines = lines ≡ session_waits region session ticket

-- ---- seals and packets

-- a seal: refused as too far ahead, or a batch with its packets
abbrev pub IsSealing : World → ℕ → List ℕ → Type 0
IsSealing w region lines =
    (lines ≡ seal_ahead region)
    ⊎ (lines ≡ batch_sealed region (open_epoch w region) (length (region_of w region).waiting)
    ++ sent_lines (length w.packets) (others (length w.regions) region))

-- a packet: new, known, or never sent
abbrev pub IsDelivery : ℕ → List ℕ → Type 0
IsDelivery packet lines = (lines ≡ packet_new packet) ⊎ ((lines ≡ packet_known packet) ⊎ (lines ≡ packet_absent packet))

-- so many packets, from this number on
abbrev pub AreDeliveries : ℕ → ℕ → List ℕ → Type 0
AreDeliveries zero packet lines = lines ≡ []
AreDeliveries (suc count) packet lines =
    (first : List ℕ) × (rest : List ℕ) × (lines ≡ first ++ rest) × IsDelivery packet first × AreDeliveries count (packet + 1) rest

-- ---- publishes

-- the epoch that the region publishes next
abbrev pub next_epoch : World → ℕ → ℕ
next_epoch w region = (region_of w region).published + 1

-- the region has every region's batch of its next epoch
abbrev pub HasAll : World → ℕ → Type 0
HasAll w region = (q : ℕ) → q < length w.regions → holds w region q (next_epoch w region) ≡ true

-- the next epoch with how many of its candidates commit, and how many don't
abbrev pub published_lines : World → ℕ → List ℕ
published_lines w region =
    epoch_published region (next_epoch w region)
    (count_by is_committed (verdicts (epochs_of w.journal (next_epoch w region))))
    (count_by (λ o. not (is_committed o)) (verdicts (epochs_of w.journal (next_epoch w region))))

-- of how many regions the batches of the next epoch are there
abbrev pub waiting_lines : World → ℕ → List ℕ
waiting_lines w region = region_waits region (next_epoch w region) (have w region (next_epoch w region)) (length w.regions)

-- a publish: the next epoch where all its batches are there, and else of how many regions they are, which are not all
abbrev pub IsPublishing : World → ℕ → List ℕ → Type 0
IsPublishing w region lines =
    (HasAll w region × (lines ≡ published_lines w region))
    ⊎ ((have w region (next_epoch w region) < length w.regions) × (lines ≡ waiting_lines w region))

-- ---- all events

-- the lines answer the event
abbrev pub IsAnswer : World → Event → List ℕ → Type 0
IsAnswer w (Sql region session statement) lines = IsReply w region session statement (session_of w region session) lines
IsAnswer w (Seal region) lines = IsSealing w region lines
IsAnswer w (Deliver first last) lines = AreDeliveries (last + 1 - first) first lines
IsAnswer w (Publish region) lines = IsPublishing w region lines
IsAnswer w (Show region) lines = lines ≡ shown region (region_of w region).published (snap_rows (published_epochs w region))
