-- What each call of a region answers, and what it leaves. Where nothing is refused a call may still find no memory, and those that use
-- the keepers may fail by them. Want of memory never takes the place of a refusal that is due.
use Rattle.std.specs.Prelude.{◌≡◌, ◌≢◌, ◌⊎◌, ℕ, ◌-◌, ◌<◌, ◌≤◌, true, not, Option, None, Some, unwrap_or, Result, Ok, Err, List, [], length, slice_index_or, count_by, IfSome}
use Rattle.std.specs.List.{slice_get}
use Rattle.geo_base.specs.declared.outcome.Outcome.{Outcome}
use Rattle.geo_base.specs.declared.numbers.CandId.{CandId}
use Rattle.geo_io.specs.Told.{Lists, list_of, Gains, MayGain, Moves}
use Rattle.row_source.specs.Sources.{AreRowsOf}
use Rattle.write_set.specs.declared.batch.Batch.{Batch}
use Rattle.write_set.specs.declared.candidate.Candidate.{Candidate}
use Rattle.write_set.specs.Merge.{is_committed}
use Rattle.set_codec.specs.Alone.{SpellsBatch}
use Rattle.set_codec.specs.Spelling.{batch_spelling}
use Rattle.set_codec.specs.declared.format.Format.TheVariants.{Ggb2}
use Rattle.own_log.specs.Logs.{SpellsLog}
use Rattle.epoch_inbox.specs.declared.arrival.Arrival.{Arrival}
use Rattle.epoch_inbox.specs.declared.arrival.Arrival.TheVariants as arrival
use Rattle.epoch_inbox.specs.Inbox.{arrival_of}
use Rattle.merge_round.specs.Gathers.{Decided}
use Rattle.snap_view.specs.Snapshots.{Held, rows_of, HoldsIndexes}
use Rattle.region_core.specs.declared.fault.BeginFault.{BeginFault}
use Rattle.region_core.specs.declared.fault.BeginFault.TheVariants as of_begin
use Rattle.region_core.specs.declared.fault.FetchFault.{FetchFault}
use Rattle.region_core.specs.declared.fault.FetchFault.TheVariants as of_fetch
use Rattle.region_core.specs.declared.fault.SealFault.{SealFault}
use Rattle.region_core.specs.declared.fault.SealFault.TheVariants as of_seal
use Rattle.region_core.specs.declared.fault.SubmitFault.{SubmitFault}
use Rattle.region_core.specs.declared.fault.SubmitFault.TheVariants as of_submit
use Rattle.region_core.specs.declared.publish.Publish.TheVariants as publish
use Rattle.region_core.specs.declared.publish.Publish.{Publish}
use Rattle.region_core.specs.declared.sealed.Sealed.{Sealed}
use Rattle.region_core.specs.declared.ticket.Ticket.{Ticket}
use Rattle.region_core.specs.declared.told.Polled.{Polled}
use Rattle.region_core.specs.declared.told.Polled.TheVariants as polled
use Rattle.region_core.specs.declared.told.Told.{Told}
use Rattle.region_core.specs.declared.told.Told.TheVariants as told
use Rattle.region_core.specs.Region.{Standing, RegionValue, open_epoch, next_epoch, own_batch, own_outcomes, next_batches, with_standing, unpublished}
use Rattle.region_core.specs.Entries as entry
use Rattle.region_core.specs.Entries.{after, next_ticket, next_batch}
use Rattle.region_core.specs.Publishing.{next_outcomes, Becomes}
use Rattle.region_core.specs.Refusals.{begin_refusal, submit_refusal, seal_refusal, fetch_refusal}

-- ---- refusals

-- the fault is the one that is due, and where none is, that there was no memory
abbrev pub IsDue : {E : Type 0} → E → Option E → E → Type 0
IsDue no_memory due fault = fault ≡ unwrap_or due no_memory

-- a call that changes nothing answers what is asked for, or the fault that is due: begin, as_of and round
abbrev pub Answers : {A E : Type 0} → E → Option E → Result A E → (A → Type 0) → Type 0
Answers no_memory due (Ok x) Asked = (due ≡ None) × Asked x
Answers no_memory due (Err fault) Asked = IsDue no_memory due fault

-- a call that takes no memory says what would be refused: can_seal
abbrev pub Tests : {A E : Type 0} → Option E → Result A E → Type 0
Tests due (Ok x) = due ≡ None
Tests due (Err fault) = due ≡ Some fault

-- ---- snapshots

-- the snapshot is the region's of the epoch: by the versions that it keeps, with their indexes, and of rows of its tables
pub record IsOfEpoch (r : RegionValue) (of : ℕ) (snapshot : Held) : Type 0 where
  pub epoch : snapshot.epoch ≡ of
  pub versions : snapshot.versions ≡ r.versions
  pub indexes : HoldsIndexes r.standing.tables snapshot
  pub rows : AreRowsOf r.standing.tables (rows_of snapshot)

-- a round of the next epoch is made of it, of the batches that are held of it, and of the snapshot of the epoch before
pub record IsNextRound (r : RegionValue) (of : ℕ) (batches : List Batch) (before : Held) : Type 0 where
  pub epoch : of ≡ next_epoch r.standing
  pub held : batches ≡ next_batches r.standing
  pub snapshot : IsOfEpoch r r.standing.published before

-- ---- candidates and their tickets

-- submit: the candidate is open, or is handed back
abbrev pub Submits : Candidate → RegionValue → Result Ticket (SubmitFault × Candidate) → RegionValue → Type 0
Submits c old (Ok ticket) new =
    (submit_refusal c old.standing ≡ None) × (ticket ≡ next_ticket old.standing) × (new ≡ with_standing (after (entry.Txn c) old.standing) old)
Submits c old (Err (fault, back)) new = IsDue of_submit.NoMemory (submit_refusal c old.standing) fault × (back ≡ c) × (new ≡ old)

-- the ticket names an open candidate of the region, or one of a batch of its log
abbrev pub IsNamed : Standing → CandId → Type 0
IsNamed r id =
    (id.region ≡ r.number)
    × (((id.epoch ≡ open_epoch r) × (id.csn < length r.open_candidates)) ⊎ ((batch : Batch) × (own_batch r id.epoch ≡ Some batch) × (id.csn < length batch.items)))

-- a ticket that outcome takes: one of an earlier life, or one that names a candidate
abbrev pub IsTicketOf : Standing → Ticket → Type 0
IsTicketOf r ticket = ticket.life ≡ r.life → IsNamed r ticket.id

-- what became of the candidate, where its epoch is published
abbrev pub outcome_at : RegionValue → CandId → Option Outcome
outcome_at r id = slice_get (own_outcomes r id.epoch) id.csn

-- outcome
abbrev pub Tells : RegionValue → Ticket → Polled → Type 0
Tells r ticket polled.Gone = ticket.life ≢ r.standing.life
Tells r ticket (polled.NotYet epoch) = (ticket.life ≡ r.standing.life) × (r.standing.published < ticket.id.epoch) × (epoch ≡ r.standing.published)
Tells r ticket (polled.Outcome outcome) =
    (ticket.life ≡ r.standing.life) × (ticket.id.epoch ≤ r.standing.published) × (outcome_at r ticket.id ≡ Some outcome)

-- what is told, with the outcome itself in place of a loan of it
abbrev pub polled_of : Told → Polled
polled_of (told.Outcome outcome) = polled.Outcome outcome.now
polled_of (told.NotYet epoch) = polled.NotYet epoch
polled_of told.Gone = polled.Gone

-- ---- seals and the log

-- where the keepers tell, the region's list spells its log
abbrev pub AreItsKeepers : Standing → Option Lists → Type 0
AreItsKeepers r lists = IfSome lists (λ all. SpellsLog r.tables r.regions r.number (list_of all r.number) r.log)

-- what is told of the batch that the region seals: its bytes are what the log gains, and spell it
pub record IsSealOf (r : Standing) (told : Sealed) : Type 0 where
  pub epoch : told.epoch ≡ open_epoch r
  pub count : told.count ≡ length r.open_candidates
  pub bytes : told.bytes ≡ batch_spelling Ggb2 r.tables (next_batch r)
  pub spelled : SpellsBatch r.tables r.regions told.bytes (next_batch r)

-- seal: after a failure of the keepers the region is as after a crash
abbrev pub Seals : RegionValue → Result Sealed SealFault → RegionValue → Type 0
Seals old (Ok told) new =
    (seal_refusal old.standing ≡ None) × IsSealOf old.standing told × (new ≡ with_standing (after (entry.Seal (next_batch old.standing)) old.standing) old)
Seals old (Err of_seal.LogFault) new = (seal_refusal old.standing ≡ None) × (new ≡ unpublished (after (entry.Crash None) old.standing))
Seals old (Err fault) new = IsDue of_seal.NoMemory (seal_refusal old.standing) fault × (new ≡ old)

-- what seal does to the keepers' lists: after a failure they may have got the entry, and after another fault they haven't
abbrev pub KeepsSeal : Standing → Result Sealed SealFault → Option Lists → Option Lists → Type 0
KeepsSeal r (Ok told) before after = Moves (Gains r.number (batch_spelling Ggb2 r.tables (next_batch r))) before after
KeepsSeal r (Err of_seal.LogFault) before after = Moves (MayGain r.number (batch_spelling Ggb2 r.tables (next_batch r))) before after
KeepsSeal r (Err fault) before after = after ≡ before

-- fetch_reply: a spelling of the region's batch of the epoch, which is the keepers' entry where they tell, or None exactly where it has
-- sealed none
abbrev pub Replies : ℕ → Standing → Option Lists → Option (List ℕ) → Type 0
Replies epoch r lists None = (fetch_refusal r ≡ None) × (own_batch r epoch ≡ None)
Replies epoch r lists (Some bytes) =
    (fetch_refusal r ≡ None)
    × ((batch : Batch) × (own_batch r epoch ≡ Some batch) × SpellsBatch r.tables r.regions bytes batch)
    × IfSome lists (λ all. slice_index_or (list_of all r.number) (epoch - 1) [] ≡ bytes)

-- why it doesn't reply: memory and the log are asked for only where the region has sealed a batch of the epoch, and BadLog never comes
-- where the keepers tell
abbrev pub RefusesReply : ℕ → Standing → Option Lists → FetchFault → Type 0
RefusesReply epoch r lists of_fetch.Down = fetch_refusal r ≡ Some of_fetch.Down
RefusesReply epoch r lists of_fetch.LogFault = (fetch_refusal r ≡ None) × (own_batch r epoch ≢ None)
RefusesReply epoch r lists (of_fetch.BadLog of) = (fetch_refusal r ≡ None) × (own_batch r epoch ≢ None) × (of ≡ epoch) × (lists ≡ None)
RefusesReply epoch r lists of_fetch.NoMemory = (fetch_refusal r ≡ None) × (own_batch r epoch ≢ None)

-- ---- starts

-- the region has started again on the log that it has now, and where the keepers told before, their list of it spells this log
pub record Starts (lists : Option Lists) (old new : RegionValue) : Type 0 where
  pub state : new ≡ unpublished (after (entry.Crash (Some new.standing.log)) old.standing)
  pub spelled : AreItsKeepers new.standing lists

-- the region was opened on the log that it has, which the keepers' list of it spells where they told before
pub record Opens (fresh : Standing) (lists : Option Lists) (new : RegionValue) : Type 0 where
  pub state : new ≡ unpublished fresh
  pub spelled : AreItsKeepers fresh lists

-- ---- batches and verdicts

-- arrive: only a new batch takes memory
abbrev pub Arrives : Batch → RegionValue → Result Arrival BeginFault → RegionValue → Type 0
Arrives batch old (Ok arrival.New) new =
    (begin_refusal old.standing ≡ None) × (arrival_of old.standing.held old.standing.published batch ≡ arrival.New)
    × (new ≡ with_standing (after (entry.Arrive batch) old.standing) old)
Arrives batch old (Ok known) new =
    (begin_refusal old.standing ≡ None) × (arrival_of old.standing.held old.standing.published batch ≡ known) × (new ≡ old)
Arrives batch old (Err fault) new =
    IsDue of_begin.NoMemory (begin_refusal old.standing) fault
    × (fault ≡ of_begin.NoMemory → arrival_of old.standing.held old.standing.published batch ≡ arrival.New)
    × (new ≡ old)

-- what publish takes, where the region is up: outcomes of an epoch that is published, whatever they are, or those of the next epoch, of
-- which the region holds all batches
abbrev pub AreOutcomesFor : RegionValue → Decided → Type 0
AreOutcomesFor r judged =
    r.standing.up ≡ true → (judged.epoch ≤ r.standing.published)
    ⊎ ((judged.epoch ≡ next_epoch r.standing) × (length (next_batches r.standing) ≡ r.standing.regions) × (judged.outcomes ≡ next_outcomes r))

-- publish: the next epoch is published, with the number of its committed candidates and of the others; or it was already
abbrev pub PublishesBy : Decided → RegionValue → Result Publish BeginFault → RegionValue → Type 0
PublishesBy judged old (Ok (publish.Published epoch commits aborts)) new =
    (begin_refusal old.standing ≡ None) × (old.standing.published < judged.epoch) × Becomes (entry.Publish epoch) old new
    × (commits ≡ count_by is_committed judged.outcomes) × (aborts ≡ count_by (λ o. not (is_committed o)) judged.outcomes)
PublishesBy judged old (Ok (publish.Already epoch)) new =
    (begin_refusal old.standing ≡ None) × (judged.epoch ≤ old.standing.published) × (epoch ≡ old.standing.published) × (new ≡ old)
PublishesBy judged old (Err fault) new =
    IsDue of_begin.NoMemory (begin_refusal old.standing) fault
    × (fault ≡ of_begin.NoMemory → old.standing.published < judged.epoch)
    × (new ≡ old)
