-- Inner: what the regions and packets of the program stand for in a world. The clauses of `World` cite it.
use Rattle.std.specs.Prelude.{◌≡◌, ℕ, ◌-◌, ◌^◌, ◌<◌, ◌≤◌, max, None, Some, if◌then◌else◌, List, ◌++◌, map, length, vec_len, All}
use Rattle.std.specs.List.{slice_get}
use Rattle.geo_base.specs.declared.limits.TheConstants.{SESSIONS_PER_REGION}
use Rattle.write_set.specs.Journal.{Journal, log_of, batch_at}
use Rattle.write_set.specs.Plain.{IsMergeOf}
use Rattle.geo_world.specs.declared.world.World.{World as Kept}
use Rattle.geo_world.specs.declared.region.Region.{Region}
use Rattle.geo_world.specs.declared.inbox.Inbox.{Inbox}
use Rattle.geo_world.specs.declared.packet.Packet.{Packet as KeptPacket}
use Rattle.geo_world.specs.declared.session.Session.{Session as KeptSession}
use Rattle.geo_world.specs.declared.session.Session.TheVariants as kept
use Rattle.geo_world.specs.World.{World, RegionState, Session, Idle, Pending, Packet, BatchPacket, region_of, open_epoch, published_epochs, session_of, has_arrived}
use Rattle.geo_world.specs.inner.Arrivals.{batch_in}
use Rattle.geo_world.specs.inner.Sessions.{session_at}
use Rattle.geo_world.specs.inner.Sound.{IsSound}
use Rattle.geo_world.specs.Step.{Stepped}
use Rattle.geo_world.specs.Tables.{kv_tables}

-- how many regions the program keeps
abbrev pub region_count : Kept → ℕ
region_count k = vec_len k.regions

-- the session of the world that the program's stands for
abbrev pub session_state : KeptSession → Session
session_state kept.Idle = Idle
session_state (kept.Pending ticket) = Pending ticket

-- the packet without what its batch holds
abbrev pub packet_state : KeptPacket → Packet
packet_state p = BatchPacket p.to p.batch.region p.batch.epoch

-- of the batches above the published epoch, the inbox holds exactly those that have arrived, as they were sealed
abbrev pub HoldsArrived : Journal → RegionState → Inbox → Type 0
HoldsArrived journal state inbox = (of epoch : ℕ) → state.published < epoch →
    batch_in inbox of epoch ≡ (if has_arrived state of epoch then batch_at journal of (epoch - 1) else None)

-- of the epochs that are published the inbox holds no batch
abbrev pub IsCleared : RegionState → Inbox → Type 0
IsCleared state inbox = (of epoch : ℕ) → epoch ≤ state.published → batch_in inbox of epoch ≡ None

-- a region of the program stands for the region of this number
pub record RegionStandsFor (w : World) (number : ℕ) (region : Region) : Type 0 where
  pub log : region.log.items ≡ log_of w.journal number
  pub opens : region.open ≡ open_epoch w number
  pub room : region.open ≤ max 1 w.last
  pub waiting : region.waiting.items ≡ (region_of w number).waiting
  pub published : region.plain.epoch ≡ (region_of w number).published
  pub merges : region.plain.regions ≡ length w.regions
  pub merged : IsMergeOf (published_epochs w number) region.plain
  pub holds : HoldsArrived w.journal (region_of w number) region.inbox
  pub cleared : IsCleared (region_of w number) region.inbox
  pub numbers : vec_len region.sessions ≡ SESSIONS_PER_REGION
  pub sessions : (session : ℕ) → session < SESSIONS_PER_REGION → session_state (session_at region.sessions.items session) ≡ session_of w number session

-- the packet carries its batch as it was sealed
abbrev pub IsAsSealed : Journal → KeptPacket → Type 0
IsAsSealed journal p = batch_at journal p.batch.region (p.batch.epoch - 1) ≡ Some p.batch

-- the program's world stands for w, which is sound, and has the table of every play
pub record StandsFor (w : World) (k : Kept) : Type 0 where
  pub sound : IsSound w
  pub schema : k.schema ≡ kv_tables
  pub last : k.last ≡ w.last
  pub short : w.last < 2 ^ 32
  pub count : vec_len k.regions ≡ length w.regions
  pub regions : (number : ℕ) (region : Region) → slice_get k.regions.items number ≡ Some region → RegionStandsFor w number region
  pub packets : map packet_state k.packets.items ≡ w.packets
  pub carried : All (IsAsSealed w.journal) k.packets.items

-- the program's world is one that open and steps have made
abbrev pub IsSomeWorld : Kept → Type 0
IsSomeWorld k = (w : World) × StandsFor w k

-- the text has grown by the lines of the step, and the program's world stands for its world
pub record Makes (step : Stepped) (before after : List ℕ) (k : Kept) : Type 0 where
  pub lines : after ≡ before ++ step.lines
  pub world : StandsFor step.world k
