-- The world: what the regions have sealed, and where each region, session and packet stands.
use Rattle.std.specs.Prelude.{ℕ, ◌+◌, Bool, ◌&&◌, ◌||◌, ◌==◌, nat_le, unwrap_or, List, [], length, replicate, slice_index_or}
use Rattle.std.specs.List.{list_any}
use Rattle.std.specs.Map.{lookup}
use Rattle.geo_base.specs.declared.numbers.CandId.{CandId}
use Rattle.write_set.specs.declared.candidate.Candidate.{Candidate}
use Rattle.write_set.specs.Journal.{Journal, log_of, epochs_of, Epochs}

-- a region: the last epoch that it has published, its open candidates in order, and the regions and epochs whose batches have arrived
pub record RegionState : Type 0 where
  pub published : ℕ
  pub waiting : List Candidate
  pub arrived : List (ℕ × ℕ)

-- a session: free for a statement, or waiting for the verdict on its candidate
pub data Session : Type 0 where
  Idle : Session
  Pending : (ticket : CandId) → Session

-- a packet: for this region, that region's batch of the epoch
pub data Packet : Type 0 where
  BatchPacket : (to region epoch : ℕ) → Packet

-- everything that later events depend on. Sessions that were never used aren't listed, and of two entries of a session the first counts
pub record World : Type 0 where
  pub last : ℕ
  pub journal : Journal
  pub regions : List RegionState
  pub sessions : List ((ℕ × ℕ) × Session)
  pub packets : List Packet

-- a region at its start
abbrev pub new_region : RegionState
new_region = record { published = 0; waiting = []; arrived = [] }

-- the world before the first event: so many regions, and the last epoch that one may open
abbrev pub first_world : ℕ → ℕ → World
first_world regions last =
    record { last = last; journal = replicate regions []; regions = replicate regions new_region; sessions = []; packets = [] }

-- the state of a region, by its number
abbrev pub region_of : World → ℕ → RegionState
region_of w region = slice_index_or w.regions region new_region

-- how many epochs the region has sealed
abbrev pub sealed_by : World → ℕ → ℕ
sealed_by w region = length (log_of w.journal region)

-- the epoch of the batch that the region seals next
abbrev pub open_epoch : World → ℕ → ℕ
open_epoch w region = sealed_by w region + 1

-- the epochs that the region has published
abbrev pub published_epochs : World → ℕ → Epochs
published_epochs w region = epochs_of w.journal (region_of w region).published

-- the session's entry is of this session
abbrev pub is_session : ℕ → ℕ → (ℕ × ℕ) → Bool
is_session region number key = (region == key.0) && (number == key.1)

-- the state of a session, by its region and its number there
abbrev pub session_of : World → ℕ → ℕ → Session
session_of w region number = unwrap_or (lookup (is_session region number) w.sessions) Idle

-- the batch has arrived at the region
abbrev pub has_arrived : RegionState → ℕ → ℕ → Bool
has_arrived state of epoch = list_any (λ a. (of == a.0) && (epoch == a.1)) state.arrived

-- the region has the batch of that region and epoch: it is in its own log, or has arrived
abbrev pub holds : World → ℕ → ℕ → ℕ → Bool
holds w region of epoch =
    ((of == region) && (nat_le 1 epoch && nat_le epoch (sealed_by w region))) || has_arrived (region_of w region) of epoch
