-- Inner: what the code rests on that holds of every world that events lead to.
use Rattle.std.specs.Prelude.{◌≡◌, ◌≢◌, ℕ, ◌+◌, ◌<◌, ◌≤◌, Bool, true, false, length, All, count_by, sum_by}
use Rattle.geo_base.specs.declared.limits.TheConstants.{MAX_REGIONS, MAX_AGE, MAX_AHEAD, SESSIONS_PER_REGION}
use Rattle.write_set.specs.declared.candidate.Candidate.{Candidate}
use Rattle.write_set.specs.Sets.{IsWriteSet}
use Rattle.write_set.specs.BatchSizes.{candidate_size}
use Rattle.write_set.specs.Journal.{IsJournal, log_of, last_sealed}
use Rattle.geo_world.specs.World.{World, Session, Idle, Pending, Packet, BatchPacket, region_of, sealed_by, open_epoch, session_of, has_arrived}
use Rattle.geo_world.specs.Step.{numbers_below}

-- the session waits for a verdict
abbrev pub is_pending : Session → Bool
is_pending Idle = false
is_pending (Pending ticket) = true

-- how many of the region's sessions wait for a verdict
unfoldable pub pending_count : World → ℕ → ℕ
pending_count w region = count_by (λ s. is_pending (session_of w region s)) (numbers_below SESSIONS_PER_REGION)

-- how many candidates the region has taken, sealed and open
abbrev pub candidate_count : World → ℕ → ℕ
candidate_count w region =
    sum_by (λ b. length b.items) (log_of w.journal region) + length (region_of w region).waiting

-- the bytes of a candidate that puts one row of two numbers
abbrev pub PUT_SIZE : ℕ
PUT_SIZE = 28

-- an open candidate, which may be sealed in this epoch
pub record IsOpen (epoch : ℕ) (c : Candidate) : Type 0 where
  pub earlier : c.start < epoch
  pub young : epoch ≤ c.start + MAX_AGE
  pub one : length c.set ≡ 1
  pub lawful : IsWriteSet c.set
  pub small : candidate_size c ≤ PUT_SIZE

-- the batch was sealed, by another region than this one
pub record IsSealed (w : World) (region of epoch : ℕ) : Type 0 where
  pub known : of < length w.regions
  pub other : of ≢ region
  pub some : 1 ≤ epoch
  pub sealed : epoch ≤ sealed_by w of

-- what the region has published all have sealed, it has itself sealed at most MAX_AHEAD epochs more than it has published, and each of its candidates has a session that waits
pub record IsSoundRegion (w : World) (region : ℕ) : Type 0 where
  pub published : (region_of w region).published ≤ last_sealed w.journal
  pub ahead : sealed_by w region ≤ (region_of w region).published + MAX_AHEAD
  pub arrived : (of epoch : ℕ) → has_arrived (region_of w region) of epoch ≡ true → IsSealed w region of epoch
  pub waiting : All (IsOpen (open_epoch w region)) (region_of w region).waiting
  pub counted : candidate_count w region ≤ pending_count w region

-- a packet carries a sealed batch to another region
abbrev pub IsSoundPacket : World → Packet → Type 0
IsSoundPacket w (BatchPacket to region epoch) = (to < length w.regions) × IsSealed w to region epoch

-- 1 to 8 regions, each with a list of batches that are a journal; each region is sound, and so is each packet
pub record IsSound (w : World) : Type 0 where
  pub some : 1 ≤ length w.regions
  pub few : length w.regions ≤ MAX_REGIONS
  pub same : length w.journal ≡ length w.regions
  pub lawful : IsJournal w.journal
  pub regions : (region : ℕ) → region < length w.regions → IsSoundRegion w region
  pub packets : All (IsSoundPacket w) w.packets
