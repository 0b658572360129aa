-- A region as a session reaches it: each call meets the region in some state, answers what the region's own call answers there, and
-- leaves the state that this call leaves. A session of another life is refused before all else.
use Rattle.std.specs.Prelude.{◌≡◌, ℕ, ◌≤◌, ◌==◌, Option, Some, None, Result, Ok, Err, length, if◌then◌else◌}
use Rattle.std.specs.Option.{option_map}
use Rattle.write_set.specs.declared.candidate.Candidate.{Candidate}
use Rattle.write_set.specs.Bounds.{AreSomeRows}
use Rattle.write_set.specs.Overlay.{Table}
use Rattle.write_set.specs.Sets.{IsWriteSet}
use Rattle.set_codec.specs.Fits.{FitsTables}
use Rattle.snap_view.specs.Snapshots.{Held}
use Rattle.region_core.specs.declared.fault.BeginFault.{BeginFault}
use Rattle.region_core.specs.declared.fault.BeginFault.TheVariants as of_begin
use Rattle.region_core.specs.declared.fault.AsOfFault.{AsOfFault}
use Rattle.region_core.specs.declared.fault.AsOfFault.TheVariants as of_epoch
use Rattle.region_core.specs.declared.fault.SubmitFault.{SubmitFault}
use Rattle.region_core.specs.declared.fault.SubmitFault.TheVariants as of_submit
use Rattle.region_core.specs.declared.port_fault.PortFault.{PortFault}
use Rattle.region_core.specs.declared.port_fault.PortFault.TheVariants as port
use Rattle.region_core.specs.declared.port_fault.PortAsOfFault.{PortAsOfFault}
use Rattle.region_core.specs.declared.port_fault.PortAsOfFault.TheVariants as port_as_of
use Rattle.region_core.specs.declared.port_fault.PortSubmitFault.{PortSubmitFault}
use Rattle.region_core.specs.declared.port_fault.PortSubmitFault.TheVariants as port_submit
use Rattle.region_core.specs.declared.ticket.Ticket.{Ticket}
use Rattle.region_core.specs.Region.{RegionValue, Standing, with_standing}
use Rattle.region_core.specs.Entries as entry
use Rattle.region_core.specs.Entries.{after, next_ticket}
use Rattle.region_core.specs.Refusals.{begin_refusal, as_of_refusal, submit_refusal}
use Rattle.region_core.specs.Calls.{IsDue, Answers, IsOfEpoch}

-- ---- faults

-- the port's fault for a region's
abbrev pub begin_fault : BeginFault → PortFault
begin_fault of_begin.Down = port.Down
begin_fault of_begin.NoMemory = port.NoMemory

abbrev pub as_of_fault : AsOfFault → PortAsOfFault
as_of_fault of_epoch.Down = port_as_of.Down
as_of_fault (of_epoch.TooOld horizon) = port_as_of.TooOld horizon
as_of_fault (of_epoch.NotPublished published) = port_as_of.NotPublished published
as_of_fault of_epoch.NoMemory = port_as_of.NoMemory

abbrev pub submit_fault : SubmitFault → PortSubmitFault
submit_fault of_submit.Down = port_submit.Down
submit_fault (of_submit.TooOld start open_epoch) = port_submit.TooOld start open_epoch
submit_fault of_submit.BatchFull = port_submit.BatchFull
submit_fault of_submit.NoMemory = port_submit.NoMemory

-- a session of another life is refused first of all
abbrev pub gone_first : {E : Type 0} → E → ℕ → Standing → Option E → Option E
gone_first gone life r rest = if life == r.life then rest else Some gone

-- ---- calls

-- it is one region: its number, how many there are, the tables and the last epoch stay
pub record IsOneRegion (r s : Standing) : Type 0 where
  pub number : s.number ≡ r.number
  pub regions : s.regions ≡ r.regions
  pub tables : s.tables ≡ r.tables
  pub last : s.last ≡ r.last

-- the port's call met the region in a state that may have come after this one, and the call was of it
pub record Meets (MayCome : RegionValue → RegionValue → Type 0) (before : RegionValue) (Call : RegionValue → Type 0) : Type 0 where
  pub met : RegionValue
  pub come : MayCome before met
  pub same : IsOneRegion before.standing met.standing
  pub call : Call met

-- begin
abbrev pub Begins : ℕ → RegionValue → Result Held PortFault → RegionValue → Type 0
Begins life met result left =
    Answers port.NoMemory (gone_first port.Gone life met.standing (option_map begin_fault (begin_refusal met.standing))) result (IsOfEpoch met met.standing.published)
    × (left ≡ met)

-- as_of
abbrev pub ReadsEpoch : ℕ → ℕ → RegionValue → Result Held PortAsOfFault → RegionValue → Type 0
ReadsEpoch life epoch met result left =
    Answers port_as_of.NoMemory (gone_first port_as_of.Gone life met.standing (option_map as_of_fault (as_of_refusal epoch met.standing))) result (IsOfEpoch met epoch)
    × (left ≡ met)

-- submit
abbrev pub SubmitsBy : ℕ → Candidate → RegionValue → Result Ticket (PortSubmitFault × Candidate) → RegionValue → Type 0
SubmitsBy life c met (Ok ticket) left =
    (life ≡ met.standing.life) × (submit_refusal c met.standing ≡ None) × (ticket ≡ next_ticket met.standing)
    × (left ≡ with_standing (after (entry.Txn c) met.standing) met)
SubmitsBy life c met (Err (fault, back)) left =
    IsDue port_submit.NoMemory (gone_first port_submit.Gone life met.standing (option_map submit_fault (submit_refusal c met.standing))) fault
    × (back ≡ c) × (left ≡ met)

-- ---- what is given and right

-- the tickets that it tells stay such
abbrev pub KeepsTold : (Ticket → Type 0) → (Ticket → Type 0) → Type 0
KeepsTold Before After = (ticket : Ticket) → Before ticket → After ticket

-- the starts that were given in a life, each with the rows of its snapshot, stay given
abbrev pub KeepsGiven : (ℕ → ℕ → Table → Type 0) → (ℕ → ℕ → Table → Type 0) → Type 0
KeepsGiven Before After = (life start : ℕ) (rows : Table) → Before life start rows → After life start rows

-- the same candidates are right for the rows of their starts
abbrev pub KeepsRight : (Table → Candidate → Type 0) → (Table → Candidate → Type 0) → Type 0
KeepsRight Before After = (rows : Table) (c : Candidate) → (Before rows c → After rows c) × (After rows c → Before rows c)

-- the candidate may be submitted in the life: its start was given there, with rows for which it is right
abbrev pub IsTaken : (ℕ → ℕ → Table → Type 0) → (Table → Candidate → Type 0) → ℕ → Candidate → Type 0
IsTaken Given Right life c = (rows : Table) × Given life c.start rows × Right rows c

-- ---- a region that is lent

-- in its present life it has given the epochs up to its published one as starts, whatever their rows are. Of another life nothing is
-- claimed, so that what was given there stays given
abbrev pub IsGivenBy : Standing → ℕ → ℕ → Table → Type 0
IsGivenBy r life start rows = life ≡ r.life → start ≤ r.published

-- each candidate whose set isn't empty and fits the tables is right, whatever the rows of its start are
pub record IsRightFor (r : Standing) (rows : Table) (c : Candidate) : Type 0 where
  pub some : AreSomeRows (length c.set)
  pub lawful : IsWriteSet c.set
  pub fits : FitsTables r.tables c
