-- What the tests keep beside a region, and what is so of it at each step.
use Rattle.std.specs.Prelude.{◌≡◌, ◌≤◌, true, Some, List, length, All}
use Rattle.geo_io.specs.Told.{Lists}
use Rattle.geo_schema.specs.Schemas.{Tables}
use Rattle.set_codec.specs.Fits.{FitsTables}
use Rattle.write_set.specs.declared.candidate.Candidate.{Candidate}
use Rattle.write_set.specs.Bounds.{AreSomeRows}
use Rattle.write_set.specs.Sets.{IsWriteSet}
use Rattle.region_core.specs.declared.ticket.Ticket.{Ticket}
use Rattle.region_core.specs.Region.{Standing, RegionValue}
use Rattle.region_core.specs.Calls.{AreItsKeepers, IsNamed}

-- the candidate's set isn't empty and fits the tables
pub record IsSound (tables : Tables) (c : Candidate) : Type 0 where
  pub some : AreSomeRows (length c.set)
  pub lawful : IsWriteSet c.set
  pub fits : FitsTables tables c

-- the ticket is of an earlier life, or the region is up and the ticket names one of its candidates
pub record IsAsked (r : Standing) (ticket : Ticket) : Type 0 where
  pub earlier : ticket.life ≤ r.life
  pub up : ticket.life ≡ r.life → r.up ≡ true
  pub named : ticket.life ≡ r.life → IsNamed r ticket.id

-- the keepers have the region's log while it is up, and each ticket can be asked for
pub record IsPlayed (r : RegionValue) (lists : Lists) (tickets : List Ticket) : Type 0 where
  pub keepers : r.standing.up ≡ true → AreItsKeepers r.standing (Some lists)
  pub asked : All (IsAsked r.standing) tickets
