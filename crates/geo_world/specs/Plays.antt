-- The worlds that plays lead to.
use Rattle.std.specs.Prelude.{◌≡◌, ℕ, ◌≤◌, List, All}
use Rattle.geo_base.specs.declared.limits.TheConstants.{MAX_REGIONS}
use Rattle.world_script.specs.declared.event.Event.{Event}
use Rattle.world_script.specs.Script.{IsWithin}
use Rattle.geo_world.specs.World.{World, first_world}
use Rattle.geo_world.specs.Play.{world_after}

-- the events, whose numbers are in range, lead from the first world of so many regions to this one
pub record LeadTo (regions last : ℕ) (events : List Event) (w : World) : Type 0 where
  pub some : 1 ≤ regions
  pub few : regions ≤ MAX_REGIONS
  pub within : All (IsWithin regions) events
  pub after : w ≡ world_after (first_world regions last) events
