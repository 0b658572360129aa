-- Inner: the sessions that a region of the program keeps.
use Rattle.std.specs.Prelude.{ℕ, List, unwrap_or}
use Rattle.std.specs.List.{slice_get}
use Rattle.geo_world.specs.declared.session.Session.{Session}
use Rattle.geo_world.specs.declared.session.Session.TheVariants.{Idle}

-- the session of this number, idle where there is none
abbrev pub session_at : List Session → ℕ → Session
session_at sessions number = unwrap_or (slice_get sessions number) Idle
