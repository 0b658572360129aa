-- Inner: what the reader of a run keeps of the lines so far: which regions have a line that crashes them, and which sessions have statements.
use Rattle.std.specs.Prelude.{ℕ, Bool, ◌&&◌, nat_eq, if◌then◌else◌, List, [], ◌∷◌, ◌++◌}
use Rattle.std.specs.List.{list_any}
use Rattle.geo_script.specs.declared.event.Event.{Event}
use Rattle.geo_script.specs.declared.script.EventAt.{EventAt}
use Rattle.geo_script.specs.declared.script.Form.{Form}
use Rattle.geo_script.specs.declared.script.Form.TheVariants.{Play, Run}
use Rattle.geo_script.specs.declared.event.Event.TheVariants.{Sql, CrashAfter}

-- the regions that crash, and the sessions, each once and in the order in which they came
pub record RunPast : Type 0 where
  pub crashed : List ℕ
  pub sessions : List (ℕ × ℕ)

-- before the first line
abbrev pub nothing_yet : RunPast
nothing_yet = record { crashed = []; sessions = [] }

-- the region has a line that crashes it
abbrev pub has_crash : RunPast → ℕ → Bool
has_crash past region = list_any (nat_eq region) past.crashed

-- two sessions are one: of one region, with one number
abbrev pub same_session : ℕ × ℕ → ℕ × ℕ → Bool
same_session a b = nat_eq a.0 b.0 && nat_eq a.1 b.1

-- the session has a statement
abbrev pub has_session : RunPast → ℕ → ℕ → Bool
has_session past region session = list_any (same_session (region, session)) past.sessions

-- the past with a statement of a session more
abbrev pub with_session : RunPast → ℕ → ℕ → RunPast
with_session past region session =
    if has_session past region session then past else record past { sessions = past.sessions ++ (region, session) ∷ [] }

-- the past with one event more
abbrev pub with_event : RunPast → Event → RunPast
with_event past (Sql region session _) = with_session past region session
with_event past (CrashAfter region _) = record past { crashed = past.crashed ++ region ∷ [] }
with_event past _ = past

-- the past that the next line of the form is read with: of a play nothing has to be known
abbrev pub next_past : Form → RunPast → Event → RunPast
next_past Play past asked = past
next_past Run past asked = with_event past asked

-- the past behind these events
abbrev pub past_behind : Form → RunPast → List EventAt → RunPast
past_behind form past [] = past
past_behind form past (at ∷ events) = past_behind form (next_past form past at.event) events
