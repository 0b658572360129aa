-- What a play prints, and how much of it was printed where the play stopped.
use Rattle.std.specs.Prelude.{ℕ, ◌+◌, ◌-◌, ◌≤◌, Option, List, length, take}
use Rattle.std.specs.Io.KnownBytes.{Appends}
use Rattle.geo_base.specs.declared.limits.TheConstants.{SCRIPT_BYTES}
use Rattle.geo_io.specs.Told.{IsFrontOf}
use Rattle.write_set.specs.Journal.{Journal}
use Rattle.world_script.specs.declared.event.Event.{Event}
use Rattle.world_script.specs.declared.script.Script.{Script}
use Rattle.world_script.specs.Script.{IsScript}
use Rattle.geo_world.specs.World.{World, first_world}
use Rattle.geo_world.specs.Play.{text_of, world_after}

-- the world before the script's first event, where no region opens an epoch past this one
abbrev pub world_of : ℕ → Script → World
world_of last script = first_world script.regions last

-- all lines that the script's events print
abbrev pub play_text : ℕ → Script → List ℕ
play_text last script = text_of (world_of last script) script.events

-- the batches that all regions have sealed in the end
abbrev pub play_journal : ℕ → Script → Journal
play_journal last script = (world_after (world_of last script) script.events).journal

-- no script has this text
abbrev pub IsNoScript : List ℕ → Type 0
IsNoScript bytes = (script : Script) → ¬ (IsScript script bytes)

-- of the bytes that there were, those that are read: all, or one more than a script may have
unfoldable pub bytes_read : List ℕ → List ℕ
bytes_read bytes = take (SCRIPT_BYTES + 1) bytes

-- the sink gained a front of the events' lines, and so far the events came. Each front lies between the lines of some number of
-- events and the next; a play that keeps logs will tie them to the same number
pub record StoppedAfter (w : World) (events : List Event) (old new : Option (List ℕ)) : Type 0 where
  -- so many events were begun
  pub done : ℕ
  pub within : done ≤ length events
  -- these bytes were written
  pub gained : List ℕ
  pub appended : Appends old new gained
  -- at least the lines of all these events but the last
  pub least : IsFrontOf (text_of w (take (done - 1) events)) gained
  -- at most the lines of all these events
  pub most : IsFrontOf gained (text_of w (take done events))
  -- and so a front of all lines
  pub front : IsFrontOf gained (text_of w events)
