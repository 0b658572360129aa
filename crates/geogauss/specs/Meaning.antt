-- What the status of a play means: what became of the source, the sink and the keepers at each way to end.
use Rattle.std.specs.Prelude.{◌≡◌, ◌⊎◌, ℕ, ◌+◌, ◌≤◌, Option, Some, List, []}
use Rattle.std.specs.Io.KnownBytes.{Appends, Consumes, Keeps}
use Rattle.geo_base.specs.declared.limits.TheConstants.{SCRIPT_BYTES}
use Rattle.geo_io.specs.Causes.{Rose}
use Rattle.geo_io.specs.Told.{Lists, LosesAtMost}
use Rattle.write_set.specs.Isolation.{IsSnapshotIsolated}
use Rattle.world_script.specs.declared.script.Script.{Script}
use Rattle.world_script.specs.declared.script.ScriptKind.{ScriptKind}
use Rattle.world_script.specs.Script.{IsScript}
use Rattle.world_script.specs.Fault.{IsFault}
use Rattle.geogauss.specs.declared.status.Status.{Status}
use Rattle.geogauss.specs.declared.status.Status.TheVariants.{Done, Usage, ScriptFault, ReadFault, WriteFault, NoMemory}
use Rattle.geogauss.specs.Playing.{StoppedAfter, IsNoScript, bytes_read, world_of, play_text, play_journal}
use Rattle.geogauss.specs.Status.{IsScriptFault}

-- what the source, the sink and the keepers of a call are seen to be at one moment
pub record Outside : Type 0 where
  -- the bytes that the source has left, where it tells them
  pub left : Option (List ℕ)
  -- how often the source has failed
  pub read_faults : ℕ
  -- the bytes that the sink holds, where it tells them
  pub written : Option (List ℕ)
  -- how often the sink has failed
  pub write_faults : ℕ
  -- the lists of the keepers, where they tell them
  pub logs : Option Lists

-- the source tells its bytes, and they are this script
pub record Gives (before : Outside) (script : Script) : Type 0 where
  pub input : List ℕ
  pub told : before.left ≡ Some input
  pub spelled : IsScript script input

-- the source tells its bytes, and they are no script
pub record GivesNone (before : Outside) : Type 0 where
  pub input : List ℕ
  pub told : before.left ≡ Some input
  pub none : IsNoScript input

-- the source was read to its end, and what it told was a script
pub record IsReadToEnd (after : Outside) (input : List ℕ) : Type 0 where
  pub end : after.left ≡ Some []
  pub script : Script
  pub spelled : IsScript script input

-- at done:
pub record IsDone (last : ℕ) (before after : Outside) : Type 0 where
  -- bytes that are told were a script, and no byte is left
  pub read : (input : List ℕ) → before.left ≡ Some input → IsReadToEnd after input
  -- the sink gained the lines that the script's events print, from the first world on, and nothing else
  pub text : (script : Script) → Gives before script → Appends before.written after.written (play_text last script)
  -- the committed transactions of that play are a snapshot-isolated history
  pub isolated : (script : Script) → Gives before script → IsSnapshotIsolated (play_journal last script)

-- at a script fault, with the number of a line and what is wrong with it:
pub record IsRefused (line : ℕ) (kind : ScriptKind) (before after : Outside) : Type 0 where
  -- this is the first bad line of the bytes that are read of those told, or they are too many
  pub fault : (input : List ℕ) → before.left ≡ Some input → IsFault (bytes_read input) (record { line = line; kind = kind })
  -- bytes that are told are no script
  pub unscripted : (script : Script) → ¬ (Gives before script)
  -- the bytes that are read were taken: all, or one more than a script may have
  pub taken : (input : List ℕ) → before.left ≡ Some input → Consumes before.left after.left (bytes_read input)
  -- nothing was written
  pub nothing : Keeps before.written after.written

-- at a read fault:
pub record IsUnread (before after : Outside) : Type 0 where
  -- the source failed in this call
  pub cause : Rose before.read_faults after.read_faults
  -- nothing was written
  pub nothing : Keeps before.written after.written

-- at a write fault:
pub record IsUnwritten (last : ℕ) (before after : Outside) : Type 0 where
  -- the sink failed in this call
  pub cause : Rose before.write_faults after.write_faults
  -- bytes that are told were a script, and no byte is left
  pub read : (input : List ℕ) → before.left ≡ Some input → IsReadToEnd after input
  -- the sink gained a front of the lines that the script's events print
  pub stopped : (script : Script) → Gives before script →
      StoppedAfter (world_of last script) script.events before.written after.written

-- at want of memory, which may come at any time:
pub record IsOutOfMemory (last : ℕ) (before after : Outside) : Type 0 where
  -- the sink gained a front of the lines that the script's events print
  pub stopped : (script : Script) → Gives before script →
      StoppedAfter (world_of last script) script.events before.written after.written
  -- where bytes that are told are no script, nothing was written
  pub nothing : GivesNone before → Keeps before.written after.written

-- what each status says
abbrev pub Says : ℕ → Outside → Outside → Status → Type 0
Says last before after Done = IsDone last before after
Says last before after Usage = ⊥
Says last before after (ScriptFault line kind) = IsRefused line kind before after
Says last before after ReadFault = IsUnread before after
Says last before after WriteFault = IsUnwritten last before after
Says last before after NoMemory = IsOutOfMemory last before after

-- a play in which no region opens an epoch past `last` began with the one outside, left the other and came to this status
pub record IsPlayOf (last : ℕ) (before after : Outside) (status : Status) : Type 0 where
  -- what the status says; `usage` is no status of a play
  pub says : Says last before after status
  -- at most one byte more was taken than a script may have, all from the front
  pub taken : LosesAtMost (SCRIPT_BYTES + 1) before.left after.left
  -- no count of faults fell
  pub reads : before.read_faults ≤ after.read_faults
  pub writes : before.write_faults ≤ after.write_faults
  -- the keepers' lists are as before
  pub logs : after.logs ≡ before.logs
  -- a script is played to its end where neither source nor sink failed and memory was found
  pub complete : (script : Script) → Gives before script →
      ¬ (Rose before.read_faults after.read_faults) → ¬ (Rose before.write_faults after.write_faults) →
      (status ≡ Done) ⊎ (status ≡ NoMemory)
  -- what is no script comes to a script fault, where it could be read and memory was found
  pub no_script : GivesNone before → IsScriptFault status ⊎ ((status ≡ ReadFault) ⊎ (status ≡ NoMemory))
