-- Inner: what playing a script that was read says of the sink.
use Rattle.std.specs.Prelude.{ℕ, Option, List}
use Rattle.std.specs.Io.KnownBytes.{Appends}
use Rattle.geo_io.specs.Causes.{Rose}
use Rattle.world_script.specs.declared.script.Script.{Script}
use Rattle.geogauss.specs.declared.status.Status.{Status}
use Rattle.geogauss.specs.declared.status.Status.TheVariants.{Done, Usage, ScriptFault, ReadFault, WriteFault, NoMemory}
use Rattle.geogauss.specs.Playing.{StoppedAfter, world_of, play_text}

-- what this status says of a sink with these counts of faults
abbrev pub IsPlayed : ℕ → Script → Option (List ℕ) → Option (List ℕ) → ℕ → ℕ → Status → Type 0
IsPlayed last script old new before now Done = Appends old new (play_text last script)
IsPlayed last script old new before now Usage = ⊥
IsPlayed last script old new before now (ScriptFault line kind) = ⊥
IsPlayed last script old new before now ReadFault = ⊥
IsPlayed last script old new before now WriteFault =
    Rose before now × StoppedAfter (world_of last script) script.events old new
IsPlayed last script old new before now NoMemory = StoppedAfter (world_of last script) script.events old new
