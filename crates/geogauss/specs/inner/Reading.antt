-- Inner: what reading a script says of it and of its source.
use Rattle.std.specs.Prelude.{◌≡◌, ℕ, ◌≤◌, Option, Some, List, [], All}
use Rattle.std.specs.Io.KnownBytes.{Consumes}
use Rattle.geo_base.specs.declared.limits.TheConstants.{MAX_REGIONS}
use Rattle.geo_io.specs.Causes.{Rose}
use Rattle.world_script.specs.declared.script.Script.{Script}
use Rattle.world_script.specs.declared.script.ScriptKind.{ScriptKind}
use Rattle.world_script.specs.Script.{IsScript, IsWithin}
use Rattle.world_script.specs.Fault.{IsFault}
use Rattle.geogauss.specs.declared.status.Status.{Status}
use Rattle.geogauss.specs.declared.status.Status.TheVariants.{Done, Usage, ScriptFault, ReadFault, WriteFault, NoMemory}
use Rattle.geogauss.specs.Playing.{bytes_read}

-- the script has 1 to 8 regions, and its events are of these
pub record IsPlayable (script : Script) : Type 0 where
  pub some : 1 ≤ script.regions
  pub few : script.regions ≤ MAX_REGIONS
  pub within : All (IsWithin script.regions) script.events

-- the script's text was taken from the source, which has no more
pub record IsReadWhole (script : Script) (old new : Option (List ℕ)) : Type 0 where
  pub bytes : List ℕ
  pub spelled : IsScript script bytes
  pub taken : Consumes old new bytes
  pub end : (input : List ℕ) → old ≡ Some input → new ≡ Some []

-- the bytes that are read of those told were taken, and are refused at this line
pub record IsNoText (line : ℕ) (kind : ScriptKind) (old new : Option (List ℕ)) : Type 0 where
  pub fault : (input : List ℕ) → old ≡ Some input → IsFault (bytes_read input) (record { line = line; kind = kind })
  pub unscripted : (input : List ℕ) (script : Script) → old ≡ Some input → ¬ (IsScript script input)
  pub taken : (input : List ℕ) → old ≡ Some input → Consumes old new (bytes_read input)

-- why no script was read, of a source with these counts of faults
abbrev pub IsNotRead : Option (List ℕ) → Option (List ℕ) → ℕ → ℕ → Status → Type 0
IsNotRead old new before now Done = ⊥
IsNotRead old new before now Usage = ⊥
IsNotRead old new before now (ScriptFault line kind) = IsNoText line kind old new
IsNotRead old new before now ReadFault = Rose before now
IsNotRead old new before now WriteFault = ⊥
IsNotRead old new before now NoMemory = Unit {0}
