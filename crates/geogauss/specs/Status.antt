-- How a call ended.
use Rattle.std.specs.Prelude.{ℕ, List, ◌++◌, codes}
use Rattle.std.specs.Fmt.{decimal}
use Rattle.world_script.specs.declared.script.ScriptKind.{ScriptKind}
use Rattle.world_script.specs.declared.script.ScriptKind.TheVariants.{TooLong, NotBuilt}
use Rattle.geogauss.specs.declared.status.Status.{Status}
use Rattle.geogauss.specs.declared.status.Status.TheVariants.{Done, Usage, ScriptFault, ReadFault, WriteFault, NoMemory}

-- the number that the process ends with
abbrev pub number_of : Status → ℕ
number_of Done = 0
number_of Usage = 2
number_of (ScriptFault line kind) = 3
number_of ReadFault = 4
number_of WriteFault = 5
number_of NoMemory = 8

abbrev pub kind_text : ScriptKind → List ℕ
kind_text TooLong = codes "TooLong"
kind_text NotBuilt = codes "NotBuilt"

-- what is said of it
abbrev pub status_text : Status → List ℕ
status_text Done = codes "done"
status_text Usage = codes "usage: geogauss play"
status_text (ScriptFault line kind) = codes "script fault at line " ++ decimal line ++ codes ": " ++ kind_text kind
status_text ReadFault = codes "read fault"
status_text WriteFault = codes "write fault"
status_text NoMemory = codes "out of memory"

-- the script was refused, at some line
abbrev pub IsScriptFault : Status → Type 0
IsScriptFault Done = ⊥
IsScriptFault Usage = ⊥
IsScriptFault (ScriptFault line kind) = Unit {0}
IsScriptFault ReadFault = ⊥
IsScriptFault WriteFault = ⊥
IsScriptFault NoMemory = ⊥
