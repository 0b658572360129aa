-- Inner: what a last flush that failed makes of a status.
use Rattle.geogauss.specs.declared.status.Status.{Status}
use Rattle.geogauss.specs.declared.status.Status.TheVariants.{Done, Usage, ScriptFault, ReadFault, WriteFault, NoMemory}

-- the status where what was held back could not be handed on
abbrev pub unflushed_status : Status → Status
unflushed_status Done = WriteFault
unflushed_status Usage = Usage
unflushed_status (ScriptFault line kind) = ScriptFault line kind
unflushed_status ReadFault = ReadFault
unflushed_status WriteFault = WriteFault
unflushed_status NoMemory = NoMemory
