-- A cell's fault as one of a batch.
use Rattle.row_codec.specs.declared.fault.CellReadFault.{CellReadFault}
use Rattle.row_codec.specs.declared.fault.CellReadFault.TheVariants as of_cell
use Rattle.set_codec.specs.declared.fault.CodecFault.{CodecFault}
use Rattle.set_codec.specs.declared.fault.CodecFault.TheVariants.{Short, BadTag, BadUtf8, OverLimit, NoMemory}
use Rattle.set_codec.specs.declared.fault.Limit.TheVariants as limit

-- the fault of a batch that a cell's fault is, at the same place
abbrev pub fault_of : CellReadFault → CodecFault
fault_of (of_cell.Short at) = Short at
fault_of (of_cell.BadTag at) = BadTag at
fault_of (of_cell.BadUtf8 at) = BadUtf8 at
fault_of (of_cell.TooLong at) = OverLimit at limit.TextBytes
fault_of of_cell.NoMemory = NoMemory
