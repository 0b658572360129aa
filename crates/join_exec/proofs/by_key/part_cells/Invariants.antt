-- the cells so far are those of the parts so far
use Rattle.std.proofs.Common.{◌≡◌, map, take}
use Rattle.row_source.specs.Handing.{part_cell}
use Rattle.join_exec.proofs.by_key.part_cells.Given as goal

abbrev pub invariant-loop-part : goal.invariant-loop-part
invariant-loop-part l = l.cells.items ≡ map (part_cell l.left) (take l.part-index l.parts)
