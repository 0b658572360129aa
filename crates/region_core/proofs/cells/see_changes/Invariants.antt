use Rattle.std.proofs.Common.{take}
use Rattle.std.specs.List.{All}
use Rattle.set_codec.specs.Fits.{HasCells}
use Rattle.region_core.proofs.cells.see_changes.Given as goal

abbrev pub invariant-loop-row : goal.invariant-loop-row
invariant-loop-row l = All HasCells (take l.row-index l.changes)
