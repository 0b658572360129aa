-- the changes so far are made: the others make of the rows what all make of the first ones
use Rattle.std.proofs.Common.{◌≡◌, drop}
use Rattle.write_set.specs.Overlay.{overlay}
use Rattle.rows_kit.proofs.laying.make_all.Given as goal

abbrev pub invariant-loop-row : goal.invariant-loop-row
invariant-loop-row l = overlay l.images.entries (drop l.row-index l.changes) ≡ overlay l.initial.images.entries l.changes
