use Rattle.std.proofs.Common.{◌≡◌, take}
use Rattle.write_set.specs.inner.LastChanges.{rows_altered}
use Rattle.write_set.proofs.writes.rows_altered.Given as goal

-- those of the rows so far that are put or removed are copied
abbrev pub invariant-loop-row : goal.invariant-loop-row
invariant-loop-row l = l.rows.items ≡ rows_altered (take l.row-index l.writes)
