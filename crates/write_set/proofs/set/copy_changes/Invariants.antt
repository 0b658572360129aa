use Rattle.std.proofs.Common.{◌≡◌, ◌++◌, take}
use Rattle.write_set.proofs.set.copy_changes.Given as goal

-- the changes so far are copied
abbrev pub invariant-loop-row : goal.invariant-loop-row
invariant-loop-row l = l.copies.items ≡ l.initial.copies.items ++ take l.row-index l.changes
