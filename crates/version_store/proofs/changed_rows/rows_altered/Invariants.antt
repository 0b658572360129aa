use Rattle.std.proofs.Common.{◌≡◌, map, take}
use Rattle.write_set.specs.inner.LastChanges.{rows_altered}
use Rattle.version_store.proofs.changed_rows.rows_altered.Given as goal

-- the rows of the changes so far are copied
abbrev pub invariant-loop-change : goal.invariant-loop-change
invariant-loop-change l = l.rows.items ≡ rows_altered (map (λ c. c.now) (take l.change-index l.changes))
