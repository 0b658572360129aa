use Rattle.std.proofs.Common.{◌≡◌, map, take}
use Rattle.snap_view.specs.Snapshots.{rows_of}
use Rattle.snap_view.specs.inner.Naming.{entries_within}
use Rattle.snap_view.proofs.naming.rows_within.Given as goal

-- the rows of the names so far
abbrev pub invariant-loop-name : goal.invariant-loop-name
invariant-loop-name l = map (λ p. (p.0.now, p.1.now)) l.rows.items ≡ entries_within l.index l.range (rows_of l.snapshot) (take l.name-index l.names)
