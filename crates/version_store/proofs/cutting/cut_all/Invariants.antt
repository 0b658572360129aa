use Rattle.std.proofs.Common.{◌≡◌, drop}
use Rattle.version_store.specs.inner.Writing.{all_cut}
use Rattle.version_store.proofs.cutting.cut_all.Given as goal

-- the rows from here on come to the whole
abbrev pub invariant-loop-row : goal.invariant-loop-row
invariant-loop-row l = all_cut l.horizon (drop l.row-index l.names) l.rows ≡ all_cut l.horizon l.names l.initial.rows
