use Rattle.std.proofs.Common.{◌≡◌, drop}
use Rattle.version_store.specs.inner.Writing.{all_cut}
use Rattle.version_store.specs.inner.Noting.{rows_upto}
use Rattle.version_store.proofs.cutting.cut_noted.Given as goal

-- the rows from here on come to the whole
abbrev pub invariant-loop-note : goal.invariant-loop-note
invariant-loop-note l = all_cut l.horizon (rows_upto l.horizon (drop l.note-index l.notes)) l.rows ≡ all_cut l.horizon (rows_upto l.horizon l.notes) l.initial.rows
