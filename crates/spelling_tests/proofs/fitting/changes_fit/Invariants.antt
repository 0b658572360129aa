use Rattle.std.proofs.Common.{ℕ, ◌<◌, get_or}
use Rattle.write_set.specs.Sets.{ChangeOfRow}
use Rattle.set_codec.specs.Fits.{FitsTable}
use Rattle.spelling_tests.proofs.fitting.changes_fit.Given as goal

abbrev pub invariant-loop-change : goal.invariant-loop-change
invariant-loop-change l = (k : ℕ) (d : ChangeOfRow) → k < l.change-index → FitsTable l.schema (get_or l.changes k d)
