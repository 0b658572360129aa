use Rattle.std.proofs.Common.{ℕ, ◌<◌, get_or}
use Rattle.write_set.specs.declared.candidate.Candidate.{Candidate}
use Rattle.set_codec.specs.Fits.{FitsTables}
use Rattle.spelling_tests.proofs.fitting.candidates_fit.Given as goal

abbrev pub invariant-loop-candidate : goal.invariant-loop-candidate
invariant-loop-candidate l = (k : ℕ) (d : Candidate) → k < l.candidate-index → FitsTables l.schema (get_or l.candidates k d)
