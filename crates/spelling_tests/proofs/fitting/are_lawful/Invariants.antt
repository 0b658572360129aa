use Rattle.std.proofs.Common.{ℕ, ◌<◌, get_or}
use Rattle.write_set.specs.declared.candidate.Candidate.{Candidate}
use Rattle.write_set.specs.Journal.{IsCandidate}
use Rattle.spelling_tests.proofs.fitting.are_lawful.Given as goal

abbrev pub invariant-loop-candidate : goal.invariant-loop-candidate
invariant-loop-candidate l = (k : ℕ) (d : Candidate) → k < l.candidate-index → IsCandidate l.epoch (get_or l.candidates k d)
