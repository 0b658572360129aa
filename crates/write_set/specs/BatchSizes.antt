-- How many bytes the spelling of a batch has.
use Rattle.std.specs.Prelude.{ℕ, ◌+◌, List, sum_by}
use Rattle.write_set.specs.declared.candidate.Candidate.{Candidate}
use Rattle.write_set.specs.Sizes.{set_size}

-- the start, the number of rows, and the changes
abbrev pub candidate_size : Candidate → ℕ
candidate_size c = 8 + set_size c.set

-- the mark, the region, the epoch, the number of candidates, and the candidates
abbrev pub batch_size : List Candidate → ℕ
batch_size items = 13 + sum_by candidate_size items
