-- Two batches have as many candidates with their places as they have items.
use Rattle.std.proofs.Common.{◌≡◌, ℕ, suc, ◌+◌, List, [], ◌∷◌, length, refl, ap, arith, length-append}
use Rattle.write_set.specs.declared.batch.Batch.{Batch}
use Rattle.write_set.specs.declared.candidate.Candidate.{Candidate}
use Rattle.write_set.specs.Journal.{placed_from, candidates_of}

placed_count : (region csn : ℕ) (items : List Candidate) → length (placed_from region csn items) ≡ length items
placed_count region csn [] = refl
placed_count region csn (c ∷ cs) = ap suc (placed_count region (csn + 1) cs)

pub two_batches : (zero one : Batch) → length (candidates_of (zero ∷ one ∷ [])) ≡ length zero.items + length one.items
two_batches zero one =
    omega (
      arith,
      length-append (placed_from zero.region 0 zero.items) (candidates_of (one ∷ [])),
      length-append (placed_from one.region 0 one.items) [],
      placed_count zero.region 0 zero.items,
      placed_count one.region 0 one.items,
    )
