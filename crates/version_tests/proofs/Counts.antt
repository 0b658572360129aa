-- How many candidates two batches have.
use Rattle.std.proofs.Common.{◌≡◌, ℕ, suc, ◌+◌, List, [], ◌∷◌, length, refl, ap, arith, length-append}
use Rattle.write_set.specs.declared.batch.Batch.{Batch}
use Rattle.write_set.specs.declared.candidate.Candidate.{Candidate}
use Rattle.write_set.specs.Journal.{placed_from, candidates_of}

length_placed : (region csn : ℕ) (items : List Candidate) → length (placed_from region csn items) ≡ length items
length_placed region csn [] = refl
length_placed region csn (c ∷ items) = ap suc (length_placed region (csn + 1) items)

pub two_batches : (zero one : Batch) → length (candidates_of (zero ∷ one ∷ [])) ≡ length zero.items + length one.items
two_batches zero one =
    omega (
      arith,
      length-append (placed_from zero.region 0 zero.items) (candidates_of (one ∷ [])),
      length-append (placed_from one.region 0 one.items) [],
      length_placed zero.region 0 zero.items,
      length_placed one.region 0 one.items,
    )
