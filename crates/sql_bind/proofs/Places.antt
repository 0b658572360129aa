-- The first places of a list, one more of them, and that they are below their number.
use Rattle.std.proofs.Common.{◌≡◌, ℕ, zero, suc, ◌+◌, ◌<◌, List, [], ◌∷◌, ◌++◌, sym, ap, subst, arith}
use Rattle.std.specs.List.{All, range_with_len}
use Rattle.std.proofs.lemmas.List.FromFn.{length-range_with_len, get_or-range_with_len}

more : (at count next : ℕ) → at + count ≡ next → range_with_len at (suc count) ≡ range_with_len at count ++ next ∷ []
more at zero next e = let here : at ≡ next = omega arith in ap (λ (n : ℕ). n ∷ []) here
more at (suc count) next e = ap (λ (l : List ℕ). at ∷ l) (more (at + 1) count next (omega arith))

pub one_more : (places : List ℕ) (count : ℕ) → places ≡ range_with_len 0 count → places ++ count ∷ [] ≡ range_with_len 0 (count + 1)
one_more places count is =
    let next : count + 1 ≡ suc count = omega arith in
    rw (next, is) (sym (more 0 count count (omega arith)))

pub all_below : (places : List ℕ) (count : ℕ) → places ≡ range_with_len 0 count → All (λ place. place < count) places
all_below places count is = subst (All (λ place. place < count)) (sym is) (λ k d lt.
    let few : k < count = omega (arith, length-range_with_len 0 count) in
    omega (arith, get_or-range_with_len 0 count k d few))
