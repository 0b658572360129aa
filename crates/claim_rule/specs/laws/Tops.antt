-- Laws: the greatest value of a function over a list, and the greatest word of a plan for a row.
use Rattle.std.proofs.Common.{◌≡◌, ℕ, zero, suc, ◌<◌, ◌≤◌, max, List, [], ◌∷◌, ◌++◌, length, refl, sym, ap, arith, lt_of_not-le}
use Rattle.std.specs.Prelude.{Contains, slice_index_or}
use mathlib.Core.Option.{some, some-ne-none, some-injective}
use native.Mathlib.Decide.{dec_le}
use lib.ListN.{get_elem?}
use Rattle.claim_rule.specs.Plan.{Pieces, piece_of, top, word_on, best, final_of}

module _ {A : Type 0} (f : A → ℕ) where
  pub top_at : (xs : List A) (i : ℕ) (v : A) → get_elem? xs i ≡ some v → f v ≤ top f xs
  top_at [] i v at = absurd (some-ne-none v (sym at))
  top_at (x ∷ xs) zero v at = let same = ap f (some-injective x v at) in omega arith
  top_at (x ∷ xs) (suc i) v at = let rest = top_at xs i v at in omega arith

  pub top_least : (xs : List A) (most : ℕ) → ((i : ℕ) (v : A) → get_elem? xs i ≡ some v → f v ≤ most) → top f xs ≤ most
  top_least [] most below = omega arith
  top_least (x ∷ xs) most below =
      let here : f x ≤ most = below 0 x refl in
      let rest : top f xs ≤ most = top_least xs most (λ i v at. below (suc i) v at) in
      omega arith

  pub top-append : (xs ys : List A) → top f (xs ++ ys) ≡ max (top f xs) (top f ys)
  top-append [] ys = omega arith
  top-append (x ∷ xs) ys = let rest = top-append xs ys in omega arith

  -- where the greatest value isn't 0, an element has it
  pub top_reached : (xs : List A) → 0 < top f xs → (i : ℕ) × (v : A) × (get_elem? xs i ≡ some v) × (f v ≡ top f xs)
  top_reached [] more = absurd (omega arith)
  top_reached (x ∷ xs) more = by (dec_le (top f xs) (f x)) (λ later. top_reached xs later)
    where
      by : Dec (top f xs ≤ f x) → (0 < top f xs → (i : ℕ) × (v : A) × (get_elem? xs i ≡ some v) × (f v ≡ top f xs)) → (i : ℕ) × (v : A) × (get_elem? (x ∷ xs) i ≡ some v) × (f v ≡ max (f x) (top f xs))
      by (yes here) rest = (0, x, refl, omega arith)
      by (no there) rest =
          let above : f x < top f xs = lt_of_not-le there in
          let found = rest (omega arith) in
          (suc found.0, found.1, found.2, (let is = found.3 in omega arith))

-- lists by their elements
module _ {A : Type 0} where
  pub contains_at : (xs : List A) (x : A) → Contains xs x → (i : ℕ) × (get_elem? xs i ≡ some x)
  contains_at xs x (k, below, is) = (k, at xs k below is)
    where
      at : (ys : List A) (i : ℕ) → i < length ys → slice_index_or ys i x ≡ x → get_elem? ys i ≡ some x
      at [] i h e = absurd (omega arith)
      at (y ∷ ys) zero h e = ap some e
      at (y ∷ ys) (suc i) h e = at ys i (omega arith) e

-- the word of a pair among the claims is at most the best on its row
pub best_at : (pairs : List (ℕ × ℕ)) (row : ℕ) (pair : ℕ × ℕ) → Contains pairs pair → word_on row pair ≤ best row pairs
best_at pairs row pair has = let at = contains_at pairs pair has in top_at (word_on row) pairs at.0 pair at.1

-- the pieces of a plan
pub piece_below : (plan : Pieces) (x row : ℕ) → best row (piece_of plan x) ≤ final_of plan row
piece_below [] x row = omega arith
piece_below (p ∷ ps) zero row = omega arith
piece_below (p ∷ ps) (suc x) row = let rest = piece_below ps x row in omega arith

pub piece_at : (plan : Pieces) (x : ℕ) (pairs : List (ℕ × ℕ)) → get_elem? plan x ≡ some pairs → (piece_of plan x ≡ pairs) × (x < length plan)
piece_at [] x pairs at = absurd (some-ne-none pairs (sym at))
piece_at (p ∷ ps) zero pairs at = (some-injective p pairs at, omega arith)
piece_at (p ∷ ps) (suc x) pairs at = let rest = piece_at ps x pairs at in (rest.0, let below = rest.1 in omega arith)
