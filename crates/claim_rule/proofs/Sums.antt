-- Sums over all views where one view changes.
use Rattle.std.proofs.Common.{◌≡◌, ℕ, zero, suc, ◌+◌, ◌<◌, ◌≤◌, List, [], ◌∷◌, ◌++◌, set, refl, sym, ap, subst, arith}
use Rattle.std.specs.Prelude.{sum_by, All}
use Rattle.std.proofs.lemmas.List.Sums.{sum_by-cons, sum_by-append}
use Rattle.std.proofs.lemmas.List.Elements.{All-head, All-tail}
use mathlib.Core.Option.{some, some-ne-none, some-injective}
use lib.ListN.{get_elem?}

module _ {A : Type 0} where
  pub each_at : (P : A → Type 0) (xs : List A) (i : ℕ) (v : A) → All P xs → get_elem? xs i ≡ some v → P v
  each_at P [] i v all at = absurd (some-ne-none v (sym at))
  each_at P (x ∷ xs) zero v all at = subst P (some-injective x v at) (All-head P x xs all)
  each_at P (x ∷ xs) (suc i) v all at = each_at P xs i v (All-tail P x xs all) at

  pub sum_set : (f : A → ℕ) (xs : List A) (i : ℕ) (v w : A) → get_elem? xs i ≡ some v → sum_by f (set xs i w) + f v ≡ sum_by f xs + f w
  sum_set f [] i v w at = absurd (some-ne-none v (sym at))
  sum_set f (x ∷ xs) zero v w at = let same = ap f (some-injective x v at) in omega (arith, sum_by-cons f w xs, sum_by-cons f x xs)
  sum_set f (x ∷ xs) (suc i) v w at = let rest = sum_set f xs i v w at in omega (arith, sum_by-cons f x (set xs i w), sum_by-cons f x xs)

  pub sum_set_same : (f : A → ℕ) (xs : List A) (i : ℕ) (v w : A) → get_elem? xs i ≡ some v → f w ≡ f v → sum_by f (set xs i w) ≡ sum_by f xs
  sum_set_same f xs i v w at same = let moved = sum_set f xs i v w at in omega arith

  pub sum_at : (f : A → ℕ) (xs : List A) (i : ℕ) (v : A) → get_elem? xs i ≡ some v → f v ≤ sum_by f xs
  sum_at f [] i v at = absurd (some-ne-none v (sym at))
  sum_at f (x ∷ xs) zero v at = let same = ap f (some-injective x v at) in omega (arith, sum_by-cons f x xs)
  sum_at f (x ∷ xs) (suc i) v at = let rest = sum_at f xs i v at in omega (arith, sum_by-cons f x xs)

  pub sum_both : (f g : A → ℕ) (xs : List A) → sum_by (λ v. f v + g v) xs ≡ sum_by f xs + sum_by g xs
  sum_both f g [] = refl
  sum_both f g (x ∷ xs) = let rest = sum_both f g xs in omega (arith, sum_by-cons (λ v. f v + g v) x xs, sum_by-cons f x xs, sum_by-cons g x xs)

  pub sum_each : (f g : A → ℕ) (xs : List A) → All (λ v. f v ≤ g v) xs → sum_by f xs ≤ sum_by g xs
  sum_each f g [] all = omega arith
  sum_each f g (x ∷ xs) all =
      let here : f x ≤ g x = All-head (λ v. f v ≤ g v) x xs all in
      let rest = sum_each f g xs (All-tail (λ v. f v ≤ g v) x xs all) in
      omega (arith, sum_by-cons f x xs, sum_by-cons g x xs)

  -- where a sum isn't 0, one of its terms isn't
  pub sum_some : (f : A → ℕ) (xs : List A) → 0 < sum_by f xs → (i : ℕ) × (v : A) × (get_elem? xs i ≡ some v) × (0 < f v)
  sum_some f [] more = absurd (omega arith)
  sum_some f (x ∷ xs) more = by (f x) refl (λ later. sum_some f xs later)
    where
      by : (n : ℕ) → f x ≡ n → (0 < sum_by f xs → (i : ℕ) × (v : A) × (get_elem? xs i ≡ some v) × (0 < f v)) → (i : ℕ) × (v : A) × (get_elem? (x ∷ xs) i ≡ some v) × (0 < f v)
      by zero is below =
          let later : 0 < sum_by f xs = omega (arith, sum_by-cons f x xs) in
          let rest = below later in
          (suc rest.0, rest.1, rest.2, rest.3)
      by (suc n) is below = (0, x, refl, omega arith)

  -- where one view has all of g, it has all of each f that no view has without g
  sum_nothing : (g f : A → ℕ) (xs : List A) → All (λ v. g v ≡ 0 → f v ≡ 0) xs → sum_by g xs ≡ 0 → sum_by f xs ≡ 0
  sum_nothing g f [] both none = refl
  sum_nothing g f (x ∷ xs) both none =
      let here : f x ≡ 0 = All-head (λ v. g v ≡ 0 → f v ≡ 0) x xs both (omega (arith, sum_by-cons g x xs)) in
      let rest : sum_by f xs ≡ 0 = sum_nothing g f xs (All-tail (λ v. g v ≡ 0 → f v ≡ 0) x xs both) (omega (arith, sum_by-cons g x xs)) in
      omega (arith, sum_by-cons f x xs)

  pub sum_alone : (g f : A → ℕ) (xs : List A) (i : ℕ) (v : A) → get_elem? xs i ≡ some v → All (λ u. g u ≡ 0 → f u ≡ 0) xs → sum_by g xs ≡ g v → sum_by f xs ≡ f v
  sum_alone g f [] i v at both whole = absurd (some-ne-none v (sym at))
  sum_alone g f (x ∷ xs) zero v at both whole =
      let same : g x ≡ g v = ap g (some-injective x v at) in
      let same_too : f x ≡ f v = ap f (some-injective x v at) in
      let rest : sum_by f xs ≡ 0 = sum_nothing g f xs (All-tail (λ u. g u ≡ 0 → f u ≡ 0) x xs both) (omega (arith, sum_by-cons g x xs)) in
      omega (arith, sum_by-cons f x xs)
  sum_alone g f (x ∷ xs) (suc i) v at both whole =
      let low : g v ≤ sum_by g xs = sum_at g xs i v at in
      let none : g x ≡ 0 = omega (arith, sum_by-cons g x xs) in
      let here : f x ≡ 0 = All-head (λ u. g u ≡ 0 → f u ≡ 0) x xs both none in
      let rest : sum_by f xs ≡ f v = sum_alone g f xs i v at (All-tail (λ u. g u ≡ 0 → f u ≡ 0) x xs both) (omega (arith, sum_by-cons g x xs)) in
      omega (arith, sum_by-cons f x xs)

  -- one view takes in what another had
  pub sum_joined : (f : A → ℕ) (xs : List A) (i j : ℕ) (v w both spent : A) → get_elem? xs i ≡ some v → get_elem? (set xs i both) j ≡ some w → f both ≡ f v + f w → f spent ≡ 0 → sum_by f (set (set xs i both) j spent) ≡ sum_by f xs
  sum_joined f xs i j v w both spent at there adds none =
      let one = sum_set f xs i v both at in
      let two = sum_set f (set xs i both) j w spent there in
      omega arith

  -- one view is cut in two
  pub sum_split : (f : A → ℕ) (xs : List A) (i : ℕ) (v left right : A) → get_elem? xs i ≡ some v → f left + f right ≡ f v → sum_by f (set xs i left ++ right ∷ []) ≡ sum_by f xs
  sum_split f xs i v left right at adds =
      let one = sum_set f xs i v left at in
      omega (arith, sum_by-append f (set xs i left) (right ∷ []), sum_by-cons f right [])
