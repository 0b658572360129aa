-- The greatest value over all views where one view changes.
use Rattle.std.proofs.Common.{◌≡◌, ◌≢◌, ℕ, zero, suc, ◌≤◌, max, List, [], ◌∷◌, ◌++◌, set, sym, ap, ◌∙◌, ⊎_elim, arith}
use mathlib.Core.Option.{some, some-ne-none, some-injective}
use mathlib.Core.Logic.{dite}
use native.Mathlib.Decide.{ℕ_discrete}
use lib.ListN.{get_elem?}
use Rattle.atomic_table.proofs.Lists.{at_set, set_else}
use Rattle.claim_rule.specs.Plan.{top}
use Rattle.claim_rule.specs.laws.Tops.{top_at, top_least, top-append}

module _ {A : Type 0} (f : A → ℕ) where
  -- one view comes to have more
  pub top_set : (xs : List A) (i : ℕ) (v w : A) → get_elem? xs i ≡ some v → f v ≤ f w → top f (set xs i w) ≡ max (top f xs) (f w)
  top_set [] i v w at more = absurd (some-ne-none v (sym at))
  top_set (x ∷ xs) zero v w at more = let same = ap f (some-injective x v at) in omega arith
  top_set (x ∷ xs) (suc i) v w at more = let rest = top_set xs i v w at more in omega arith

  pub top_set_same : (xs : List A) (i : ℕ) (v w : A) → get_elem? xs i ≡ some v → f w ≡ f v → top f (set xs i w) ≡ top f xs
  top_set_same xs i v w at same =
      let more : f v ≤ f w = omega arith in
      let moved = top_set xs i v w at more in
      let below = top_at f xs i v at in
      omega arith

  -- one view comes to have nothing, while another has all that it had
  pub top_emptied : (xs : List A) (i j : ℕ) (u w s : A) → i ≢ j → get_elem? xs i ≡ some u → get_elem? xs j ≡ some w → f w ≤ f u → f s ≡ 0 → top f (set xs j s) ≡ top f xs
  top_emptied xs i j u w s apart at there held none =
      let down : top f (set xs j s) ≤ top f xs = top_least f (set xs j s) (top f xs)
      (λ k x e. ⊎_elim (λ (t : (k ≡ j) × (s ≡ x)). let same = ap f t.1 in omega arith) (λ (t : (k ≢ j) × (get_elem? xs k ≡ some x)). top_at f xs k x t.1) (at_set xs j k s x e)) in
      let kept : f u ≤ top f (set xs j s) = top_at f (set xs j s) i u (set_else xs j i s apart ∙ at) in
      let up : top f xs ≤ top f (set xs j s) = top_least f xs (top f (set xs j s))
      (λ k x e. dite (ℕ_discrete k j)
      (λ (same : k ≡ j). let is : x ≡ w = some-injective x w (sym e ∙ ap (λ (n : ℕ). get_elem? xs n) same ∙ there) in let fs = ap f is in omega arith)
      (λ (other : k ≢ j). top_at f (set xs j s) k x (set_else xs j k s other ∙ e))) in
      omega arith

  pub top_joined : (xs : List A) (i j : ℕ) (v w both spent : A) → i ≢ j → get_elem? xs i ≡ some v → get_elem? (set xs i both) i ≡ some both → get_elem? (set xs i both) j ≡ some w → get_elem? xs j ≡ some w → f both ≡ max (f v) (f w) → f spent ≡ 0 → top f (set (set xs i both) j spent) ≡ top f xs
  top_joined xs i j v w both spent apart at here there was adds none =
      let more : f v ≤ f both = omega arith in
      let held : f w ≤ f both = omega arith in
      let one = top_set xs i v both at more in
      let two = top_emptied (set xs i both) i j both w spent apart here there held none in
      let a = top_at f xs i v at in
      let b = top_at f xs j w was in
      omega arith

  pub top_split : (xs : List A) (i : ℕ) (v left right : A) → get_elem? xs i ≡ some v → f left ≡ f v → f right ≡ 0 → top f (set xs i left ++ right ∷ []) ≡ top f xs
  top_split xs i v left right at same none =
      let one = top_set_same xs i v left at same in
      let two : top f (set xs i left ++ right ∷ []) ≡ max (top f (set xs i left)) (max (f right) 0) = top-append f (set xs i left) (right ∷ []) in
      omega arith
