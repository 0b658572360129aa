-- Laws: what a search for a place that passes a test finds.
use Rattle.std.proofs.Common.{◌≡◌, ℕ, zero, suc, ◌+◌, ◌<◌, ◌≤◌, Bool, true, false, cond, ltb, not, List, Some, None, length, get_or, inl, inr, refl, sym, subst, ap, ◌∙◌, arith}
use Rattle.std.specs.List.{position, position_or_len}
use Rattle.std.proofs.lemmas.Bool.{cases_lt, not-true, ltb-true, lt-ltb}
use Rattle.std.proofs.lemmas.Bool.Decides.{nat_tests}
use Rattle.std.proofs.lemmas.List.Sums.{prefix_len_passes, position_or_len_is, passes_at_first, fails_before_first}
use Rattle.std.proofs.lemmas.Option.{cond_some, none-some}
use Rattle.geo_base.specs.laws.Results.{chosen}
use Rattle.geo_schema.specs.inner.Uniques.{first_place}

module _ {X : Type 0} (p : X → Bool) where
  past_all : (xs : List X) → position p xs ≡ None → length xs ≤ position_or_len p xs
  past_all xs h = grind (arith, nat_tests)

  -- where no place is found, none passes
  pub none_passes : (xs : List X) (k : ℕ) (d : X) → position p xs ≡ None → k < length xs → p (get_or xs k d) ≡ false
  none_passes xs k d h within =
      let past = past_all xs h in
      let here : k < position_or_len p xs = omega arith in
      not-true (p (get_or xs k d)) (prefix_len_passes (λ x. not (p x)) xs k d here)

  -- where none passes, no place is found
  pub none_found : (xs : List X) (d : X) → ((k : ℕ) → k < length xs → p (get_or xs k d) ≡ false) → position p xs ≡ None
  none_found xs d h =
      let past : position_or_len p xs ≡ length xs = position_or_len_is p xs (length xs) d (omega arith) h (λ lt. absurd (omega arith)) in
      grind (arith, nat_tests)

  -- the place that is found passes, and none before it
  pub found_at : (xs : List X) (n : ℕ) → position p xs ≡ Some n → (n < length xs) × ((d : X) → p (get_or xs n d) ≡ true) × ((k : ℕ) (d : X) → k < n → p (get_or xs k d) ≡ false)
  found_at xs n h =
      let first = position_or_len p xs in
      let c = cond_some (ltb first (length xs)) first n h in
      let within : first < length xs = ltb-true first (length xs) c.0 in
      subst (λ (m : ℕ). (m < length xs) × ((d : X) → p (get_or xs m d) ≡ true) × ((k : ℕ) (d : X) → k < m → p (get_or xs k d) ≡ false)) c.1
      (within, (λ d. passes_at_first p xs d within), λ k d lt. fails_before_first p xs k d lt)

  -- the first place that passes is found
  pub at_found : (xs : List X) (n : ℕ) (d : X) → n < length xs → p (get_or xs n d) ≡ true → ((k : ℕ) → k < n → p (get_or xs k d) ≡ false) → position p xs ≡ Some n
  at_found xs n d within passes none =
      let is : position_or_len p xs ≡ n = position_or_len_is p xs n d (omega arith) none (λ _. passes) in
      ap (λ (m : ℕ). cond (ltb m (length xs)) (Some m) None) is ∙ ap (λ (b : Bool). cond b (Some n) None) (lt-ltb n (length xs) within)

-- a search through so many places from one on, which looks at each place itself
module _ (test : ℕ → Bool) where
  -- where none is found, none passes
  pub none_from : (at count k : ℕ) → first_place test at count ≡ None → at ≤ k → k < at + count → test k ≡ false
  none_from at zero k h low high = absurd (omega arith)
  none_from at (suc count) k h low high =
      let later : first_place test (at + 1) count ≡ None → at + 1 ≤ k → k < at + 1 + count → test k ≡ false = none_from (at + 1) count k in
      elim (chosen (test at) (Some at) (first_place test (at + 1) count) None h) [
        | inl p ↦ absurd (none-some at (sym p.1))
        | inr p ↦ elim (cases_lt at k) [
          | inl before ↦ later p.1 (omega arith) (omega arith)
          | inr upto ↦ let here : at ≡ k = omega arith in subst (λ (n : ℕ). test n ≡ false) here p.0
        ]
      ]

  -- where none passes, none is found
  pub from_none : (at count : ℕ) → ((k : ℕ) → at ≤ k → k < at + count → test k ≡ false) → first_place test at count ≡ None
  from_none at zero none = refl
  from_none at (suc count) none =
      let now : test at ≡ false = none at (omega arith) (omega arith) in
      rw now (from_none (at + 1) count (λ k low high. none k (omega arith) (omega arith)))

  -- the place that is found passes, and none before it
  pub found_from : (at count n : ℕ) → first_place test at count ≡ Some n → (at ≤ n) × (n < at + count) × (test n ≡ true) × ((k : ℕ) → at ≤ k → k < n → test k ≡ false)
  found_from at zero n h = absurd (none-some n h)
  found_from at (suc count) n h =
      let later : first_place test (at + 1) count ≡ Some n → (at + 1 ≤ n) × (n < at + 1 + count) × (test n ≡ true) × ((k : ℕ) → at + 1 ≤ k → k < n → test k ≡ false) =
      found_from (at + 1) count n in
      elim (chosen (test at) (Some at) (first_place test (at + 1) count) (Some n) h) [
        | inl p ↦ first at (suc count) n p.0 (some_is at n p.1) (omega arith)
        | inr p ↦ further at count n p.0 (later p.1)
      ]
    where
      some_is : (a b : ℕ) → Some a ≡ Some b → a ≡ b
      some_is a b e = cc

      first : (at count n : ℕ) → test at ≡ true → at ≡ n → 1 ≤ count → (at ≤ n) × (n < at + count) × (test n ≡ true) × ((k : ℕ) → at ≤ k → k < n → test k ≡ false)
      first at count n passes here some = (omega arith, omega arith, subst (λ (m : ℕ). test m ≡ true) here passes, λ k low high. absurd (omega arith))

      further : (at count n : ℕ) → test at ≡ false → (at + 1 ≤ n) × (n < at + 1 + count) × (test n ≡ true) × ((k : ℕ) → at + 1 ≤ k → k < n → test k ≡ false) →
          (at ≤ n) × (n < at + suc count) × (test n ≡ true) × ((k : ℕ) → at ≤ k → k < n → test k ≡ false)
      further at count n fails (low, high, passes, before) = (
        omega arith,
        omega arith,
        passes,
        λ k from to.
            elim (cases_lt at k) [
              | inl behind ↦ before k (omega arith) to
              | inr upto ↦ let here : at ≡ k = omega arith in subst (λ (m : ℕ). test m ≡ false) here fails
            ],
      )

  -- the first place that passes is found
  pub from_found : (at count n : ℕ) → at ≤ n → n < at + count → test n ≡ true → ((k : ℕ) → at ≤ k → k < n → test k ≡ false) → first_place test at count ≡ Some n
  from_found at zero n low high passes none = absurd (omega arith)
  from_found at (suc count) n low high passes none =
      let later : at + 1 ≤ n → n < at + 1 + count → test n ≡ true → ((k : ℕ) → at + 1 ≤ k → k < n → test k ≡ false) → first_place test (at + 1) count ≡ Some n =
      from_found (at + 1) count n in
      elim (cases_lt at n) [
        | inl before ↦ let now : test at ≡ false = none at (omega arith) before in rw now (later (omega arith) (omega arith) passes (λ k from to. none k (omega arith) to))
        | inr upto ↦
            let here : n ≡ at = omega arith in
            let now : test at ≡ true = subst (λ (m : ℕ). test m ≡ true) here passes in
            rw now (ap (λ (m : ℕ). Some m) (sym here))
      ]
