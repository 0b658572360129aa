-- Laws: things read one after another, in a loop and as a whole.
use Rattle.std.proofs.Common.{◌≡◌, ℕ, zero, suc, ◌+◌, ◌-◌, ◌<◌, ◌≤◌, List, [], ◌∷◌, ◌++◌, length, Ok, Err, refl, sym, ap, subst, ◌∙◌, inl, inr, append_assoc, arith}
use Rattle.std.proofs.lemmas.List.{append-nil}
use Rattle.geo_base.specs.Results.{Read, ◌>>=◌, Fails}
use Rattle.row_codec.specs.Parts.{FirstOrLater, IsFaultOfThings}
use Rattle.row_codec.specs.inner.Things.{things_at, with_front, ComesTo}
use Rattle.row_codec.specs.laws.Tells.{tells_as, tells_done, tells_then}
use Rattle.geo_base.specs.laws.Answers.{Tells}

-- ---- in a loop

module _ {A E : Type 0} where
  regroup : (front : List A) (x : A) (read : Read E (List A)) → with_front front (read >>= λ others. Ok (x ∷ others.0, others.1)) ≡ with_front (front ++ x ∷ []) read
  regroup front x (Ok others) = ap (λ (xs : List A). Ok (xs, others.1)) (simp append_assoc)
  regroup front x (Err e) = refl

module _ {S A E : Type 0} (one : S → List ℕ → ℕ → Read E A) (after : S → A → S) (bytes : List ℕ) (count i : ℕ) (state : S) (front : List A) (next : ℕ) (whole : Read E (List A)) where
  pub goes_on : (x : A) (behind : ℕ) → i < count → one state bytes next ≡ Ok (x, behind) → ComesTo front whole (things_at one after (count - i) state bytes next) →
      ComesTo (front ++ x ∷ []) whole (things_at one after (count - (i + 1)) (after state x) bytes behind)
  unfolding things_at
  goes_on x behind lt read so_far =
      let k : count - i ≡ suc (count - (i + 1)) = omega arith in
      let step : with_front front (things_at one after (count - i) state bytes next) ≡ with_front (front ++ x ∷ []) (things_at one after (count - (i + 1)) (after state x) bytes behind) =
      rw (k, read) (regroup front x (things_at one after (count - (i + 1)) (after state x) bytes behind)) in
      sym step ∙ so_far

  pub fails : (no_memory e : E) → i < count → Fails no_memory e (one state bytes next) → ComesTo front whole (things_at one after (count - i) state bytes next) → Fails no_memory e whole
  unfolding things_at
  fails no_memory e lt failed so_far = elim failed [
    | inl c ↦ inl c
    | inr c ↦
        let k : count - i ≡ suc (count - (i + 1)) = omega arith in
        let step : with_front front (things_at one after (count - i) state bytes next) ≡ Err e = rw (k, c) refl in
        inr (sym so_far ∙ step)
  ]

  pub is_done : count ≤ i → ComesTo front whole (things_at one after (count - i) state bytes next) → whole ≡ Ok (front, next)
  unfolding things_at
  is_done le so_far =
      let k : count - i ≡ 0 = omega arith in
      let step : with_front front (things_at one after (count - i) state bytes next) ≡ Ok (front, next) = rw k (ap (λ (xs : List A). Ok (xs, next)) (append-nil front)) in
      sym so_far ∙ step

-- ---- as a whole

-- how a list of things stands there, in terms of its first one and the others
pub record IsList {S A : Type 0} (after : S → A → S) (Stands : S → ℕ → A × ℕ → Type 0) (Stand : S → ℕ → List A × ℕ → Type 0) : Type 0 where
  pub none : (state : S) (at : ℕ) → Stand state at ([], at)
  pub no_more : (state : S) (at next : ℕ) → Stand state at ([], next) → next ≡ at
  pub some : (state : S) (at middle next : ℕ) (x : A) (xs : List A) → Stands state at (x, middle) → Stand (after state x) middle (xs, next) → Stand state at (x ∷ xs, next)
  pub parts : (state : S) (at next : ℕ) (x : A) (xs : List A) → Stand state at (x ∷ xs, next) → (middle : ℕ) × Stands state at (x, middle) × Stand (after state x) middle (xs, next)

-- the state behind a list of things
pub record IsBehind {S A : Type 0} (after : S → A → S) (behind : S → List A → S) : Type 0 where
  pub none : (state : S) → behind state [] ≡ state
  pub some : (state : S) (x : A) (xs : List A) → behind state (x ∷ xs) ≡ behind (after state x) xs

module _ {S A E : Type 0} (one : S → List ℕ → ℕ → Read E A) (after : S → A → S) (behind : S → List A → S) (bytes : List ℕ) (Sound : Type 0)
    (Stands : S → ℕ → A × ℕ → Type 0) (Fault : S → ℕ → E → Type 0) (Stand : S → ℕ → List A × ℕ → Type 0)
    (each : (state : S) (at : ℕ) → Tells Sound (one state bytes at) (Stands state at) (Fault state at)) (list : IsList after Stands Stand) (state_is : IsBehind after behind) where
  abbrev SoMany : ℕ → S → ℕ → List A × ℕ → Type 0
  SoMany count state at x = (length x.0 ≡ count) × Stand state at x

  abbrev Faulty : ℕ → S → ℕ → E → Type 0
  Faulty count state at e = IsFaultOfThings (Stand state at) (λ front. Fault (behind state front)) count e

  none_tells : (state : S) (at : ℕ) → Tells Sound (things_at one after 0 state bytes at) (SoMany 0 state at) (Faulty 0 state at)
  unfolding things_at
  none_tells state at = tells_as Sound (λ y. ([], at) ≡ y) (SoMany 0 state at) (λ _. ⊥) (Faulty 0 state at) (tells_done Sound ([], at))
      (λ _ y e. subst (SoMany 0 state at) e (refl, list.none state at)) no_others (λ _ e no. absurd no) (λ e h. absurd (omega (arith, h.few)))
    where
      no_others : (y : List A × ℕ) → SoMany 0 state at y → ([], at) ≡ y
      no_others ([], next) s = ap (λ (n : ℕ). ([], n)) (sym (list.no_more state at next s.1))
      no_others (x ∷ xs, next) s = absurd (omega (arith, s.0))

  pub things_tell : (count : ℕ) (state : S) (at : ℕ) → Tells Sound (things_at one after count state bytes at) (SoMany count state at) (Faulty count state at)
  unfolding things_at
  things_tell zero state at = none_tells state at
  things_tell (suc count) state at =
      tells_as Sound
      (λ y. (first : A × ℕ) × Stands state at first × ((others : List A × ℕ) × SoMany count (after state first.0) first.1 others × ((first.0 ∷ others.0, others.1) ≡ y))) (SoMany (suc count) state at)
      (λ e. FirstOrLater (Fault state at e) (Stands state at) (λ first. FirstOrLater (Faulty count (after state first.0) first.1 e) (SoMany count (after state first.0) first.1) (λ _. ⊥))) (Faulty (suc count) state at)
      (tells_then Sound (one state bytes at) _ (Stands state at) (Fault state at) _ (λ first e. FirstOrLater (Faulty count (after state first.0) first.1 e) (SoMany count (after state first.0) first.1) (λ _. ⊥)) (each state at) (λ first _.
      tells_then Sound (things_at one after count (after state first.0) bytes first.1) (λ others. Ok (first.0 ∷ others.0, others.1)) (SoMany count (after state first.0) first.1) (Faulty count (after state first.0) first.1)
      (λ others y. (first.0 ∷ others.0, others.1) ≡ y) (λ _ _. ⊥) (things_tell count (after state first.0) first.1) (λ others _. tells_done Sound (first.0 ∷ others.0, others.1))))
      together apart to_fault back_fault
    where
      together : Sound → (y : List A × ℕ) → ((first : A × ℕ) × Stands state at first × ((others : List A × ℕ) × SoMany count (after state first.0) first.1 others × ((first.0 ∷ others.0, others.1) ≡ y))) → SoMany (suc count) state at y
      together _ y ((x, middle), first, ((xs, next), others, e)) = subst (SoMany (suc count) state at) e (ap suc others.0, list.some state at middle next x xs first others.1)

      apart : (y : List A × ℕ) → SoMany (suc count) state at y → (first : A × ℕ) × Stands state at first × ((others : List A × ℕ) × SoMany count (after state first.0) first.1 others × ((first.0 ∷ others.0, others.1) ≡ y))
      apart ([], next) s = absurd (omega (arith, s.0))
      apart (x ∷ xs, next) s = let p = list.parts state at next x xs s.1 in ((x, p.0), p.1, ((xs, next), (omega (arith, s.0), p.2), refl))

      to_fault : Sound → (e : E) → FirstOrLater (Fault state at e) (Stands state at) (λ first. FirstOrLater (Faulty count (after state first.0) first.1 e) (SoMany count (after state first.0) first.1) (λ _. ⊥)) → Faulty (suc count) state at e
      to_fault _ e (inl c) = record { front = []; place = at; few = omega arith; stand = list.none state at; fault = subst (λ (s : S). Fault s at e) (sym (state_is.none state)) c }
      to_fault _ e (inr ((x, middle), first, inl c)) = record {
        front = x ∷ c.front;
        place = c.place;
        few = omega (arith, c.few);
        stand = list.some state at middle c.place x c.front first c.stand;
        fault = subst (λ (s : S). Fault s c.place e) (sym (state_is.some state x c.front)) c.fault;
      }
      to_fault _ e (inr (first, stands, inr c)) = absurd c.2

      back : (e : E) (front : List A) (place : ℕ) → length front < suc count → Stand state at (front, place) → Fault (behind state front) place e →
          FirstOrLater (Fault state at e) (Stands state at) (λ first. FirstOrLater (Faulty count (after state first.0) first.1 e) (SoMany count (after state first.0) first.1) (λ _. ⊥))
      back e [] place few stand fault = inl (subst (λ (n : ℕ). Fault state n e) (list.no_more state at place stand) (subst (λ (s : S). Fault s place e) (state_is.none state) fault))
      back e (x ∷ xs) place few stand fault =
          let p = list.parts state at place x xs stand in
          inr ((x, p.0), p.1, inl (record { front = xs; place = place; few = omega (arith, few); stand = p.2; fault = subst (λ (s : S). Fault s place e) (state_is.some state x xs) fault }))

      back_fault : (e : E) → Faulty (suc count) state at e → FirstOrLater (Fault state at e) (Stands state at) (λ first. FirstOrLater (Faulty count (after state first.0) first.1 e) (SoMany count (after state first.0) first.1) (λ _. ⊥))
      back_fault e h = back e h.front h.place h.few h.stand h.fault
