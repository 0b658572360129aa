-- Laws: what tests, filters and searches of a list say of the elements that are in it.
use Rattle.std.proofs.Common.{◌≡◌, ◌⊎◌, inl, inr, ⊎_elim, ℕ, ◌<◌, zero, suc, Bool, true, false, cond, ◌||◌, ◌&&◌, None, Some, List, [], ◌∷◌, length, get_or, Contains, filter, find, refl, sym, ap, ◌∙◌, subst, arith}
use Rattle.std.specs.List.{list_any, list_all}
use Rattle.std.proofs.lemmas.Bool.{false≢true}
use Rattle.std.proofs.lemmas.List.Elements.{All-contains, All-contains_itself, All-filter, Contains-get_or, filter_passes}
use Rattle.std.proofs.lemmas.List.Folds.{Any-from_list_any, list_any_at}
use Rattle.std.proofs.lemmas.List.Sums.{AllPass-from_list_all, list_all-from_AllPass}

pub true_or_false : (b : Bool) → (b ≡ true) ⊎ (b ≡ false)
true_or_false true = inl refl
true_or_false false = inr refl

pub or_false : (a b : Bool) → (a || b) ≡ false → (a ≡ false) × (b ≡ false)
or_false true b e = absurd (false≢true (sym e))
or_false false b e = (refl, e)

pub and_true : (a b : Bool) → (a && b) ≡ true → (a ≡ true) × (b ≡ true)
and_true true b e = (refl, e)
and_true false b e = absurd (false≢true e)

module _ {X : Type 0} where
  pub among_none : (x : X) → Contains [] x → ⊥
  among_none x h = omega (arith, h.1)

  pub among_first : (x : X) (xs : List X) → Contains (x ∷ xs) x
  among_first x xs = (zero, omega arith, refl)

  pub among_later : (y x : X) (xs : List X) → Contains xs x → Contains (y ∷ xs) x
  among_later y x xs h = (suc h.0, omega (arith, h.1), h.2)

  pub among_cases : (y : X) (xs : List X) (x : X) → Contains (y ∷ xs) x → (y ≡ x) ⊎ Contains xs x
  among_cases y xs x h = at h.0 h.1 h.2
    where
      at : (k : ℕ) → k < length (y ∷ xs) → get_or (y ∷ xs) k x ≡ x → (y ≡ x) ⊎ Contains xs x
      at zero within e = inl e
      at (suc k) within e = inr (k, omega arith, e)

  -- ---- tests

  pub any_among : (test : X → Bool) (xs : List X) (x : X) → Contains xs x → test x ≡ true → list_any test xs ≡ true
  any_among test xs x h e = list_any_at test xs h.0 x h.1 (ap test h.2 ∙ e)

  pub none_among : (test : X → Bool) (xs : List X) (x : X) → list_any test xs ≡ false → Contains xs x → test x ≡ false
  none_among test xs x e h =
      ⊎_elim (λ t. absurd (false≢true (sym e ∙ any_among test xs x h t))) (λ f. f) (true_or_false (test x))

  pub any_found : (test : X → Bool) (xs : List X) → list_any test xs ≡ true → (x : X) × Contains xs x × (test x ≡ true)
  any_found test xs e = let found = Any-from_list_any test xs e in (found.1, (found.0, found.2, found.3), found.4)

  pub all_among : (test : X → Bool) (xs : List X) (x : X) → list_all test xs ≡ true → Contains xs x → test x ≡ true
  all_among test xs x e h = All-contains (λ y. test y ≡ true) xs x (AllPass-from_list_all test xs e) h

  pub all_pass : (test : X → Bool) (xs : List X) → ((x : X) → Contains xs x → test x ≡ true) → list_all test xs ≡ true
  all_pass test xs h = list_all-from_AllPass test xs (λ k d within. h (get_or xs k d) (Contains-get_or xs k d within))

  -- ---- filters

  pub filtered_among : (test : X → Bool) (xs : List X) (x : X) → Contains (filter test xs) x → Contains xs x × (test x ≡ true)
  filtered_among test xs x h = (
    All-contains (Contains xs) (filter test xs) x (All-filter test (Contains xs) xs (All-contains_itself xs)) h,
    All-contains (λ y. test y ≡ true) (filter test xs) x (filter_passes test xs) h,
  )

  pub among_filtered : (test : X → Bool) (xs : List X) (x : X) → Contains xs x → test x ≡ true → Contains (filter test xs) x
  among_filtered test [] x h e = absurd (among_none x h)
  among_filtered test (y ∷ ys) x h e = by (test y) refl (among_cases y ys x h) (λ later. among_filtered test ys x later e)
    where
      by : (b : Bool) → test y ≡ b → (y ≡ x) ⊎ Contains ys x → (Contains ys x → Contains (filter test ys) x) →
          Contains (cond b (y ∷ filter test ys) (filter test ys)) x
      by true is cases rest =
          ⊎_elim (λ same. subst (Contains (y ∷ filter test ys)) same (among_first y (filter test ys)))
          (λ later. among_later y x (filter test ys) (rest later)) cases
      by false is cases rest =
          ⊎_elim (λ same. absurd (false≢true (sym is ∙ (ap test same ∙ e)))) rest cases

  -- ---- searches

  pub none_found : (test : X → Bool) (xs : List X) (x : X) → find test xs ≡ None → Contains xs x → test x ≡ false
  none_found test [] x e h = absurd (among_none x h)
  none_found test (y ∷ ys) x e h = by (test y) refl e (none_found test ys x)
    where
      by : (b : Bool) → test y ≡ b → cond b (Some y) (find test ys) ≡ None → (find test ys ≡ None → Contains ys x → test x ≡ false) → test x ≡ false
      by true is found rest = cc
      by false is found rest = ⊎_elim (λ same. ap test (sym same) ∙ is) (rest found) (among_cases y ys x h)
