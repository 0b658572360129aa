-- What a search of a list finds, and what a test that all its elements fail says.
use Rattle.std.proofs.Common.{◌≡◌, Bool, true, false, cond, get_or, Option, None, Some, List, [], ◌∷◌, Contains, find, refl, sym, ap, ◌∙◌, subst}
use Rattle.std.specs.List.{list_any}
use Rattle.std.proofs.lemmas.Bool.{false≢true}
use Rattle.std.proofs.lemmas.List.Elements.{Contains-get_or}
use Rattle.std.proofs.lemmas.List.Folds.{list_any_none}
use Rattle.write_set.specs.laws.Among.{among_first, among_later, none_found}

module _ {X : Type 0} where
  pub none_passes : (test : X → Bool) (xs : List X) → ((x : X) → Contains xs x → test x ≡ false) → list_any test xs ≡ false
  none_passes test xs h = list_any_none test xs (λ k d within. h (get_or xs k d) (Contains-get_or xs k d within))

  pub found_among : (test : X → Bool) (xs : List X) (x : X) → find test xs ≡ Some x → Contains xs x × (test x ≡ true)
  found_among test [] x e = cc
  found_among test (y ∷ ys) x e = by (test y) refl e (found_among test ys x)
    where
      by : (b : Bool) → test y ≡ b → cond b (Some y) (find test ys) ≡ Some x → (find test ys ≡ Some x → Contains ys x × (test x ≡ true)) →
          Contains (y ∷ ys) x × (test x ≡ true)
      by true is found rest =
          let same : y ≡ x = cc in
          (subst (Contains (y ∷ ys)) same (among_first y ys), ap test (sym same) ∙ is)
      by false is found rest = let later = rest found in (among_later y x ys later.0, later.1)

  pub finds : (test : X → Bool) (xs : List X) (x : X) → Contains xs x → test x ≡ true → (y : X) × (find test xs ≡ Some y)
  finds test xs x h e = by (find test xs) refl
    where
      by : (o : Option X) → find test xs ≡ o → (y : X) × (find test xs ≡ Some y)
      by None is = absurd (false≢true (sym (none_found test xs x is h) ∙ e))
      by (Some y) is = (y, is)
