-- Laws: parts of lists, what holds of each item of them, and how they are put together.
use Rattle.std.proofs.Common.{◌≡◌, ℕ, ◌+◌, ◌<◌, Bool, true, false, List, [], ◌∷◌, ◌++◌, length, take, drop, get_or, refl, ap, sym, ◌∙◌}
use Rattle.std.specs.List.{All, filter}
use Rattle.std.proofs.lemmas.List.{drop_more, take-append-drop}
use Rattle.std.proofs.lemmas.List.Elements.{All-nil, All-cons, All-head, All-tail}

module _ {X : Type 0} (P : X → Type 0) where
  pub All-left : (xs ys : List X) → All P (xs ++ ys) → All P xs
  All-left [] ys h = All-nil P
  All-left (x ∷ xs) ys h = All-cons P x xs (All-head P x (xs ++ ys) h) (All-left xs ys (All-tail P x (xs ++ ys) h))

  pub All-right : (xs ys : List X) → All P (xs ++ ys) → All P ys
  All-right [] ys h = h
  All-right (x ∷ xs) ys h = All-right xs ys (All-tail P x (xs ++ ys) h)

module _ {X : Type 0} (test : X → Bool) where
  -- where the test answers the same for all items, the filter keeps all or none
  pub filter_all : (xs : List X) → All (λ x. test x ≡ true) xs → filter test xs ≡ xs
  filter_all [] h = refl
  filter_all (x ∷ xs) h =
      rw (All-head (λ y. test y ≡ true) x xs h) (ap (λ l. x ∷ l) (filter_all xs (All-tail (λ y. test y ≡ true) x xs h)))

  pub filter_none : (xs : List X) → All (λ x. test x ≡ false) xs → filter test xs ≡ []
  filter_none [] h = refl
  filter_none (x ∷ xs) h =
      rw (All-head (λ y. test y ≡ false) x xs h) (filter_none xs (All-tail (λ y. test y ≡ false) x xs h))

-- a list is what stands before a place, the item there, and what stands behind it
pub pieces : {X : Type 0} (xs : List X) (i : ℕ) (d : X) → i < length xs → take i xs ++ (get_or xs i d ∷ drop (i + 1) xs) ≡ xs
pieces xs i d within = ap (λ l. take i xs ++ l) (sym (drop_more xs i d within)) ∙ take-append-drop i xs
