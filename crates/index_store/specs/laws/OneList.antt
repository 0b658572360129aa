-- Laws: two lists in strictly rising order that have the same items are one list.
use Rattle.std.proofs.Common.{◌≡◌, ◌⊎◌, inl, inr, List, [], ◌∷◌, Contains, refl, sym, ◌∙◌, subst}
use Rattle.std.specs.Cmp.{IsTotalOrder}
use Rattle.std.specs.List.Sorted.{IsStrictlySortedBy}
use Rattle.std.specs.declared.cmp.Ordering.{Ordering}
use Rattle.std.specs.declared.cmp.Ordering.TheVariants.{Less, Equal}
use Rattle.std.proofs.lemmas.Cmp.{tied_itself}
use Rattle.std.proofs.lemmas.List.Elements.{All-contains, All-from_recursion}
use Rattle.write_set.specs.laws.Among.{among_none, among_first, among_later, among_cases}

module _ {K : Type 0} {R : K → K → Ordering} (total : IsTotalOrder R) where
  not_below : (k : K) → R k k ≡ Less → ⊥
  not_below k less =
      let no : Equal ≡ Less = sym (tied_itself total k) ∙ less in
      absurd (cc)

  first_is_least : (x y : K) (xs : List K) → IsStrictlySortedBy R (x ∷ xs) → Contains xs y → R x y ≡ Less
  unfolding IsStrictlySortedBy
  first_is_least x y xs sorted c = All-contains (λ k. R x k ≡ Less) xs y (All-from_recursion (λ k. R x k ≡ Less) xs sorted.0) c

  sorted_rest : (x : K) (xs : List K) → IsStrictlySortedBy R (x ∷ xs) → IsStrictlySortedBy R xs
  unfolding IsStrictlySortedBy
  sorted_rest x xs sorted = sorted.1

  pub one_list : (xs ys : List K) → IsStrictlySortedBy R xs → IsStrictlySortedBy R ys → ((k : K) → Contains xs k → Contains ys k) →
      ((k : K) → Contains ys k → Contains xs k) → xs ≡ ys
  one_list [] [] a b to from = refl
  one_list [] (y ∷ ys) a b to from = absurd (among_none y (from y (among_first y ys)))
  one_list (x ∷ xs) [] a b to from = absurd (among_none x (to x (among_first x xs)))
  one_list (x ∷ xs) (y ∷ ys) a b to from =
      let rest : xs ≡ ys = one_list xs ys (sorted_rest x xs a) (sorted_rest y ys b) forth back in
      λ i. same i ∷ rest i
    where
      heads : ((y ≡ x) ⊎ Contains ys x) → ((x ≡ y) ⊎ Contains xs y) → x ≡ y
      heads (inl e) other = sym e
      heads (inr later) (inl e) = e
      heads (inr later) (inr also) = absurd (not_below x (total.trans x y x (first_is_least x y xs a also) (first_is_least y x ys b later)))

      same : x ≡ y
      same = heads (among_cases y ys x (to x (among_first x xs))) (among_cases x xs y (from y (among_first y ys)))

      forth : (k : K) → Contains xs k → Contains ys k
      forth k c = by (among_cases y ys k (to k (among_later x k xs c)))
        where
          by : ((y ≡ k) ⊎ Contains ys k) → Contains ys k
          by (inl e) = absurd (not_below k (subst (λ z. R z k ≡ Less) (same ∙ e) (first_is_least x k xs a c)))
          by (inr later) = later

      back : (k : K) → Contains ys k → Contains xs k
      back k c = by (among_cases x xs k (from k (among_later y k ys c)))
        where
          by : ((x ≡ k) ⊎ Contains xs k) → Contains xs k
          by (inl e) = absurd (not_below k (subst (λ z. R z k ≡ Less) (sym same ∙ e) (first_is_least y k ys b c)))
          by (inr later) = later
