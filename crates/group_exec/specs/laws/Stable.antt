-- Laws: two sorted lists with the same items of each kind in the same order are one list.
use Rattle.std.proofs.Common.{◌≡◌, ℕ, zero, suc, ◌+◌, ◌<◌, ◌≤◌, Bool, true, false, cond, not, ◌&&◌, All, Contains, List, [], ◌∷◌, filter, length, get_or, refl, sym, ◌∙◌, subst, arith}
use Rattle.std.specs.Cmp.{IsStrictWeakOrder}
use Rattle.std.specs.List.Sorted.{IsSortedBy, ties}
use Rattle.std.proofs.lemmas.Bool.{false≢true}
use Rattle.std.proofs.lemmas.List.Elements.{All-contains_itself, All-filter, All-head, All-tail}
use Rattle.std.proofs.lemmas.List.Sorted.{sorted_far}

-- ---- sorted lists

module _ {X : Type 0} (lt : X → X → Bool) where
  pub sorted_none : IsSortedBy lt []
  sorted_none k d low within = absurd (omega arith)

  pub sorted_one : (x : X) → IsSortedBy lt (x ∷ [])
  sorted_one x k d low within = absurd (omega arith)

  pub sorted_more : (x y : X) (xs : List X) → lt y x ≡ false → IsSortedBy lt (y ∷ xs) → IsSortedBy lt (x ∷ y ∷ xs)
  sorted_more x y xs h sorted = at
    where
      at : (k : ℕ) (d : X) → 0 ≤ k → k + 1 < length (x ∷ y ∷ xs) → lt (get_or (x ∷ y ∷ xs) (k + 1) d) (get_or (x ∷ y ∷ xs) k d) ≡ false
      at zero d low within = h
      at (suc k) d low within =
          let next : suc k + 1 ≡ suc (k + 1) = omega arith in
          subst (λ (n : ℕ). lt (get_or (x ∷ y ∷ xs) n d) (get_or (y ∷ xs) k d) ≡ false) (sym next) (sorted k d (omega arith) (omega arith))

  pub sorted_rest : (x : X) (xs : List X) → IsSortedBy lt (x ∷ xs) → IsSortedBy lt xs
  sorted_rest x xs sorted k d low within =
      let next : suc k + 1 ≡ suc (k + 1) = omega arith in
      subst (λ (n : ℕ). lt (get_or (x ∷ xs) n d) (get_or xs k d) ≡ false) next (sorted (suc k) d (omega arith) (omega arith))

  -- the first is no greater than the second
  pub sorted_front : (x y : X) (xs : List X) → IsSortedBy lt (x ∷ y ∷ xs) → lt y x ≡ false
  sorted_front x y xs sorted = sorted 0 x (omega arith) (omega arith)

-- ---- ties

module _ {X : Type 0} (lt : X → X → Bool) (order : IsStrictWeakOrder lt) where
  pub not_below_itself : (x : X) → lt x x ≡ false
  not_below_itself x = by (lt x x) refl
    where
      by : (b : Bool) → lt x x ≡ b → lt x x ≡ false
      by true is = order.one_way x x is
      by false is = is

  pub tied : (x y : X) → lt x y ≡ false → lt y x ≡ false → ties lt x y ≡ true
  tied x y a b = rw (a, b) refl

  pub tied_apart : (x y : X) → ties lt x y ≡ true → (lt x y ≡ false) × (lt y x ≡ false)
  tied_apart x y h = by (lt x y) (lt y x) refl refl h
    where
      by : (a b : Bool) → lt x y ≡ a → lt y x ≡ b → (not a && not b) ≡ true → (lt x y ≡ false) × (lt y x ≡ false)
      by true b p q both = absurd (false≢true both)
      by false true p q both = absurd (false≢true both)
      by false false p q both = (p, q)

  -- two items that tie with a third aren't below one another
  pub tied_both : (x a b : X) → ties lt x a ≡ true → ties lt x b ≡ true → lt a b ≡ false
  tied_both x a b h k = order.chain a x b (tied_apart x a h).1 (tied_apart x b k).0

  tied_itself : (x : X) → ties lt x x ≡ true
  tied_itself x = tied x x (not_below_itself x) (not_below_itself x)

  -- ---- one list

  among : (p : X → Bool) (xs : List X) (x : X) (rest : List X) → filter p xs ≡ x ∷ rest → Contains xs x
  among p xs x rest h =
      All-head (Contains xs) x rest (subst (All (Contains xs)) h (All-filter p (Contains xs) xs (All-contains_itself xs)))

  -- no item of a sorted list is below the first
  first_least : (x : X) (xs : List X) (y : X) → IsSortedBy lt (x ∷ xs) → Contains (x ∷ xs) y → lt y x ≡ false
  first_least x xs y sorted here =
      subst (λ (z : X). lt z x ≡ false) here.2 (sorted_far lt order (x ∷ xs) sorted 0 here.0 y (omega arith) here.1)

  kept_first : (x y : X) (ys : List X) → ties lt x y ≡ true → filter (ties lt x) (y ∷ ys) ≡ y ∷ filter (ties lt x) ys
  kept_first x y ys h = rw h refl

  behind : (b : Bool) (y : X) (us vs : List X) → cond b (y ∷ us) us ≡ cond b (y ∷ vs) vs → us ≡ vs
  behind true y us vs h = cc
  behind false y us vs h = h

  first_same : (y z : X) (ys zs : List X) → y ∷ ys ≡ z ∷ zs → y ≡ z
  first_same y z ys zs h = cc

  -- sorted lists with the same ties of each thing are one; the things are those that are among them
  module _ (Is : X → Type 0) where
    abbrev HaveSameTies : List X → List X → Type 0
    HaveSameTies ys zs = (x : X) → Is x → filter (ties lt x) ys ≡ filter (ties lt x) zs

    pub same_sorted : (ys zs : List X) → All Is ys → All Is zs → IsSortedBy lt ys → IsSortedBy lt zs → HaveSameTies ys zs → ys ≡ zs
    same_sorted [] [] p q s t same = refl
    same_sorted [] (z ∷ zs) p q s t same = absurd (empty_or_not (same z (All-head Is z zs q) ∙ kept_first z z zs (tied_itself z)))
      where
        empty_or_not : [] ≡ z ∷ filter (ties lt z) zs → ⊥
        empty_or_not e = cc
    same_sorted (y ∷ ys) [] p q s t same = absurd (empty_or_not (sym (same y (All-head Is y ys p)) ∙ kept_first y y ys (tied_itself y)))
      where
        empty_or_not : [] ≡ y ∷ filter (ties lt y) ys → ⊥
        empty_or_not e = cc
    same_sorted (y ∷ ys) (z ∷ zs) p q s t same =
        let of_first = same y (All-head Is y ys p) in
        let of_second = same z (All-head Is z zs q) in
        let y_there : Contains (z ∷ zs) y = among (ties lt y) (z ∷ zs) y (filter (ties lt y) ys) (sym of_first ∙ kept_first y y ys (tied_itself y)) in
        let z_there : Contains (y ∷ ys) z = among (ties lt z) (y ∷ ys) z (filter (ties lt z) zs) (of_second ∙ kept_first z z zs (tied_itself z)) in
        let ties_z : ties lt y z ≡ true = tied y z (first_least z zs y t y_there) (first_least y ys z s z_there) in
        let firsts : y ≡ z =
        first_same y z (filter (ties lt y) ys) (filter (ties lt y) zs) (sym (kept_first y y ys (tied_itself y)) ∙ of_first ∙ kept_first y z zs ties_z) in
        let more : HaveSameTies ys zs =
        λ x is. behind (ties lt x y) y (filter (ties lt x) ys) (filter (ties lt x) zs)
        (subst (λ (w : X). filter (ties lt x) (y ∷ ys) ≡ filter (ties lt x) (w ∷ zs)) (sym firsts) (same x is)) in
        let rest : ys ≡ zs = same_sorted ys zs (All-tail Is y ys p) (All-tail Is z zs q) (sorted_rest lt y ys s) (sorted_rest lt z zs t) more in
        cc
