-- Laws: a border of a list is a place in it, and two borders cut out what stands between two places.
use Rattle.std.proofs.Common.{◌≡◌, ℕ, suc, ◌-◌, Bool, true, false, not, ◌&&◌, List, [], ◌∷◌, length, take, drop, refl, ap, ◌∙◌, arith}
use Rattle.std.specs.List.{All, slice_range}
use Rattle.std.specs.Ordering.{is_lt}
use Rattle.std.specs.declared.cmp.Ordering.{Ordering}
use Rattle.std.specs.declared.cmp.Ordering.TheVariants.{Less}
use Rattle.std.specs.Cmp.{IsTotalOrder}
use Rattle.std.proofs.lemmas.Bool.{both_ways, false_from_ne_true, and_right}
use Rattle.std.proofs.lemmas.List.Elements.{All-weaker}
use Rattle.page_map.specs.Pairs.{IsRising, place_in}
use Rattle.page_map.specs.Borders.{IsBorder, pairs_before, pairs_from, border_in, pairs_between}
use Rattle.page_map.specs.laws.Lists.{filter_all, filter_none}
use Rattle.page_map.specs.laws.Orders.{is_Less}

-- ---- a border is a place

module _ {K V : Type 0} (before : K → Bool) where
  none_before : (l : List (K × V)) → All (λ q. before q.0 ≡ false) l → pairs_before before l ≡ []
  none_before l h = filter_none (λ q. before q.0) l h

  all_from : (l : List (K × V)) → All (λ q. before q.0 ≡ false) l → pairs_from before l ≡ l
  all_from l h =
      filter_all (λ q. not (before q.0)) l (All-weaker (λ q. before q.0 ≡ false) (λ q. not (before q.0) ≡ true) (λ q e. ap not e) l h)

  front_step : (p : K × V) (l : List (K × V)) (b : Bool) → before p.0 ≡ b → (b ≡ false → All (λ q. before q.0 ≡ false) l) → pairs_before before l ≡ take (border_in before l) l → pairs_before before (p ∷ l) ≡ take (border_in before (p ∷ l)) (p ∷ l)
  front_step p l true e h same = rw e (ap (λ m. p ∷ m) same)
  front_step p l false e h same = rw e (rw (none_before l (h refl)) refl)

  -- the pairs before a border are the first ones
  pub before_is_front : (l : List (K × V)) → IsBorder before l → pairs_before before l ≡ take (border_in before l) l
  before_is_front [] h = refl
  before_is_front (p ∷ l) h = front_step p l (before p.0) refl h.0 (before_is_front l h.1)

  rest_step : (p : K × V) (l : List (K × V)) (b : Bool) → before p.0 ≡ b → (b ≡ false → All (λ q. before q.0 ≡ false) l) → pairs_from before l ≡ drop (border_in before l) l → pairs_from before (p ∷ l) ≡ drop (border_in before (p ∷ l)) (p ∷ l)
  rest_step p l true e h same = rw e same
  rest_step p l false e h same = rw e (rw (none_before l (h refl)) (ap (λ m. p ∷ m) (all_from l (h refl))))

  -- and those from it on are the rest
  pub from_is_rest : (l : List (K × V)) → IsBorder before l → pairs_from before l ≡ drop (border_in before l) l
  from_is_rest [] h = refl
  from_is_rest (p ∷ l) h = rest_step p l (before p.0) refl h.0 (from_is_rest l h.1)

-- ---- what stands between two borders

both_more : (a b : ℕ) → b - a ≡ suc b - suc a
both_more a b = omega arith

none_left : (a : ℕ) → 0 ≡ 0 - a
none_left a = omega arith

one_more : (b : ℕ) → suc b ≡ suc b - 0
one_more b = omega arith

as_far : (b : ℕ) → b - 0 ≡ b
as_far b = omega arith

module _ {K V : Type 0} (first last : K → Bool) where
  none_between : (l : List (K × V)) → All (λ q. last q.0 ≡ false) l → pairs_between first last l ≡ []
  none_between l h =
      filter_none (λ q. not (first q.0) && last q.0) l (All-weaker (λ q. last q.0 ≡ false) (λ q. (not (first q.0) && last q.0) ≡ false) (λ q e. and_right (not (first q.0)) (last q.0) e) l h)

  abbrev low : List (K × V) → ℕ
  low l = border_in first l

  abbrev high : List (K × V) → ℕ
  high l = border_in last l

  between_step : (p : K × V) (l : List (K × V)) (a b : Bool) → first p.0 ≡ a → last p.0 ≡ b → (a ≡ false → All (λ q. first q.0 ≡ false) l) → (b ≡ false → All (λ q. last q.0 ≡ false) l) → pairs_between first last l ≡ slice_range l (low l) (high l) → pairs_between first last (p ∷ l) ≡ slice_range (p ∷ l) (low (p ∷ l)) (high (p ∷ l))
  between_step p l true true e d h k same =
      rw e (rw d (same ∙ ap (λ n. take n (drop (low l) l)) (both_more (low l) (high l))))
  between_step p l true false e d h k same =
      rw e (rw d (rw (none_before last l (k refl)) (none_between l (k refl) ∙ ap (λ n. take n (drop (low l) l)) (none_left (suc (low l))))))
  between_step p l false true e d h k same =
      let none : pairs_before first l ≡ [] = none_before first l (h refl) in
      let start : low l ≡ 0 = ap length none in
      rw e (rw d (rw none
      (ap (λ m. p ∷ m) (same ∙ (ap (λ n. take (high l - n) (drop n l)) start ∙ ap (λ n. take n l) (as_far (high l)))) ∙ ap (λ n. take n (p ∷ l)) (one_more (high l)))))
  between_step p l false false e d h k same =
      rw e (rw d (rw (none_before first l (h refl)) (rw (none_before last l (k refl)) (none_between l (k refl) ∙ ap (λ n. take n (p ∷ l)) (none_left 0)))))

  -- the pairs between two borders are those between two places
  pub between_places : (l : List (K × V)) → IsBorder first l → IsBorder last l → pairs_between first last l ≡ slice_range l (border_in first l) (border_in last l)
  between_places [] f h = ap (λ n. take {A = K × V} n []) (none_left 0)
  between_places (p ∷ l) f h =
      between_step p l (first p.0) (last p.0) refl refl f.0 h.0 (between_places l f.1 h.1)

-- ---- tests that follow the order of keys

module _ {K V : Type 0} (R : K → K → Ordering) (before : K → Bool) (falls : (a b : K) → R a b ≡ Less → before b ≡ true → before a ≡ true) where
  -- a test that holds of each key below one of which it holds has a border in each rising list
  pub border_from_order : (l : List (K × V)) → IsRising R l → IsBorder before l
  border_from_order [] h = tt
  border_from_order (p ∷ l) h =
      (λ e. All-weaker (λ q. R p.0 q.0 ≡ Less) (λ q. before q.0 ≡ false) (λ q less. false_from_ne_true (before q.0) (λ t. both_ways (before p.0) e (falls p.0 q.0 less t))) l h.0, border_from_order l h.1)

below_falls : {K : Type 0} (R : K → K → Ordering) (total : IsTotalOrder R) (key a b : K) → R a b ≡ Less → is_lt (R b key) ≡ true → is_lt (R a key) ≡ true
below_falls R total key a b less under = ap is_lt (total.trans a b key less (is_Less (R b key) under))

module _ {K V : Type 0} (R : K → K → Ordering) (total : IsTotalOrder R) where
  -- each key is a border
  pub border_of_key : (key : K) (l : List (K × V)) → IsRising R l → IsBorder (λ other. is_lt (R other key)) l
  border_of_key key = border_from_order R (λ other. is_lt (R other key)) (below_falls R total key)

  -- the pairs with keys from one key on and before another are those between the places of the two
  pub range_places : (low high : K) (l : List (K × V)) → IsRising R l → pairs_between (λ other. is_lt (R other low)) (λ other. is_lt (R other high)) l ≡ slice_range l (place_in R low l) (place_in R high l)
  range_places low high l rising =
      between_places (λ other. is_lt (R other low)) (λ other. is_lt (R other high)) l (border_of_key low l rising) (border_of_key high l rising)
