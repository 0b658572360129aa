-- Laws: the edges of a range keep to the order of cells.
use Rattle.std.proofs.Common.{◌≡◌, ℕ, zero, suc, true, false, not, List, [], ◌∷◌, length, take, refl, sym, ap, ◌∙◌}
use Rattle.std.specs.Cmp.{IsTotalOrder}
use Rattle.std.specs.Cmp.Lexicographic.{slice_cmp}
use Rattle.std.specs.Ordering.{is_lt, is_gt, ordering_then, ordering_reverse}
use Rattle.std.specs.declared.cmp.Ordering.{Ordering}
use Rattle.std.specs.declared.cmp.Ordering.TheVariants.{Less, Equal, Greater}
use Rattle.std.proofs.lemmas.Cmp.{alike_right}
use Rattle.geo_base.specs.declared.cell.Cell.{Cell}
use Rattle.geo_base.specs.Order.{cell_cmp, cells_cmp}
use Rattle.geo_base.specs.laws.Orders.{cells_cmp_total}
use Rattle.geo_schema.specs.declared.range.Edge.{Edge}
use Rattle.geo_schema.specs.declared.range.Edge.TheVariants.{Open, Incl, Excl}
use Rattle.geo_schema.specs.Ranges.{beside, is_from, is_up_to}

-- ---- a list that isn't after another isn't so by their first items

module _ {X : Type 0} (R : X → X → Ordering) where
  front_after : (n : ℕ) (xs ys : List X) → is_gt (slice_cmp R xs ys) ≡ false → is_gt (slice_cmp R (take n xs) (take n ys)) ≡ false
  front_after zero xs ys h = refl
  front_after (suc n) [] [] h = refl
  front_after (suc n) [] (y ∷ ys) h = refl
  front_after (suc n) (x ∷ xs) [] h = absurd (cc)
  front_after (suc n) (x ∷ xs) (y ∷ ys) h = by (R x y) (front_after n xs ys) h
    where
      by : (o : Ordering) → (is_gt (slice_cmp R xs ys) ≡ false → is_gt (slice_cmp R (take n xs) (take n ys)) ≡ false) →
          is_gt (ordering_then o (slice_cmp R xs ys)) ≡ false → is_gt (ordering_then o (slice_cmp R (take n xs) (take n ys))) ≡ false
      by Less rest h = refl
      by Equal rest h = rest h
      by Greater rest h = absurd (cc)

module _ {K : Type 0} {R : K → K → Ordering} (total : IsTotalOrder R) where
  upto_then : (a b c : K) → is_gt (R a b) ≡ false → R b c ≡ Less → R a c ≡ Less
  upto_then a b c upto less = by (R a b) refl upto
    where
      by : (o : Ordering) → R a b ≡ o → is_gt o ≡ false → R a c ≡ Less
      by Less is h = total.trans a b c is less
      by Equal is h = total.congr a b c is ∙ less
      by Greater is h = absurd (cc)

  then_upto : (a b c : K) → R a b ≡ Less → is_gt (R b c) ≡ false → R a c ≡ Less
  then_upto a b c less upto = by (R b c) refl upto
    where
      by : (o : Ordering) → R b c ≡ o → is_gt o ≡ false → R a c ≡ Less
      by Less is h = total.trans a b c less is
      by Equal is h = sym (alike_right total b c a is) ∙ less
      by Greater is h = absurd (cc)

  turned : (a b : K) → R a b ≡ Greater → R b a ≡ Less
  turned a b is = total.antisymm b a ∙ ap ordering_reverse is

  turned_back : (a b : K) → R a b ≡ Less → R b a ≡ Greater
  turned_back a b is = total.antisymm b a ∙ ap ordering_reverse is

is_Less : (o : Ordering) → is_lt o ≡ true → o ≡ Less
is_Less Less e = refl
is_Less Equal e = absurd (cc)
is_Less Greater e = absurd (cc)

is_Greater : (o : Ordering) → is_gt o ≡ true → o ≡ Greater
is_Greater Less e = absurd (cc)
is_Greater Equal e = absurd (cc)
is_Greater Greater e = refl

-- ---- the edges keep to the order of cells

module _ (x y : List Cell) (upto : is_gt (cells_cmp x y) ≡ false) where
  fronts : (cells : List Cell) → is_gt (cells_cmp (take (length cells) x) (take (length cells) y)) ≡ false
  fronts cells = front_after cell_cmp (length cells) x y upto

  -- what isn't past the edge has nothing before it that is
  pub up_to_back : (edge : Edge) → is_up_to edge y ≡ true → is_up_to edge x ≡ true
  up_to_back Open is = refl
  up_to_back (Incl cells) is = by (beside x cells) refl
    where
      by : (o : Ordering) → beside x cells ≡ o → not (is_gt o) ≡ true
      by Less e = refl
      by Equal e = refl
      by Greater e =
          let less = turned cells_cmp_total (take (length cells) x) cells e in
          let also = then_upto cells_cmp_total cells (take (length cells) x) (take (length cells) y) less (fronts cells) in
          let no : true ≡ false = sym is ∙ ap (λ o. not (is_gt o)) (turned_back cells_cmp_total cells (take (length cells) y) also) in
          absurd (cc)
  up_to_back (Excl cells) is =
      ap is_lt (upto_then cells_cmp_total (take (length cells) x) (take (length cells) y) cells (fronts cells) (is_Less (beside y cells) is))

  -- what is below the edge has nothing before it that isn't
  pub below_back : (edge : Edge) → not (is_from edge y) ≡ true → not (is_from edge x) ≡ true
  below_back Open is = is
  below_back (Incl cells) is = ap (λ b. not (not b)) (ap is_lt (upto_then cells_cmp_total (take (length cells) x) (take (length cells) y) cells (fronts cells) (by (beside y cells) refl is)))
    where
      by : (o : Ordering) → beside y cells ≡ o → not (not (is_lt o)) ≡ true → beside y cells ≡ Less
      by Less e h = e
      by Equal e h = absurd (cc)
      by Greater e h = absurd (cc)
  below_back (Excl cells) is = by (beside x cells) refl
    where
      by : (o : Ordering) → beside x cells ≡ o → not (is_gt o) ≡ true
      by Less e = refl
      by Equal e = refl
      by Greater e =
          let less = turned cells_cmp_total (take (length cells) x) cells e in
          let also = then_upto cells_cmp_total cells (take (length cells) x) (take (length cells) y) less (fronts cells) in
          let no : true ≡ false = sym is ∙ ap (λ o. not (is_gt o)) (turned_back cells_cmp_total cells (take (length cells) y) also) in
          absurd (cc)
