-- The rows from a place of a slice on, as they are seen.
use Rattle.std.proofs.Common.{◌≡◌, ℕ, zero, suc, ◌+◌, ◌<◌, ◌≤◌, true, false, cond, List, [], ◌∷◌, length, map, take, take_all, drop, get_or, ◌-◌, refl, sym, ap, ◌∙◌, subst, arith}
use Rattle.std.specs.Ordering.{is_eq, is_lt}
use Rattle.std.proofs.lemmas.List.{drop-map, take_rest}
use Rattle.geo_base.specs.declared.row_id.RowId.{RowId}
use Rattle.geo_base.specs.Order.{row_cmp}
use Rattle.row_source.specs.Sources.{Entry}
use Rattle.snap_view.specs.inner.Laying.{StartsFrom, behind}

module _ {X Y : Type 0} (see : X → Y) where
  -- what stands at a place, and what is behind it
  pub seen_from : (xs : List X) (place : ℕ) (x : X) → place < length xs → x ≡ get_or xs place x → drop place (map see xs) ≡ see x ∷ drop (place + 1) (map see xs)
  seen_from [] place x within is = absurd (omega (arith, within))
  seen_from (y ∷ ys) zero x within is = ap (λ z. see z ∷ map see ys) (sym is)
  seen_from (y ∷ ys) (suc place) x within is =
      let next : suc (place + 1) ≡ suc place + 1 = omega arith in
      seen_from ys place x (omega (arith, within)) is ∙ ap (λ n. see x ∷ drop n (map see (y ∷ ys))) next

  pub none_from : (xs : List X) (place : ℕ) → length xs ≤ place → drop place (map see xs) ≡ []
  none_from [] zero past = refl
  none_from [] (suc place) past = refl
  none_from (y ∷ ys) zero past = absurd (omega (arith, past))
  none_from (y ∷ ys) (suc place) past = none_from ys place (omega (arith, past))

-- what stands at a place is the same whatever stands for those past the end
pub same_at : {X : Type 0} (xs : List X) (place : ℕ) (a b : X) → place < length xs → get_or xs place a ≡ get_or xs place b
same_at [] place a b within = absurd (omega (arith, within))
same_at (x ∷ xs) zero a b within = refl
same_at (x ∷ xs) (suc place) a b within = same_at xs place a b (omega (arith, within))

-- the whole of a slice from a place on
pub whole_rest : {X Y : Type 0} (see : X → Y) (xs : List X) (place upto : ℕ) → length (take (length xs - place) (drop place xs)) ≤ upto →
    map see (take upto (take (length xs - place) (drop place xs))) ≡ drop place (map see xs)
whole_rest see xs place upto past =
    ap (map see) (take_all upto (take (length xs - place) (drop place xs)) past ∙ take_rest xs place) ∙ sym (drop-map see place xs)

module _ {X : Type 0} (see : X → Entry) (rows : List X) (place : ℕ) (row : RowId) where
  pub behind_it : (x : X) → place < length rows → x ≡ get_or rows place x → is_eq (row_cmp (see x).0 row) ≡ true →
      drop (place + 1) (map see rows) ≡ behind row (drop place (map see rows))
  behind_it x within is same =
      sym (ap (behind row) (seen_from see rows place x within is) ∙ ap (λ b. cond b (drop (place + 1) (map see rows)) (see x ∷ drop (place + 1) (map see rows))) same)

  pub not_behind : (x : X) → place < length rows → x ≡ get_or rows place x → is_eq (row_cmp (see x).0 row) ≡ false →
      drop place (map see rows) ≡ behind row (drop place (map see rows))
  not_behind x within is other =
      sym
      (ap (behind row) (seen_from see rows place x within is)
      ∙ (ap (λ b. cond b (drop (place + 1) (map see rows)) (see x ∷ drop (place + 1) (map see rows))) other
      ∙ sym (seen_from see rows place x within is)))

  pub none_behind : length rows ≤ place → drop place (map see rows) ≡ behind row (drop place (map see rows))
  none_behind past = none_from see rows place past ∙ sym (ap (behind row) (none_from see rows place past))

  pub starts_at : (x : X) → place < length rows → x ≡ get_or rows place x → is_lt (row_cmp (see x).0 row) ≡ false → StartsFrom row (drop place (map see rows))
  starts_at x within is not_below = subst (StartsFrom row) (sym (seen_from see rows place x within is)) not_below

  pub starts_past : length rows ≤ place → StartsFrom row (drop place (map see rows))
  starts_past past = subst (StartsFrom row) (sym (none_from see rows place past)) tt
