-- The place where a search by halving parts rising entries by a border, which is the number of entries before it.
use Rattle.std.proofs.Common.{◌≡◌, ℕ, zero, suc, ◌-◌, ◌≤◌, Bool, true, false, cond, List, [], ◌∷◌, length, take, drop, refl, sym, ap, ◌∙◌, arith}
use Rattle.std.specs.List.{filter, slice_range}
use Rattle.std.specs.List.Sorted.{IsPartitionedBy, IsPartitionPoint}
use Rattle.std.proofs.lemmas.Bool.{false≢true}
use Rattle.std.proofs.lemmas.List.Elements.{All-get_or}
use Rattle.page_map.specs.Borders.{IsBorder, border_in, pairs_between}
use Rattle.page_map.specs.laws.Borders.{between_places}

module _ {K V : Type 0} (before : K → Bool) where
  abbrev passes : K × V → Bool
  passes entry = before entry.0

  -- behind an entry that isn't before the border none is
  pub parted : (entries : List (K × V)) → IsBorder before entries → IsPartitionedBy passes entries
  parted [] border i j d upto within is = absurd (omega (arith, within))
  parted (e ∷ es) border zero zero d upto within is = is
  parted (e ∷ es) border zero (suc j) d upto within is = by (before e.0) refl
    where
      by : (b : Bool) → before e.0 ≡ b → b ≡ true
      by true eq = refl
      by false eq =
          absurd (false≢true (sym (All-get_or (λ later. before later.0 ≡ false) es j d (omega (arith, within)) (border.0 eq)) ∙ is))
  parted (e ∷ es) border (suc i) zero d upto within is = absurd (omega (arith, upto))
  parted (e ∷ es) border (suc i) (suc j) d upto within is = parted es border.1 i j d (omega (arith, upto)) (omega (arith, within)) is

  -- the place that parts them is the border
  pub point_is_border : (entries : List (K × V)) (place : ℕ) → place ≤ length entries →
      IsPartitionPoint (λ e. passes e ≡ true) (λ e. passes e ≡ false) entries place → place ≡ border_in before entries
  point_is_border [] place within sides = omega (arith, within)
  point_is_border (e ∷ es) zero within sides =
      point_is_border es zero (omega arith) (λ k d low high. absurd (omega (arith, high)), λ k d low high. sides.1 (suc k) d (omega arith) (omega (arith, high)))
      ∙ ap (λ b. length (cond b (e ∷ filter passes es) (filter passes es))) (sym (sides.1 0 e (omega arith) (omega arith)))
  point_is_border (e ∷ es) (suc place) within sides =
      ap suc (point_is_border es place (omega (arith, within)) (λ k d low high. sides.0 (suc k) d (omega arith) (omega (arith, high)), λ k d low high. sides.1 (suc k) d (omega (arith, low)) (omega (arith, high))))
      ∙ ap (λ b. length (cond b (e ∷ filter passes es) (filter passes es))) (sym (sides.0 0 e (omega arith) (omega arith)))

-- ---- the entries between two borders, as they are cut out

module _ {K V : Type 0} (first last : K → Bool) (entries : List (K × V)) (is_first : IsBorder first entries) (is_last : IsBorder last entries) (low high : ℕ)
    (from : low ≡ border_in first entries) (upto : high ≡ border_in last entries) where
  same_slice : slice_range entries low high ≡ pairs_between first last entries
  same_slice = (λ i. slice_range entries (from i) (upto i)) ∙ sym (between_places first last entries is_first is_last)

  pub cut_out : (cut : List (K × V)) → cut ≡ slice_range entries low high → cut ≡ pairs_between first last entries
  cut_out cut is = is ∙ same_slice

  pub none_between : high ≤ low → [] ≡ pairs_between first last entries
  none_between behind = ap (λ n. take {A = K × V} n (drop low entries)) (no_more low high behind) ∙ same_slice
    where
      no_more : (a b : ℕ) → b ≤ a → 0 ≡ b - a
      no_more a b upto = omega (arith, upto)
