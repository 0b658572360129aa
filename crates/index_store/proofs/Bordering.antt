-- The edges of a range are borders between pairs, and what lies between them is what lies in the range.
use Rattle.std.proofs.Common.{◌≡◌, ℕ, Bool, true, false, not, ◌&&◌, List, [], refl, sym, ap, ◌∙◌, subst}
use Rattle.std.specs.Cmp.{nat_cmp_total}
use Rattle.std.specs.Ordering.{nat_cmp, is_gt, ordering_then}
use Rattle.std.specs.declared.cmp.Ordering.{Ordering}
use Rattle.std.specs.declared.cmp.Ordering.TheVariants.{Less, Equal, Greater}
use Rattle.std.proofs.lemmas.Cmp.{alike_right, tied_itself}
use Rattle.std.proofs.lemmas.Map.Lookups.{exact_unsigned}
use Rattle.geo_base.specs.declared.cell.Cell.{Cell}
use Rattle.geo_base.specs.Order.{cells_cmp}
use Rattle.geo_schema.specs.declared.range.Edge.{Edge}
use Rattle.geo_schema.specs.declared.range.KeyRange.{KeyRange}
use Rattle.geo_schema.specs.Ranges.{is_from, is_up_to, is_within}
use Rattle.geo_schema.specs.laws.Edges.{up_to_back, below_back}
use Rattle.index_store.specs.declared.pair.IndexPair.{IndexPair}
use Rattle.index_store.specs.Order.{index_cmp, pair_cmp}
use Rattle.index_store.specs.Ranges.{LiesIn}
use Rattle.index_store.specs.inner.Edges.{beside_index, stands_before, is_before_low, is_before_high}
use Rattle.index_store.specs.laws.Orders.{index_cmp_total}

-- ---- the edges are borders between pairs

abbrev in_index : ℕ → ℕ → IndexPair
in_index table index = record { table = table; index = index; cells = []; key = [] }

module _ (table index : ℕ) (said : List Cell → Bool) (back : (x y : List Cell) → is_gt (cells_cmp x y) ≡ false → said y ≡ true → said x ≡ true) where
  abbrev before : IndexPair → Bool
  before pair = stands_before (beside_index table index pair) (said pair.cells)

  not_after : (o p : Ordering) → ordering_then o p ≡ Less → is_gt o ≡ false
  not_after Less p e = refl
  not_after Equal p e = refl
  not_after Greater p e = absurd (cc)

  before_back : (low high : IndexPair) → pair_cmp low high ≡ Less → before high ≡ true → before low ≡ true
  unfolding pair_cmp
  before_back low high less is = by (index_cmp low high) refl less
    where
      earlier : (o : Ordering) → index_cmp high (in_index table index) ≡ o → index_cmp low high ≡ Less → stands_before o (said high.cells) ≡ true → before low ≡ true
      earlier Less at first h = ap (λ o. stands_before o (said low.cells)) (index_cmp_total.trans low high (in_index table index) first at)
      earlier Equal at first h = ap (λ o. stands_before o (said low.cells)) (sym (alike_right index_cmp_total high (in_index table index) low at) ∙ first)
      earlier Greater at first h = absurd (cc)

      same : (o : Ordering) → index_cmp low (in_index table index) ≡ o → stands_before o (said high.cells) ≡ true → is_gt (cells_cmp low.cells high.cells) ≡ false →
          stands_before o (said low.cells) ≡ true
      same Less at h upto = refl
      same Equal at h upto = back low.cells high.cells upto h
      same Greater at h upto = absurd (cc)

      by : (o : Ordering) → index_cmp low high ≡ o → ordering_then o (ordering_then (cells_cmp low.cells high.cells) (cells_cmp low.key high.key)) ≡ Less → before low ≡ true
      by Less first h = earlier (index_cmp high (in_index table index)) refl first is
      by Equal first h =
          same (index_cmp low (in_index table index)) refl
          (subst (λ o. stands_before o (said high.cells) ≡ true) (sym (index_cmp_total.congr low high (in_index table index) first)) is)
          (not_after (cells_cmp low.cells high.cells) (cells_cmp low.key high.key) h)
      by Greater first h = absurd (cc)

pub low_back : (table index : ℕ) (edge : Edge) (low high : IndexPair) → pair_cmp low high ≡ Less → is_before_low table index edge high ≡ true → is_before_low table index edge low ≡ true
low_back table index edge = before_back table index (λ cells. not (is_from edge cells)) (λ x y upto. below_back x y upto edge)

pub high_back : (table index : ℕ) (edge : Edge) (low high : IndexPair) → pair_cmp low high ≡ Less → is_before_high table index edge high ≡ true → is_before_high table index edge low ≡ true
high_back table index edge = before_back table index (is_up_to edge) (λ x y upto. up_to_back x y upto edge)

-- ---- what lies between

module _ (table index : ℕ) (range : KeyRange) (pair : IndexPair) where
  -- whether the pair stands from the low edge on, and before the high one
  abbrev pub is_between : Bool
  is_between = not (is_before_low table index range.low pair) && is_before_high table index range.high pair

  of_index : (a b : Ordering) → ordering_then a b ≡ Equal → (a ≡ Equal) × (b ≡ Equal)
  of_index Less b e = absurd (cc)
  of_index Equal b e = (refl, e)
  of_index Greater b e = absurd (cc)

  never : (b : Bool) → (not b && false) ≡ false
  never true = refl
  never false = refl

  pub between_lies : is_between ≡ true → LiesIn table index range pair
  unfolding is_within
  between_lies is = by (beside_index table index pair) refl is
    where
      twice : (b c : Bool) → (not (not b) && c) ≡ true → (b && c) ≡ true
      twice true c h = h
      twice false c h = h

      by : (o : Ordering) → beside_index table index pair ≡ o →
          (not (stands_before o (not (is_from range.low pair.cells))) && stands_before o (is_up_to range.high pair.cells)) ≡ true → LiesIn table index range pair
      by Less at h = absurd (cc)
      by Equal at h =
          let both = of_index (nat_cmp pair.table table) (nat_cmp pair.index index) at in
          record {
            table = exact_unsigned pair.table table both.0;
            index = exact_unsigned pair.index index both.1;
            within = twice (is_from range.low pair.cells) (is_up_to range.high pair.cells) h;
          }
      by Greater at h = absurd (cc)

  pub lies_between : LiesIn table index range pair → is_between ≡ true
  unfolding is_within
  lies_between lies =
      ap (λ o. not (stands_before o (not (is_from range.low pair.cells))) && stands_before o (is_up_to range.high pair.cells)) here
      ∙ twice (is_from range.low pair.cells) (is_up_to range.high pair.cells) lies.within
    where
      same_numbers : (a b c d : ℕ) → a ≡ b → c ≡ d → ordering_then (nat_cmp a b) (nat_cmp c d) ≡ Equal
      same_numbers a b c d e f = subst (λ y. ordering_then (nat_cmp a y) (nat_cmp c d) ≡ Equal) e (subst (λ y. ordering_then (nat_cmp a a) (nat_cmp c y) ≡ Equal) f (itself a c))
        where
          itself : (a c : ℕ) → ordering_then (nat_cmp a a) (nat_cmp c c) ≡ Equal
          itself a c = ap (λ o. ordering_then o (nat_cmp c c)) (tied_itself nat_cmp_total a) ∙ tied_itself nat_cmp_total c

      here : beside_index table index pair ≡ Equal
      here = same_numbers pair.table table pair.index index lies.table lies.index

      twice : (b c : Bool) → (b && c) ≡ true → (not (not b) && c) ≡ true
      twice true c h = h
      twice false c h = h
