-- The edges of a range of a table's keys are borders between rows, and what lies between them are the rows whose keys lie in the range.
use Rattle.std.proofs.Common.{◌≡◌, ℕ, Bool, true, false, not, ◌&&◌, cond, nat_eq, nat_lt, List, [], ◌∷◌, refl, sym, ap, ◌∙◌, subst, arith}
use Rattle.std.specs.Cmp.{nat_cmp_total}
use Rattle.std.specs.List.{All, AllByRecursion, filter}
use Rattle.std.proofs.lemmas.List.Elements.{All-nil, All-cons}
use Rattle.std.specs.List.Sorted.{IsStrictlySortedBy}
use Rattle.std.specs.Map.{keys_of}
use Rattle.std.specs.Ordering.{nat_cmp, is_eq, is_gt, ordering_then}
use Rattle.std.specs.declared.cmp.Ordering.{Ordering}
use Rattle.std.specs.declared.cmp.Ordering.TheVariants.{Less, Equal, Greater}
use Rattle.std.proofs.lemmas.Bool.Decides.{nat_tests}
use Rattle.std.proofs.lemmas.Cmp.{alike_right}
use Rattle.geo_base.specs.declared.cell.Cell.{Cell}
use Rattle.geo_base.specs.declared.row_id.RowId.{RowId}
use Rattle.geo_base.specs.Order.{cells_cmp, row_cmp}
use Rattle.geo_schema.specs.declared.range.Edge.{Edge}
use Rattle.geo_schema.specs.declared.range.Edge.TheVariants.{Open}
use Rattle.geo_schema.specs.declared.range.KeyRange.{KeyRange}
use Rattle.geo_schema.specs.Ranges.{is_from, is_up_to, is_within}
use Rattle.geo_schema.specs.laws.Edges.{below_back, up_to_back}
use Rattle.page_map.specs.Borders.{IsBorder, pairs_between}
use Rattle.page_map.specs.Pairs.{IsRising}
use Rattle.page_map.specs.laws.Borders.{border_from_order}
use Rattle.write_set.specs.Sets.{Rises}
use Rattle.snap_view.specs.inner.Edges.{stands_before, is_before_low, is_before_high}

-- ---- the edges keep to the order of rows

module _ (table : ℕ) (said : List Cell → Bool) (back : (x y : List Cell) → is_gt (cells_cmp x y) ≡ false → said y ≡ true → said x ≡ true) where
  abbrev before : RowId → Bool
  before row = stands_before (nat_cmp row.table table) (said row.key)

  not_after : (o : Ordering) → o ≡ Less → is_gt o ≡ false
  not_after o is = ap is_gt is

  before_back : (low high : RowId) → row_cmp low high ≡ Less → before high ≡ true → before low ≡ true
  unfolding row_cmp
  before_back low high less is = by (nat_cmp low.table high.table) refl less
    where
      earlier : (o : Ordering) → nat_cmp high.table table ≡ o → nat_cmp low.table high.table ≡ Less → stands_before o (said high.key) ≡ true → before low ≡ true
      earlier Less at first h = ap (λ o. stands_before o (said low.key)) (nat_cmp_total.trans low.table high.table table first at)
      earlier Equal at first h = ap (λ o. stands_before o (said low.key)) (sym (alike_right nat_cmp_total high.table table low.table at) ∙ first)
      earlier Greater at first h = absurd (cc)

      same : (o : Ordering) → nat_cmp low.table table ≡ o → stands_before o (said high.key) ≡ true → is_gt (cells_cmp low.key high.key) ≡ false →
          stands_before o (said low.key) ≡ true
      same Less at h upto = refl
      same Equal at h upto = back low.key high.key upto h
      same Greater at h upto = absurd (cc)

      by : (o : Ordering) → nat_cmp low.table high.table ≡ o → ordering_then o (cells_cmp low.key high.key) ≡ Less → before low ≡ true
      by Less first h = earlier (nat_cmp high.table table) refl first is
      by Equal first h =
          same (nat_cmp low.table table) refl
          (subst (λ o. stands_before o (said high.key) ≡ true) (sym (nat_cmp_total.congr low.table high.table table first)) is)
          (not_after (cells_cmp low.key high.key) h)
      by Greater first h = absurd (cc)

module _ {X : Type 0} (table : ℕ) (edge : Edge) (rows : List (RowId × X)) (rising : IsRising row_cmp rows) where
  pub low_border : IsBorder (is_before_low table edge) rows
  low_border =
      border_from_order row_cmp (is_before_low table edge)
      (before_back table (λ cells. not (is_from edge cells)) (λ x y upto. below_back x y upto edge)) rows rising

  pub high_border : IsBorder (is_before_high table edge) rows
  high_border =
      border_from_order row_cmp (is_before_high table edge)
      (before_back table (is_up_to edge) (λ x y upto. up_to_back x y upto edge)) rows rising

-- rows whose names rise are rising as pairs
module _ {X : Type 0} where
  all_above : (row : RowId) (rows : List (RowId × X)) → AllByRecursion (λ y. row_cmp row y ≡ Less) (keys_of rows) → All (λ later. row_cmp row later.0 ≡ Less) rows
  all_above row [] above = All-nil (λ later. row_cmp row later.0 ≡ Less)
  all_above row (e ∷ rows) above = All-cons (λ later. row_cmp row later.0 ≡ Less) e rows above.0 (all_above row rows above.1)

  pub rising_pairs : (rows : List (RowId × X)) → Rises rows → IsRising row_cmp rows
  unfolding IsStrictlySortedBy
  rising_pairs [] rises = tt
  rising_pairs (e ∷ rows) rises = (all_above e.0 rows rises.0, rising_pairs rows rises.1)

-- ---- what lies between

tie : (a b : ℕ) → nat_eq a b ≡ is_eq (nat_cmp a b)
tie a b = by (nat_lt a b) (nat_eq a b) refl refl
  where
    by : (l e : Bool) → nat_lt a b ≡ l → nat_eq a b ≡ e → e ≡ is_eq (cond l Less (cond e Equal Greater))
    by true true is same = absurd (grind (arith, nat_tests))
    by true false is same = refl
    by false true is same = refl
    by false false is same = refl

-- whether the row stands from the low edge on and before the high one
pub between_is : (table : ℕ) (range : KeyRange) (row : RowId) →
    (not (is_before_low table range.low row) && is_before_high table range.high row) ≡ (nat_eq row.table table && is_within range row.key)
unfolding is_within
between_is table range row = by (nat_cmp row.table table) (tie row.table table)
  where
    twice : (b c : Bool) → (not (not b) && c) ≡ (b && c)
    twice true c = refl
    twice false c = refl

    by : (o : Ordering) → nat_eq row.table table ≡ is_eq o →
        (not (stands_before o (not (is_from range.low row.key))) && stands_before o (is_up_to range.high row.key))
        ≡ (nat_eq row.table table && (is_from range.low row.key && is_up_to range.high row.key))
    by Less is = sym (ap (λ b. b && (is_from range.low row.key && is_up_to range.high row.key)) is)
    by Equal is = twice (is_from range.low row.key) (is_up_to range.high row.key) ∙ sym (ap (λ b. b && (is_from range.low row.key && is_up_to range.high row.key)) is)
    by Greater is = sym (ap (λ b. b && (is_from range.low row.key && is_up_to range.high row.key)) is)

-- the entries between the edges are those whose keys lie in the range
pub between_keys : {X : Type 0} (table : ℕ) (range : KeyRange) (entries : List (RowId × X)) →
    pairs_between (is_before_low table range.low) (is_before_high table range.high) entries ≡ filter (λ e. nat_eq e.0.table table && is_within range e.0.key) entries
between_keys table range entries = λ i. filter (λ e. between_is table range e.0 i) entries

-- and all those of the table, where there is no bound
pub between_open : {X : Type 0} (table : ℕ) (entries : List (RowId × X)) →
    pairs_between (is_before_low table Open) (is_before_high table Open) entries ≡ filter (λ e. nat_eq e.0.table table) entries
unfolding is_within
between_open table entries =
    between_keys table (record { low = Open; high = Open }) entries ∙ (λ i. filter (λ e. and_true (nat_eq e.0.table table) i) entries)
  where
    and_true : (b : Bool) → (b && true) ≡ b
    and_true true = refl
    and_true false = refl
