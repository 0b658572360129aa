-- A row whose cells pass the usable tests of its table is reached by the chosen access.
use Rattle.std.proofs.Common.{map, ◌≡◌, ℕ, ◌≤◌, Bool, true, false, not, ◌&&◌, ◌||◌, cond, nat_eq, if◌then◌else◌, Option, Some, None, List, [], ◌∷◌, ◌++◌, length, take, refl, sym, ap, subst, ◌∙◌, arith}
use Rattle.std.specs.List.{All, find, slice_get}
use Rattle.std.specs.Option.{option_and_then, option_map}
use Rattle.std.specs.Ordering.{is_eq, is_lt, is_gt, ordering_then}
use Rattle.std.specs.declared.cmp.Ordering.{Ordering}
use Rattle.std.specs.declared.cmp.Ordering.TheVariants.{Less, Equal, Greater}
use Rattle.std.proofs.lemmas.Bool.{eq-eqb, eqb-true}
use Rattle.std.proofs.lemmas.Cmp.{tied_itself}
use Rattle.std.proofs.lemmas.List.{length-map, take_all}
use Rattle.std.proofs.lemmas.List.Elements.{All-head, All-tail}
use Rattle.geo_base.specs.Cells.{is_null}
use Rattle.geo_base.specs.Order.{cell_cmp, cells_cmp, row_eq}
use Rattle.geo_base.specs.declared.cell.Cell.{Cell}
use Rattle.geo_base.specs.declared.cell.Cell.TheVariants.{Null, Int, Text, Truth}
use Rattle.geo_base.specs.laws.Orders.{cell_cmp_total, cells_cmp_total, row_eq_decides, same_cell}
use Rattle.geo_schema.specs.Ranges.{beside, is_from, is_up_to, is_within}
use Rattle.geo_schema.specs.Rows.{key_cells}
use Rattle.geo_schema.specs.Schemas.{Tables, table_at}
use Rattle.geo_schema.specs.declared.range.Edge.TheVariants.{Incl, Excl}
use Rattle.geo_schema.specs.declared.range.KeyRange.{KeyRange}
use Rattle.row_source.specs.Handing.{cell_at, reaches, row_named}
use Rattle.geo_schema.specs.Indexes.{index_at}
use Rattle.row_source.specs.Sources.{Entry, Fits}
use Rattle.row_source.specs.declared.plan.Access.{Access}
use Rattle.row_source.specs.declared.plan.Access.TheVariants as access
use Rattle.sql_expr.specs.Values.{holds}
use Rattle.sql_expr.specs.declared.expr.Test.{Test}
use Rattle.sql_expr.specs.declared.expr.Test.TheVariants as test
use Rattle.sql_plan.specs.Plans.{access_of, edge_of, equal_cell, first_is, first_test, fixed_cells, fixed_edge, in_front, index_access, index_choice, index_low, index_range_of, is_bounded, is_equality, is_fixed, is_lower, is_strict, is_upper, key_range_of, next_test}
use Rattle.sql_plan.specs.Tests.{ColumnTest}
use Rattle.sql_plan.proofs.Passing.{AreCompared, Passes}

-- ---- what is found in a list

module _ {X : Type 0} (says : X → Bool) (P : X → Type 0) where
  found_by : (b : Bool) (x y : X) (rest : Option X) → says x ≡ b → P x → cond b (Some x) rest ≡ Some y → (rest ≡ Some y → (says y ≡ true) × P y) → (says y ≡ true) × P y
  found_by true x y rest s p h later =
      let e : x ≡ y = cc in
      subst (λ (z : X). (says z ≡ true) × P z) e (s, p)
  found_by false x y rest s p h later = later h

  pub found : (xs : List X) (y : X) → All P xs → find says xs ≡ Some y → (says y ≡ true) × P y
  found [] y all h = absurd cc
  found (x ∷ xs) y all h = found_by (says x) x y (find says xs) refl (All-head P x xs all) h (λ later. found xs y (All-tail P x xs all) later)

both_hold : (a b : Bool) → (a && b) ≡ true → (a ≡ true) × (b ≡ true)
both_hold true true h = (refl, refl)
both_hold true false h = absurd cc
both_hold false b h = absurd cc

hold_both : (a b : Bool) → a ≡ true → b ≡ true → (a && b) ≡ true
hold_both true true p q = refl
hold_both true false p q = absurd cc
hold_both false b p q = absurd cc

-- ---- comparisons

holds_equal : (t : Test) (o : Ordering) → is_equality t ≡ true → holds t o ≡ true → is_eq o ≡ true
holds_equal test.Equal o s h = h
holds_equal test.Differ o s h = absurd cc
holds_equal test.Less o s h = absurd cc
holds_equal test.LessEqual o s h = absurd cc
holds_equal test.More o s h = absurd cc
holds_equal test.MoreEqual o s h = absurd cc

pub is_equal : (o : Ordering) → is_eq o ≡ true → o ≡ Equal
is_equal Less h = absurd cc
is_equal Equal h = refl
is_equal Greater h = absurd cc

above_null : (c : Cell) → is_null c ≡ false → is_gt (cell_cmp c Null) ≡ true
above_null Null h = absurd cc
above_null (Int x) h = refl
above_null (Text x) h = refl
above_null (Truth x) h = refl

then_equal : (o : Ordering) → ordering_then o Equal ≡ o
then_equal Less = refl
then_equal Equal = refl
then_equal Greater = refl

-- behind one front, cells compare as the next ones do
last_cmp : (front : List Cell) (a b : Cell) → cells_cmp (front ++ a ∷ []) (front ++ b ∷ []) ≡ cell_cmp a b
last_cmp [] a b = then_equal (cell_cmp a b)
last_cmp (c ∷ front) a b = ap (λ (o : Ordering). ordering_then o (cells_cmp (front ++ a ∷ []) (front ++ b ∷ []))) (tied_itself cell_cmp_total c) ∙ last_cmp front a b

-- ---- edges

module _ (key fixed : List Cell) where
  -- a lower test holds of the key's cells beside those that are fixed
  from_test : (t : Test) (cells : List Cell) → is_lower t ≡ true → holds t (beside key cells) ≡ true → is_from (if is_strict t then Excl cells else Incl cells) key ≡ true
  from_test test.Equal cells s h = absurd cc
  from_test test.Differ cells s h = absurd cc
  from_test test.Less cells s h = absurd cc
  from_test test.LessEqual cells s h = absurd cc
  from_test test.More cells s h = h
  from_test test.MoreEqual cells s h = h

  up_to_test : (t : Test) (cells : List Cell) → is_upper t ≡ true → holds t (beside key cells) ≡ true → is_up_to (if is_strict t then Excl cells else Incl cells) key ≡ true
  up_to_test test.Equal cells s h = absurd cc
  up_to_test test.Differ cells s h = absurd cc
  up_to_test test.Less cells s h = h
  up_to_test test.LessEqual cells s h = h
  up_to_test test.More cells s h = absurd cc
  up_to_test test.MoreEqual cells s h = absurd cc

from_fixed : (key fixed : List Cell) → beside key fixed ≡ Equal → is_from (fixed_edge fixed) key ≡ true
from_fixed key [] h = refl
from_fixed key (c ∷ fixed) h = ap (λ (o : Ordering). not (is_lt o)) h

up_to_fixed : (key fixed : List Cell) → beside key fixed ≡ Equal → is_up_to (fixed_edge fixed) key ≡ true
up_to_fixed key [] h = refl
up_to_fixed key (c ∷ fixed) h = ap (λ (o : Ordering). not (is_gt o)) h

-- ---- the front of a key that is fixed

module _ (cells : List Cell) where
  key_at : List ℕ → List Cell
  key_at columns = map (cell_at cells) columns

  fixed_step : (o : Option Cell) (rest key : List Cell) (x : Cell) → ((c : Cell) → o ≡ Some c → c ≡ x) → rest ≡ take (length rest) key → in_front o rest ≡ take (length (in_front o rest)) (x ∷ key)
  fixed_step None rest key x is h = refl
  fixed_step (Some c) rest key x is h = let e : c ≡ x = is c refl in cc

  next_step : (o : Option Cell) (rest : List Cell) (first column : ℕ) (columns : List ℕ) (literal : Cell) →
      ((c : Cell) → o ≡ Some c → c ≡ cell_at cells first) →
      (slice_get columns (length rest) ≡ Some column → take (length (rest ++ literal ∷ [])) (map (cell_at cells) columns) ≡ rest ++ cell_at cells column ∷ []) →
      slice_get (first ∷ columns) (length (in_front o rest)) ≡ Some column →
      take (length (in_front o rest ++ literal ∷ [])) (map (cell_at cells) (first ∷ columns)) ≡ in_front o rest ++ cell_at cells column ∷ []
  next_step None rest first column columns literal is later h =
      let e : first ≡ column = cc in
      ap (λ (n : ℕ). cell_at cells n ∷ []) e
  next_step (Some c) rest first column columns literal is later h =
      let e : c ≡ cell_at cells first = is c refl in
      let t = later h in
      cc

module _ (cells : List Cell) (ts : List ColumnTest) (pass : All (Passes cells) ts) where
  -- what the first test of a column says
  pub record Says (says : Test → Bool) (column : ℕ) (t : ColumnTest) : Type 0 where
    pub here : t.column ≡ column
    pub kind : says t.test ≡ true
    pub so : AreCompared t.test (cell_at cells column) t.literal

  said : (says : Test → Bool) (column : ℕ) (t : ColumnTest) → first_test says ts column ≡ Some t → Says says column t
  said says column t h =
      let (s, p) = found (λ (u : ColumnTest). nat_eq u.column column && says u.test) (Passes cells) ts t pass h in
      let parts = both_hold (nat_eq t.column column) (says t.test) s in
      let here : t.column ≡ column = eqb-true t.column column parts.0 in
      record { here = here; kind = parts.1; so = subst (λ (n : ℕ). AreCompared t.test (cell_at cells n) t.literal) here p.so }

  equal_by : (column : ℕ) (c : Cell) (o : Option ColumnTest) → first_test is_equality ts column ≡ o → option_map (λ t. t.literal) o ≡ Some c → c ≡ cell_at cells column
  equal_by column c None q h = absurd cc
  equal_by column c (Some t) q h =
      let s = said is_equality column t q in
      let same : cell_at cells column ≡ t.literal =
      same_cell (cell_at cells column) t.literal
      (is_equal (cell_cmp (cell_at cells column) t.literal) (holds_equal t.test (cell_cmp (cell_at cells column) t.literal) s.kind s.so.holds)) in
      cc

  pub equal_is : (column : ℕ) (c : Cell) → equal_cell ts column ≡ Some c → c ≡ cell_at cells column
  equal_is column c h = equal_by column c (first_test is_equality ts column) refl h

  pub fixed_front : (columns : List ℕ) → fixed_cells ts columns ≡ take (length (fixed_cells ts columns)) (map (cell_at cells) columns)
  fixed_front [] = refl
  fixed_front (column ∷ columns) = fixed_step cells (equal_cell ts column) (fixed_cells ts columns) (map (cell_at cells) columns) (cell_at cells column) (equal_is column) (fixed_front columns)

  next_front : (columns : List ℕ) (column : ℕ) (literal : Cell) → slice_get columns (length (fixed_cells ts columns)) ≡ Some column →
      take (length (fixed_cells ts columns ++ literal ∷ [])) (map (cell_at cells) columns) ≡ fixed_cells ts columns ++ cell_at cells column ∷ []
  next_front [] column literal h = absurd cc
  next_front (first ∷ columns) column literal h = next_step cells (equal_cell ts first) (fixed_cells ts columns) first column columns literal (equal_is first) (next_front columns column literal) h

  -- ---- the range of a key's columns or of an index's

  module _ (columns : List ℕ) where
    abbrev fixed : List Cell
    fixed = fixed_cells ts columns

    abbrev key : List Cell
    key = map (cell_at cells) columns

    beside_fixed : beside key fixed ≡ Equal
    beside_fixed = subst (λ (k : List Cell). cells_cmp k fixed ≡ Equal) (fixed_front columns) (tied_itself cells_cmp_total fixed)

    beside_next : (column : ℕ) (literal : Cell) → slice_get columns (length fixed) ≡ Some column → beside key (fixed ++ literal ∷ []) ≡ cell_cmp (cell_at cells column) literal
    beside_next column literal h =
        ap (λ (k : List Cell). cells_cmp k (fixed ++ literal ∷ [])) (next_front columns column literal h) ∙ last_cmp fixed (cell_at cells column) literal

    -- what a test of the first column after the fixed ones says
    record SaysNext (says : Test → Bool) (t : ColumnTest) : Type 0 where
      pub kind : says t.test ≡ true
      pub so : holds t.test (beside key (fixed ++ t.literal ∷ [])) ≡ true
      pub whole : is_gt (beside key (fixed ++ Null ∷ [])) ≡ true

    next_by : (says : Test → Bool) (t : ColumnTest) (o : Option ℕ) → slice_get columns (length fixed) ≡ o → option_and_then (first_test says ts) o ≡ Some t → SaysNext says t
    next_by says t None q h = absurd cc
    next_by says t (Some column) q h =
        let s = said says column t h in
        record {
          kind = s.kind;
          so = ap (holds t.test) (beside_next column t.literal q) ∙ s.so.holds;
          whole = ap is_gt (beside_next column Null q) ∙ above_null (cell_at cells column) s.so.left;
        }

    next_says : (says : Test → Bool) (t : ColumnTest) → next_test says ts columns ≡ Some t → SaysNext says t
    next_says says t h = next_by says t (slice_get columns (length fixed)) refl h

    from_edge : (o : Option ColumnTest) → next_test is_lower ts columns ≡ o → is_from (edge_of fixed o) key ≡ true
    from_edge None h = from_fixed key fixed beside_fixed
    from_edge (Some t) h = let s = next_says is_lower t h in from_test key fixed t.test (fixed ++ t.literal ∷ []) s.kind s.so

    up_to_edge : (o : Option ColumnTest) → next_test is_upper ts columns ≡ o → is_up_to (edge_of fixed o) key ≡ true
    up_to_edge None h = up_to_fixed key fixed beside_fixed
    up_to_edge (Some t) h = let s = next_says is_upper t h in up_to_test key fixed t.test (fixed ++ t.literal ∷ []) s.kind s.so

    from_low : (lower upper : Option ColumnTest) → next_test is_lower ts columns ≡ lower → next_test is_upper ts columns ≡ upper → is_from (index_low fixed lower upper) key ≡ true
    from_low None None p q = from_edge None p
    from_low None (Some t) p q = let s = next_says is_upper t q in s.whole
    from_low (Some t) upper p q = from_edge (Some t) p

    pub within_key_range : is_within (key_range_of ts columns) key ≡ true
    unfolding is_within
    within_key_range =
        hold_both _ _ (from_edge (next_test is_lower ts columns) refl) (up_to_edge (next_test is_upper ts columns) refl)

    pub within_index_range : is_within (index_range_of ts columns) key ≡ true
    unfolding is_within
    within_index_range =
        hold_both _ _ (from_low (next_test is_lower ts columns) (next_test is_upper ts columns) refl refl) (up_to_edge (next_test is_upper ts columns) refl)

    pub whole_key : length fixed ≡ length columns → fixed ≡ key
    whole_key h =
        let count = length-map columns (cell_at cells) in
        let long : length key ≤ length fixed = omega arith in
        fixed_front columns ∙ take_all (length fixed) key long

-- ---- the chosen access

either_way : (R : Access → Type 0) (b : Bool) (x y : Access) → (b ≡ true → R x) → R y → R (if b then x else y)
either_way R true x y p q = p refl
either_way R false x y p q = q

module _ (tables : Tables) (number : ℕ) (entry : Entry) (fits : Fits tables entry) (here : entry.0.table ≡ number) (ts : List ColumnTest) (pass : All (Passes entry.1) ts) where
  abbrev IsReached : Access → Type 0
  IsReached way = reaches tables number way entry ≡ true

  key_is : map (cell_at entry.1) (table_at tables number).key ≡ entry.0.key
  unfolding key_cells
  key_is = subst (λ (n : ℕ). map (cell_at entry.1) (table_at tables n).key ≡ entry.0.key) here fits.key

  of_number : nat_eq entry.0.table number ≡ true
  of_number = eq-eqb entry.0.table number here

  pub named : (key : List Cell) → key ≡ map (cell_at entry.1) (table_at tables number).key → row_eq (row_named number key) entry.0 ≡ true
  named key is =
      let k : entry.0.key ≡ key = sym (is ∙ key_is) in
      (row_eq_decides (row_named number key) entry.0).1 (sym (ap (λ (n : ℕ). row_named n entry.0.key) here ∙ ap (row_named number) k))

  by_range : (range : KeyRange) → is_within range (map (cell_at entry.1) (table_at tables number).key) ≡ true → IsReached (access.Range range)
  by_range range h = hold_both _ _ of_number (subst (λ (k : List Cell). is_within range k ≡ true) key_is h)

  by_index : (o : Option ℕ) → IsReached (index_access (table_at tables number) ts o)
  by_index None = of_number
  by_index (Some place) = hold_both _ _ of_number (within_index_range entry.1 ts pass (index_at (table_at tables number) place).columns)

  pub reached : IsReached (access_of (table_at tables number) ts)
  unfolding access_of
  reached =
      let table = table_at tables number in
      either_way IsReached (nat_eq (length (fixed_cells ts table.key)) (length table.key)) (access.Point (fixed_cells ts table.key)) _
      (λ h. named (fixed_cells ts table.key) (whole_key entry.1 ts pass table.key (eqb-true _ _ h)))
      (either_way IsReached (first_is (λ column. is_fixed ts column || is_bounded ts column) table.key) (access.Range (key_range_of ts table.key)) _
      (λ _. by_range (key_range_of ts table.key) (within_key_range entry.1 ts pass table.key))
      (by_index (index_choice table ts)))
