-- What a usable test that is true says of the cells of its table's row.
use Rattle.std.proofs.Common.{map, ◌≡◌, ℕ, ◌+◌, ◌-◌, ◌<◌, ◌≤◌, Bool, true, false, ◌||◌, nat_le, nat_lt, if◌then◌else◌, Option, Some, None, List, [], ◌∷◌, Ok, refl, sym, ap, subst, ◌∙◌, arith}
use Rattle.std.specs.List.{All, cons_option, filter, filter_map}
use Rattle.std.specs.Ordering.{ordering_reverse}
use Rattle.std.specs.declared.cmp.Ordering.{Ordering}
use Rattle.std.specs.declared.cmp.Ordering.TheVariants.{Less, Equal, Greater}
use Rattle.std.proofs.lemmas.Bool.{and_parts, leb-true, ltb-true}
use Rattle.std.proofs.lemmas.List.Elements.{All-nil, All-cons, All-head, All-tail}
use Rattle.geo_base.specs.Cells.{is_null}
use Rattle.geo_base.specs.Order.{cell_cmp}
use Rattle.geo_base.specs.Results.{◌>>=◌}
use Rattle.geo_base.specs.declared.cell.Cell.{Cell}
use Rattle.geo_base.specs.declared.cell.Cell.TheVariants.{Null, Truth}
use Rattle.geo_base.specs.laws.Orders.{cell_cmp_total}
use Rattle.row_source.specs.Handing.{cell_at}
use Rattle.sql_expr.specs.Values.{ValueOrFault, compared, holds, value_of}
use Rattle.sql_expr.specs.declared.expr.Expr.{Expr, out-Expr}
use Rattle.sql_expr.specs.declared.expr.Expr.TheOpen.{Expr-F}
use Rattle.sql_expr.specs.declared.expr.Expr.TheViews.{roll-Expr, roll-out-Expr}
use Rattle.sql_expr.specs.declared.expr.Test.{Test}
use Rattle.sql_expr.specs.declared.expr.Test.TheVariants as test
use Rattle.sql_plan.specs.Tests.{ColumnTest, column_test, column_test_in, column_tests, compared_column, counted_from, is_among, is_difference, safe_tests, tests_of, turned}
use Rattle.sql_plan.proofs.Safe.{IsPassed, value_at}

-- ---- comparisons that are true

pub record AreCompared (t : Test) (a b : Cell) : Type 0 where
  pub left : is_null a ≡ false
  pub right : is_null b ≡ false
  pub holds : holds t (cell_cmp a b) ≡ true

compared_by : (t : Test) (a b : Cell) (x y z : Bool) → is_null a ≡ x → is_null b ≡ y → holds t (cell_cmp a b) ≡ z →
    (let c : Cell = if x || y then Null else Truth z in c ≡ Truth true) → AreCompared t a b
compared_by t a b true y z p q r h = absurd cc
compared_by t a b false true z p q r h = absurd cc
compared_by t a b false false false p q r h = absurd cc
compared_by t a b false false true p q r h = record { left = p; right = q; holds = r }

pub compared_so : (t : Test) (a b : Cell) → compared t a b ≡ Truth true → AreCompared t a b
compared_so t a b h = compared_by t a b (is_null a) (is_null b) (holds t (cell_cmp a b)) refl refl refl h

holds_turned : (t : Test) (o : Ordering) → holds t (ordering_reverse o) ≡ holds (turned t) o
holds_turned test.Equal Less = refl
holds_turned test.Equal Equal = refl
holds_turned test.Equal Greater = refl
holds_turned test.Differ Less = refl
holds_turned test.Differ Equal = refl
holds_turned test.Differ Greater = refl
holds_turned test.Less Less = refl
holds_turned test.Less Equal = refl
holds_turned test.Less Greater = refl
holds_turned test.LessEqual Less = refl
holds_turned test.LessEqual Equal = refl
holds_turned test.LessEqual Greater = refl
holds_turned test.More Less = refl
holds_turned test.More Equal = refl
holds_turned test.More Greater = refl
holds_turned test.MoreEqual Less = refl
holds_turned test.MoreEqual Equal = refl
holds_turned test.MoreEqual Greater = refl

pub turned_so : (t : Test) (a b : Cell) → AreCompared t a b → AreCompared (turned t) b a
turned_so t a b r = record {
  left = r.right;
  right = r.left;
  holds = sym (holds_turned t (cell_cmp b a)) ∙ ap (holds t) (sym (cell_cmp_total.antisymm a b)) ∙ r.holds;
}

-- the two sides of a comparison that is true
sides_by : (t : Test) (v w : ValueOrFault) (a b : Cell) → v ≡ Ok a → w ≡ Ok b → (v >>= λ x. w >>= λ y. Ok (compared t x y)) ≡ Ok (Truth true) → compared t a b ≡ Truth true
sides_by t v w a b p q h =
    let e : (let r : ValueOrFault = Ok (compared t a b) in r ≡ Ok (Truth true)) =
    sym (ap (λ (u : ValueOrFault). u >>= λ x. w >>= λ y. Ok (compared t x y)) p ∙ ap (λ (u : ValueOrFault). u >>= λ y. Ok (compared t a y)) q) ∙ h in
    cc

pub sides : (row : List Cell) (t : Test) (a b : Expr) (x y : Cell) → value_of row a ≡ Ok x → value_of row b ≡ Ok y → IsPassed row (roll-Expr (Expr-F.Cmp t a b)) → AreCompared t x y
sides row t a b x y p q h = compared_so t x y (sides_by t (value_of row a) (value_of row b) x y p q (sym (value_at row (Expr-F.Cmp t a b)) ∙ h))

-- the same where the sides are seen by their levels
pub level_sides : (row : List Cell) (t : Test) (z w : Expr-F Expr) (x y : Cell) → value_of row (roll-Expr z) ≡ Ok x → value_of row (roll-Expr w) ≡ Ok y →
    IsPassed row (roll-Expr (Expr-F.Cmp t (roll-Expr z) (roll-Expr w))) → AreCompared t x y
level_sides row t z w x y p q h = sides row t (roll-Expr z) (roll-Expr w) x y p q h

pub seen_sides : (row : List Cell) (t : Test) (a b : Expr) → IsPassed row (roll-Expr (Expr-F.Cmp t a b)) →
    IsPassed row (roll-Expr (Expr-F.Cmp t (roll-Expr (out-Expr a)) (roll-Expr (out-Expr b))))
seen_sides row t a b h =
    subst (λ (x : Expr). IsPassed row (roll-Expr (Expr-F.Cmp t x (roll-Expr (out-Expr b))))) (sym (roll-out-Expr a))
    (subst (λ (y : Expr). IsPassed row (roll-Expr (Expr-F.Cmp t a y))) (sym (roll-out-Expr b)) h)

-- ---- tests of a column

-- the cell in the test's column passes it
pub record Passes (cells : List Cell) (t : ColumnTest) : Type 0 where
  pub so : AreCompared t.test (cell_at cells t.column) t.literal

no_test : {P : Type 0} (u : ColumnTest) → None ≡ Some u → P
no_test u h = absurd cc

chosen : (b : Bool) (t u : ColumnTest) → (if b then None else Some t) ≡ Some u → t ≡ u
chosen true t u h = absurd cc
chosen false t u h = cc

module _ (row : List Cell) where
  of_test : (t : Test) (column : ℕ) (literal : Cell) (u : ColumnTest) → AreCompared t (cell_at row column) literal → column_test t column literal ≡ Some u → Passes row u
  of_test t column literal u r h =
      subst (Passes row) (chosen (is_difference t || is_null literal) (record { column = column; test = t; literal = literal }) u h) (record { so = r })

  of_sides : (t : Test) (z w : Expr-F Expr) (u : ColumnTest) → IsPassed row (roll-Expr (Expr-F.Cmp t (roll-Expr z) (roll-Expr w))) → compared_column t z w ≡ Some u → Passes row u
  of_sides t (Expr-F.Col column) (Expr-F.Lit literal) u h is =
      of_test t column literal u
      (level_sides row t (Expr-F.Col column) (Expr-F.Lit literal) (cell_at row column) literal (value_at row (Expr-F.Col column)) (value_at row (Expr-F.Lit literal)) h) is
  of_sides t (Expr-F.Lit literal) (Expr-F.Col column) u h is =
      of_test (turned t) column literal u
      (turned_so t literal (cell_at row column)
      (level_sides row t (Expr-F.Lit literal) (Expr-F.Col column) literal (cell_at row column) (value_at row (Expr-F.Lit literal)) (value_at row (Expr-F.Col column)) h)) is
  of_sides t _ _ u h is = no_test u is

  of_level : (z : Expr-F Expr) (u : ColumnTest) → IsPassed row (roll-Expr z) → column_test_in z ≡ Some u → Passes row u
  of_level (Expr-F.Cmp t a b) u h is = of_sides t (out-Expr a) (out-Expr b) u (seen_sides row t a b h) is
  of_level _ u h is = no_test u is

  of_expression : (e : Expr) (u : ColumnTest) → IsPassed row e → column_test_in (out-Expr e) ≡ Some u → Passes row u
  of_expression e u h is = of_level (out-Expr e) u (subst (IsPassed row) (sym (roll-out-Expr e)) h) is

  added : (e : Expr) (o : Option ColumnTest) (rest : List ColumnTest) → IsPassed row e → column_test_in (out-Expr e) ≡ o → All (Passes row) rest → All (Passes row) (cons_option o rest)
  added e None rest h is all = all
  added e (Some u) rest h is all = All-cons (Passes row) u rest (of_expression e u h is) all

  all_pass : (es : List Expr) → All (IsPassed row) es → All (Passes row) (filter_map (λ e. column_test_in (out-Expr e)) es)
  all_pass [] h = All-nil (Passes row)
  all_pass (e ∷ es) h =
      added e (column_test_in (out-Expr e)) (filter_map (λ x. column_test_in (out-Expr x)) es) (All-head (IsPassed row) e es h) refl (all_pass es (All-tail (IsPassed row) e es h))

  pub tests_pass : (tests : List Expr) → All (IsPassed row) (safe_tests tests) → All (Passes row) (column_tests tests)
  unfolding column_tests
  tests_pass tests h = all_pass (safe_tests tests) h

-- ---- the tests of one table

module _ (row cells : List Cell) (first count : ℕ) (same : (k : ℕ) → k < count → cell_at row (first + k) ≡ cell_at cells k) where
  moved : (t : ColumnTest) → is_among first count t ≡ true → Passes row t → Passes cells (counted_from first t)
  moved t among p =
      let parts = and_parts (nat_le first t.column) (nat_lt t.column (first + count)) among in
      let low : first ≤ t.column = leb-true first t.column parts.0 in
      let high : t.column < first + count = ltb-true t.column (first + count) parts.1 in
      let back : first + (t.column - first) ≡ t.column = omega arith in
      let within : t.column - first < count = omega arith in
      let here : cell_at row t.column ≡ cell_at cells (t.column - first) = ap (cell_at row) (sym back) ∙ same (t.column - first) within in
      record { so = subst (λ (c : Cell). AreCompared t.test c t.literal) here p.so }

  moved_by : (b : Bool) (t : ColumnTest) (ts : List ColumnTest) → is_among first count t ≡ b → Passes row t → All (Passes cells) (map (counted_from first) ts) →
      All (Passes cells) (map (counted_from first) (if b then t ∷ ts else ts))
  moved_by true t ts e p all = All-cons (Passes cells) (counted_from first t) (map (counted_from first) ts) (moved t e p) all
  moved_by false t ts e p all = all

  pub tests_of_pass : (ts : List ColumnTest) → All (Passes row) ts → All (Passes cells) (tests_of first count ts)
  tests_of_pass [] h = All-nil (Passes cells)
  tests_of_pass (t ∷ ts) h =
      moved_by (is_among first count t) t (filter (is_among first count) ts) refl (All-head (Passes row) t ts h) (tests_of_pass ts (All-tail (Passes row) t ts h))
