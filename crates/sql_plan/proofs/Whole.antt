-- No cell of a usable test is NULL, so those that all columns of a key are equal to make a key.
use Rattle.std.proofs.Common.{map, ◌≡◌, ℕ, Bool, true, false, ◌||◌, nat_eq, ◌&&◌, if◌then◌else◌, Option, Some, None, List, [], ◌∷◌, length, refl, sym, subst}
use Rattle.std.specs.List.{All, cons_option, filter, filter_map}
use Rattle.std.specs.Option.{option_map}
use Rattle.std.proofs.lemmas.List.Elements.{All-nil, All-cons, All-head, All-tail}
use Rattle.geo_base.specs.Cells.{is_null, key_fault}
use Rattle.geo_base.specs.declared.cell.Cell.{Cell}
use Rattle.geo_base.specs.declared.cell.Cell.TheVariants.{Null}
use Rattle.geo_base.specs.laws.Keys.{key_fault_none}
use Rattle.geo_schema.specs.Tables.{IsTable, TakesRows}
use Rattle.geo_schema.specs.declared.table.TableDef.{TableDef}
use Rattle.geo_schema.specs.laws.Places.{none_found}
use Rattle.sql_expr.specs.declared.expr.Expr.{Expr, out-Expr}
use Rattle.sql_expr.specs.declared.expr.Expr.TheOpen.{Expr-F}
use Rattle.sql_expr.specs.declared.expr.Test.{Test}
use Rattle.sql_plan.specs.Plans.{equal_cell, first_test, fixed_cells, in_front, is_equality}
use Rattle.sql_plan.specs.Tests.{ColumnTest, column_test, column_test_in, column_tests, compared_column, counted_from, is_among, is_difference, safe_tests, tests_of, turned}
use Rattle.sql_plan.proofs.Reached.{found}

-- the cell is no NULL
abbrev pub IsSome : Cell → Type 0
IsSome c = is_null c ≡ false

-- the test's literal is no NULL
abbrev pub IsWhole : ColumnTest → Type 0
IsWhole t = is_null t.literal ≡ false

-- ---- usable tests

whole_by : (d n : Bool) (t u : ColumnTest) → is_null t.literal ≡ n → (if d || n then None else Some t) ≡ Some u → IsWhole u
whole_by true n t u p h = absurd cc
whole_by false true t u p h = absurd cc
whole_by false false t u p h =
    let e : t ≡ u = cc in
    subst IsWhole e p

of_test : (t : Test) (column : ℕ) (literal : Cell) (u : ColumnTest) → column_test t column literal ≡ Some u → IsWhole u
of_test t column literal u h = whole_by (is_difference t) (is_null literal) (record { column = column; test = t; literal = literal }) u refl h

no_test : {P : Type 0} (u : ColumnTest) → None ≡ Some u → P
no_test u h = absurd cc

of_sides : (t : Test) (z w : Expr-F Expr) (u : ColumnTest) → compared_column t z w ≡ Some u → IsWhole u
of_sides t (Expr-F.Col column) (Expr-F.Lit literal) u is = of_test t column literal u is
of_sides t (Expr-F.Lit literal) (Expr-F.Col column) u is = of_test (turned t) column literal u is
of_sides t _ _ u is = no_test u is

of_level : (z : Expr-F Expr) (u : ColumnTest) → column_test_in z ≡ Some u → IsWhole u
of_level (Expr-F.Cmp t a b) u is = of_sides t (out-Expr a) (out-Expr b) u is
of_level _ u is = no_test u is

added : (o : Option ColumnTest) (rest : List ColumnTest) → ((u : ColumnTest) → o ≡ Some u → IsWhole u) → All IsWhole rest → All IsWhole (cons_option o rest)
added None rest h all = all
added (Some u) rest h all = All-cons IsWhole u rest (h u refl) all

all_whole : (es : List Expr) → All IsWhole (filter_map (λ e. column_test_in (out-Expr e)) es)
all_whole [] = All-nil IsWhole
all_whole (e ∷ es) = added (column_test_in (out-Expr e)) (filter_map (λ x. column_test_in (out-Expr x)) es) (of_level (out-Expr e)) (all_whole es)

usable_whole : (es : List Expr) → All IsWhole (column_tests es)
unfolding column_tests
usable_whole es = all_whole (safe_tests es)

counted_by : (first : ℕ) (b : Bool) (t : ColumnTest) (ts : List ColumnTest) → IsWhole t → All IsWhole (map (counted_from first) ts) →
    All IsWhole (map (counted_from first) (if b then t ∷ ts else ts))
counted_by first true t ts p all = All-cons IsWhole (counted_from first t) (map (counted_from first) ts) p all
counted_by first false t ts p all = all

tests_whole : (first count : ℕ) (ts : List ColumnTest) → All IsWhole ts → All IsWhole (tests_of first count ts)
tests_whole first count [] h = All-nil IsWhole
tests_whole first count (t ∷ ts) h =
    counted_by first (is_among first count t) t (filter (is_among first count) ts) (All-head IsWhole t ts h) (tests_whole first count ts (All-tail IsWhole t ts h))

of_table : (first count : ℕ) (es : List Expr) → All IsWhole (tests_of first count (column_tests es))
of_table first count es = tests_whole first count (column_tests es) (usable_whole es)

pub whole_of : (first count : ℕ) (es : List Expr) (ts : List ColumnTest) → ts ≡ tests_of first count (column_tests es) → All IsWhole ts
whole_of first count es ts is = subst (All IsWhole) (sym is) (of_table first count es)

-- ---- the cells that columns are equal to

module _ (ts : List ColumnTest) (whole : All IsWhole ts) where
  equal_by : (column : ℕ) (c : Cell) (o : Option ColumnTest) → first_test is_equality ts column ≡ o → option_map (λ t. t.literal) o ≡ Some c → IsSome c
  equal_by column c None q h = absurd cc
  equal_by column c (Some t) q h =
      let (s, p) = found (λ (u : ColumnTest). nat_eq u.column column && is_equality u.test) IsWhole ts t whole q in
      let e : t.literal ≡ c = cc in
      subst IsSome e p

  front_by : (o : Option Cell) (rest : List Cell) → ((c : Cell) → o ≡ Some c → IsSome c) → All IsSome rest → All IsSome (in_front o rest)
  front_by None rest h all = All-nil IsSome
  front_by (Some c) rest h all = All-cons IsSome c rest (h c refl) all

  fixed_whole : (columns : List ℕ) → All IsSome (fixed_cells ts columns)
  fixed_whole [] = All-nil IsSome
  fixed_whole (column ∷ columns) =
      front_by (equal_cell ts column) (fixed_cells ts columns) (λ c h. equal_by column c (first_test is_equality ts column) refl h) (fixed_whole columns)

  fixed_key : (table : TableDef) → TakesRows table → length (fixed_cells ts table.key) ≡ length table.key → key_fault (fixed_cells ts table.key) ≡ None
  fixed_key table good count =
      let rules = good.key in
      key_fault_none (fixed_cells ts table.key) (record {
        some = rw count rules.some;
        few = rw count rules.few;
        whole = none_found is_null (fixed_cells ts table.key) Null (λ k within. fixed_whole table.key k Null within);
      })

-- the same of a table by the rules, whose key the code holds
pub fixed_fault : (table : TableDef) (ts : List ColumnTest) → All IsWhole ts → IsTable table → (key : List ℕ) → key ≡ table.key →
    length (fixed_cells ts key) ≡ length key → key_fault (fixed_cells ts key) ≡ None
fixed_fault table ts whole rules key same count =
    subst (λ (k : List ℕ). length (fixed_cells ts k) ≡ length k → key_fault (fixed_cells ts k) ≡ None) (sym same) (fixed_key ts whole table rules.rows) count
