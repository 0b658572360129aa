-- What the code goes through, as the definitions list it.
use Rattle.std.proofs.Common.{map, ◌++◌, ◌+◌, drop, get_or, option_to_list, ◌≡◌, ℕ, ◌<◌, ◌≤◌, Bool, true, false, not, ◌&&◌, cond, nat_eq, nat_lt, if◌then◌else◌, Option, Some, None, List, [], ◌∷◌, length, take, refl, sym, ap, ◌∙◌}
use Rattle.std.specs.List.{cons_option, filter, filter_map, position, prefix_len}
use Rattle.std.specs.Option.{is_some, option_map, option_or}
use Rattle.std.proofs.Math.Seq.{drop-length}
use Rattle.std.proofs.lemmas.Bool.{ltb-false}
use Rattle.std.proofs.lemmas.List.{drop_more, take_all, take_more}
use Rattle.std.proofs.lemmas.List.Elements.{filter_map-append}
use Rattle.std.proofs.lemmas.Option.{cond_some}
use Rattle.sql_expr.specs.declared.expr.Expr.{Expr, out-Expr}
use Rattle.sql_plan.specs.Plans.{first_test}
use Rattle.sql_plan.specs.Tests as tests
use Rattle.sql_plan.specs.Tests.{calculates, column_test_in, column_tests, counted_from, is_among, safe_tests, tests_of}
use Rattle.sql_expr.specs.declared.expr.Test.{Test}
use Rattle.sql_plan.specs.declared.tests.ColumnTest.{ColumnTest}
use Rattle.sql_plan.specs.declared.tests.TableTests.{TableTests}
use Rattle.sql_plan.specs.inner.Borrowed.{placed, seen, such, test_of, usable}

-- ---- the safe tests

pub safe_before : (es : List Expr) (place : ℕ) → position calculates es ≡ Some place → take place es ≡ safe_tests es
safe_before es place h =
    let p = cond_some (nat_lt (prefix_len (λ e. not (calculates e)) es) (length es)) (prefix_len (λ e. not (calculates e)) es) place h in
    ap (λ (n : ℕ). take n es) (sym p.1)

not_some : (b : Bool) (n : ℕ) → cond b (Some n) None ≡ None → b ≡ false
not_some true n h = absurd cc
not_some false n h = refl

pub safe_all : (es : List Expr) → position calculates es ≡ None → es ≡ safe_tests es
safe_all es h =
    let none = not_some (nat_lt (prefix_len (λ e. not (calculates e)) es) (length es)) (prefix_len (λ e. not (calculates e)) es) h in
    let long : length es ≤ prefix_len (λ e. not (calculates e)) es = ltb-false (prefix_len (λ e. not (calculates e)) es) (length es) none in
    sym (take_all (prefix_len (λ e. not (calculates e)) es) es long)

-- ---- the tests of a table

kept_or_not : (first count : ℕ) (b : Bool) (t : tests.ColumnTest) (rest : List tests.ColumnTest) →
    cons_option (if b then Some (counted_from first t) else None) (map (counted_from first) rest) ≡ map (counted_from first) (cond b (t ∷ rest) rest)
kept_or_not first count true t rest = refl
kept_or_not first count false t rest = refl

fused_step : (first count : ℕ) (o : Option tests.ColumnTest) (rest : List tests.ColumnTest) →
    cons_option (placed first count o) (tests_of first count rest) ≡ tests_of first count (cons_option o rest)
fused_step first count None rest = refl
fused_step first count (Some t) rest = kept_or_not first count (is_among first count t) t (filter (is_among first count) rest)

fused : (first count : ℕ) (es : List Expr) → filter_map (test_of first count) es ≡ tests_of first count (filter_map (λ e. column_test_in (out-Expr e)) es)
fused first count [] = refl
fused first count (e ∷ es) =
    ap (cons_option (test_of first count e)) (fused first count es)
    ∙ fused_step first count (column_test_in (out-Expr e)) (filter_map (λ x. column_test_in (out-Expr x)) es)

pub all_tests : (first count : ℕ) (es : List Expr) → filter_map (test_of first count) (safe_tests es) ≡ tests_of first count (column_tests es)
unfolding column_tests
all_tests first count es = fused first count (safe_tests es)

-- the usable tests, as the code holds them
pub usable_are : (t : TableTests) (es : List Expr) → t.safe.now ≡ safe_tests es → usable t ≡ tests_of t.first t.count (column_tests es)
unfolding usable
usable_are t es is = ap (filter_map (test_of t.first t.count)) is ∙ all_tests t.first t.count es

-- ---- the first test of a kind

pub some_seen : (o : Option ColumnTest) → is_some o ≡ is_some (option_map seen o)
some_seen None = refl
some_seen (Some t) = refl

module _ (says : Test → Bool) (column : ℕ) (by : Expr → Option tests.ColumnTest) where
  abbrev first_in : List Expr → Option tests.ColumnTest
  first_in es = first_test says (filter_map by es) column

  one_first : (o : Option tests.ColumnTest) (rest : List tests.ColumnTest) →
      first_test says (cons_option o rest) column ≡ option_or (such says column o) (first_test says rest column)
  one_first None rest = refl
  one_first (Some t) rest = split (nat_eq t.column column && says t.test)
    where
      split : (b : Bool) → cond b (Some t) (first_test says rest column) ≡ option_or (if b then Some t else None) (first_test says rest column)
      split true = refl
      split false = refl

  here : (es : List Expr) (i : ℕ) (e : Expr) → i < length es → e ≡ get_or es i e →
      first_in (drop i es) ≡ option_or (such says column (by e)) (first_in (drop (i + 1) es))
  here es i e within is =
      ap first_in (drop_more es i e within) ∙ (one_first (by (get_or es i e)) (filter_map by (drop (i + 1) es))
      ∙ ap (λ (x : Expr). option_or (such says column (by x)) (first_in (drop (i + 1) es))) (sym is))

  pub found_first : (es : List Expr) (i : ℕ) (e : Expr) (t : tests.ColumnTest) → i < length es → e ≡ get_or es i e → Some t ≡ such says column (by e) →
      first_in (drop i es) ≡ first_in es → Some t ≡ first_in es
  found_first es i e t within is said so_far =
      sym (here es i e within is ∙ ap (λ (o : Option tests.ColumnTest). option_or o (first_in (drop (i + 1) es))) (sym said)) ∙ so_far

  pub not_first : (es : List Expr) (i : ℕ) (e : Expr) → i < length es → e ≡ get_or es i e → None ≡ such says column (by e) →
      first_in (drop i es) ≡ first_in es → first_in (drop (i + 1) es) ≡ first_in es
  not_first es i e within is said so_far =
      sym (here es i e within is ∙ ap (λ (o : Option tests.ColumnTest). option_or o (first_in (drop (i + 1) es))) (sym said)) ∙ so_far

  pub none_first : (es : List Expr) (i : ℕ) → i ≡ length es → first_in (drop i es) ≡ first_in es → None ≡ first_in es
  none_first es i all so_far = sym (ap first_in (ap (λ (n : ℕ). drop n es) all ∙ drop-length es)) ∙ so_far

-- ---- one thing more

at_most_one : {X Y : Type 0} (seen : X → Y) (xs : List X) (o : Option X) → map seen (xs ++ option_to_list o) ≡ map seen xs ++ cons_option (option_map seen o) []
at_most_one seen [] None = refl
at_most_one seen [] (Some x) = refl
at_most_one seen (y ∷ xs) o = ap (λ rest. seen y ∷ rest) (at_most_one seen xs o)

-- what is found by the next one stands behind what was found by those before it
pub one_more : {E X Y : Type 0} (seen : X → Y) (by : E → Option Y) (es : List E) (i : ℕ) (d : E) (before : List X) (o : Option X) → i < length es →
    map seen before ≡ filter_map by (take i es) → option_map seen o ≡ by (get_or es i d) →
    map seen (before ++ option_to_list o) ≡ filter_map by (take (i + 1) es)
one_more seen by es i d before o within so_far same =
    at_most_one seen before o
    ∙ (ap (λ xs. xs ++ cons_option (option_map seen o) []) so_far
    ∙ (ap (λ p. filter_map by (take i es) ++ cons_option p []) same
    ∙ (sym (filter_map-append by (take i es) (get_or es i d ∷ []))
    ∙ ap (filter_map by) (sym (take_more es i d within)))))
