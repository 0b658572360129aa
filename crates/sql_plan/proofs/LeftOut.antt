-- What the chosen plan leaves out is dropped by the tests.
use Rattle.std.proofs.Common.{◌≡◌, inl, inr, ℕ, ◌+◌, ◌<◌, Bool, true, false, ◌&&◌, List, [], ◌∷◌, ◌++◌, length, Ok, refl, sym, ap, subst, ◌∙◌, arith, zero-add}
use Rattle.std.specs.List.{All, Contains}
use Rattle.std.proofs.lemmas.Bool.{both_ways}
use Rattle.std.proofs.lemmas.List.{get_or_append_left, get_or-append-add}
use Rattle.std.proofs.lemmas.List.Elements.{All-contains}
use Rattle.geo_base.specs.declared.cell.Cell.{Cell}
use Rattle.geo_base.specs.declared.cell.Cell.TheVariants.{Null}
use Rattle.geo_schema.specs.Schemas.{Tables, table_at}
use Rattle.row_source.specs.Handing.{LeavesOut, cell_at, hands_out, reaches}
use Rattle.row_source.specs.Sources.{AreRowsOf, Entry, Fits}
use Rattle.sql_expr.specs.Conditions.{kept}
use Rattle.sql_expr.specs.declared.expr.Expr.{Expr}
use Rattle.sql_plan.specs.Plans.{first_access, plan_of, width}
use Rattle.sql_plan.specs.Tests.{column_tests, links_of, safe_tests, tests_of}
use Rattle.sql_plan.proofs.Joined.{joined, links_tie}
use Rattle.sql_plan.proofs.Passing.{tests_of_pass, tests_pass}
use Rattle.sql_plan.proofs.Reached.{reached}
use Rattle.sql_plan.proofs.Safe.{IsPassed, settled}
use Rattle.write_set.specs.Overlay.{Table}

-- a row that the plan misses, though it has all on which the safe tests are true, is dropped
unless_passed : (row : List Cell) (tests : List Expr) (b : Bool) → (All (IsPassed row) (safe_tests tests) → b ≡ true) → b ≡ false → kept row tests ≡ Ok false
unless_passed row tests b has missed =
    elim (settled row tests) [
      | inl out ↦ out
      | inr all ↦ absurd (both_ways b missed (has all))
    ]

hold_both : (a b : Bool) → a ≡ true → b ≡ true → (a && b) ≡ true
hold_both true true p q = refl
hold_both true false p q = absurd cc
hold_both false b p q = absurd cc

module _ (tables : Tables) (tests : List Expr) where
  -- ---- one table

  pub one_left_out : (left : ℕ) (a : Entry) → Fits tables a → a.0.table ≡ left → reaches tables left (plan_of tables (left ∷ []) tests).first a ≡ false → kept a.1 tests ≡ Ok false
  unfolding plan_of
  one_left_out left a fits here missed =
      unless_passed a.1 tests (reaches tables left (first_access (table_at tables left) tests) a)
      (λ all. reached tables left a fits here (tests_of 0 (width (table_at tables left)) (column_tests tests))
      (tests_of_pass a.1 a.1 0 (width (table_at tables left)) (λ k _. ap (cell_at a.1) (zero-add k)) (column_tests tests) (tests_pass a.1 tests all))) missed

  -- ---- two tables

  module _ (left right : ℕ) (a b : Entry) (fits_a : Fits tables a) (fits_b : Fits tables b) (here_a : a.0.table ≡ left) (here_b : b.0.table ≡ right) where
    wide : length a.1 ≡ width (table_at tables left)
    wide = subst (λ (n : ℕ). length a.1 ≡ width (table_at tables n)) here_a fits_a.row.count

    left_same : (k : ℕ) → k < width (table_at tables left) → cell_at (a.1 ++ b.1) (0 + k) ≡ cell_at a.1 k
    left_same k h =
        let within : k < length a.1 = omega (arith, wide) in
        ap (cell_at (a.1 ++ b.1)) (zero-add k) ∙ get_or_append_left a.1 b.1 Null k within

    right_same : (k : ℕ) → k < width (table_at tables right) → cell_at (a.1 ++ b.1) (width (table_at tables left) + k) ≡ cell_at b.1 k
    right_same k h = ap (λ (n : ℕ). cell_at (a.1 ++ b.1) (n + k)) (sym wide) ∙ get_or-append-add a.1 b.1 k Null

    handed : All (IsPassed (a.1 ++ b.1)) (safe_tests tests) → hands_out tables left right (plan_of tables (left ∷ right ∷ []) tests) a b ≡ true
    unfolding plan_of
    handed all =
        let passed = tests_pass (a.1 ++ b.1) tests all in
        hold_both _ _
        (reached tables left a fits_a here_a (tests_of 0 (width (table_at tables left)) (column_tests tests))
        (tests_of_pass (a.1 ++ b.1) a.1 0 (width (table_at tables left)) left_same (column_tests tests) passed))
        (joined tables right b fits_b here_b (tests_of (width (table_at tables left)) (width (table_at tables right)) (column_tests tests))
        (tests_of_pass (a.1 ++ b.1) b.1 (width (table_at tables left)) (width (table_at tables right)) right_same (column_tests tests) passed)
        a.1 (links_of (width (table_at tables left)) (width (table_at tables right)) tests)
        (links_tie a.1 b.1 (width (table_at tables left)) (width (table_at tables right)) wide tests all))

    pub pair_left_out : hands_out tables left right (plan_of tables (left ∷ right ∷ []) tests) a b ≡ false → kept (a.1 ++ b.1) tests ≡ Ok false
    pair_left_out missed = unless_passed (a.1 ++ b.1) tests (hands_out tables left right (plan_of tables (left ∷ right ∷ []) tests) a b) handed missed

-- ---- any rows

module _ (tables : Tables) (tests : List Expr) (rows : Table) (are : AreRowsOf tables rows) where
  fit : (a : Entry) → Contains rows a → Fits tables a
  fit a there = All-contains (Fits tables) rows a are.fit there

  pub left_out_of : (numbers : List ℕ) → LeavesOut tables numbers (plan_of tables numbers tests) rows (λ cells. kept cells tests ≡ Ok false)
  unfolding plan_of
  left_out_of [] = tt
  left_out_of (left ∷ []) = λ a there here missed. one_left_out tables tests left a (fit a there) here missed
  left_out_of (left ∷ right ∷ more) = λ a b there_a there_b here_a here_b missed.
      pair_left_out tables tests left right a b (fit a there_a) (fit b there_b) here_a here_b missed

pub left_out : (tables : Tables) (numbers : List ℕ) (tests : List Expr) (rows : Table) → AreRowsOf tables rows →
    LeavesOut tables numbers (plan_of tables numbers tests) rows (λ cells. kept cells tests ≡ Ok false)
left_out tables numbers tests rows are = left_out_of tables tests rows are numbers
