-- A test that doesn't calculate has a value. So a row on which one of the safe tests isn't true is dropped without a fault.
use Rattle.std.proofs.Common.{◌≡◌, ◌⊎◌, inl, inr, Bool, true, false, not, ◌||◌, cond, if◌then◌else◌, Some, None, List, [], ◌∷◌, Result, Ok, refl, sym, ap, subst, ◌∙◌}
use Rattle.std.specs.List.{All}
use Rattle.std.specs.Prelude.{slice_index_or}
use Rattle.std.proofs.lemmas.List.Elements.{All-nil, All-cons}
use Rattle.std.proofs.lemmas.List.Sums.{take_while-cons}
use Rattle.geo_base.specs.Results.{◌>>=◌}
use Rattle.geo_base.specs.declared.cell.Cell.{Cell}
use Rattle.geo_base.specs.declared.cell.Cell.TheVariants.{Null, Int, Text, Truth}
use Rattle.sql_expr.specs.Conditions.{is_true, kept}
use Rattle.sql_expr.specs.Kleene.{not_3, and_3, or_3, truth_in, truth_cell}
use Rattle.sql_expr.specs.Values.{ValueOrFault, both, compared, either, level_value, null_test, value_of}
use Rattle.sql_expr.specs.declared.expr.Expr.{Expr}
use Rattle.sql_expr.specs.declared.expr.Expr.TheFolds.{map-Expr, ind-Expr, fold-roll-Expr}
use Rattle.sql_expr.specs.declared.expr.Expr.TheOpen.{Expr-F}
use Rattle.sql_expr.specs.declared.expr.Expr.TheViews.{roll-Expr}
use Rattle.sql_expr.specs.declared.expr.Test.{Test}
use Rattle.sql_expr.specs.declared.fault.EvalFault.{EvalFault}
use Rattle.sql_plan.specs.Tests.{calculates, level_calculates, safe_tests}

-- ---- truths

neither : (a b : Bool) → (a || b) ≡ false → (a ≡ false) × (b ≡ false)
neither false false h = (refl, refl)
neither false true h = absurd cc
neither true b h = absurd cc

and_value : (x y : Cell) → (c : Cell) × (both (Ok x) (Ok y) ≡ Ok c)
and_value (Truth false) y = (Truth false, refl)
and_value (Truth true) y = (truth_cell (and_3 (Some true) (truth_in y)), refl)
and_value Null y = (truth_cell (and_3 None (truth_in y)), refl)
and_value (Int x) y = (truth_cell (and_3 None (truth_in y)), refl)
and_value (Text x) y = (truth_cell (and_3 None (truth_in y)), refl)

or_value : (x y : Cell) → (c : Cell) × (either (Ok x) (Ok y) ≡ Ok c)
or_value (Truth true) y = (Truth true, refl)
or_value (Truth false) y = (truth_cell (or_3 (Some false) (truth_in y)), refl)
or_value Null y = (truth_cell (or_3 None (truth_in y)), refl)
or_value (Int x) y = (truth_cell (or_3 None (truth_in y)), refl)
or_value (Text x) y = (truth_cell (or_3 None (truth_in y)), refl)

-- ---- levels

pub value_at : (row : List Cell) (z : Expr-F Expr) → value_of row (roll-Expr z) ≡ level_value row (map-Expr Expr ValueOrFault (value_of row) z)
unfolding value_of
value_at row z = fold-roll-Expr ValueOrFault (level_value row) z

calculates_at : (z : Expr-F Expr) → calculates (roll-Expr z) ≡ level_calculates (map-Expr Expr Bool calculates z)
unfolding calculates
calculates_at z = fold-roll-Expr Bool level_calculates z

-- ---- tests that have a value

module _ (row : List Cell) where
  abbrev HasValue : Expr → Type 0
  HasValue e = calculates e ≡ false → (c : Cell) × (value_of row e ≡ Ok c)

  abbrev Known : Type 0
  Known = (e : Expr) × HasValue e

  known_not : (a : Expr) → HasValue a → HasValue (roll-Expr (Expr-F.Not a))
  known_not a has h =
      let (x, e) = has (sym (calculates_at (Expr-F.Not a)) ∙ h) in
      (truth_cell (not_3 (truth_in x)), value_at row (Expr-F.Not a) ∙ ap (λ (v : ValueOrFault). v >>= λ y. Ok (truth_cell (not_3 (truth_in y)))) e)

  known_null_test : (a : Expr) (is_not : Bool) → HasValue a → HasValue (roll-Expr (Expr-F.IsNull a is_not))
  known_null_test a is_not has h =
      let (x, e) = has (sym (calculates_at (Expr-F.IsNull a is_not)) ∙ h) in
      (null_test is_not x, value_at row (Expr-F.IsNull a is_not) ∙ ap (λ (v : ValueOrFault). v >>= λ y. Ok (null_test is_not y)) e)

  module _ (a b : Expr) (has_a : HasValue a) (has_b : HasValue b) where
    known_comparison : (t : Test) → HasValue (roll-Expr (Expr-F.Cmp t a b))
    known_comparison t h =
        let none = neither (calculates a) (calculates b) (sym (calculates_at (Expr-F.Cmp t a b)) ∙ h) in
        let (x, p) = has_a none.0 in
        let (y, q) = has_b none.1 in (
          compared t x y,
          value_at row (Expr-F.Cmp t a b)
              ∙ ap (λ (v : ValueOrFault). v >>= λ u. value_of row b >>= λ w. Ok (compared t u w)) p
              ∙ ap (λ (v : ValueOrFault). v >>= λ w. Ok (compared t x w)) q,
        )

    known_and : HasValue (roll-Expr (Expr-F.And a b))
    known_and h =
        let none = neither (calculates a) (calculates b) (sym (calculates_at (Expr-F.And a b)) ∙ h) in
        let (x, p) = has_a none.0 in
        let (y, q) = has_b none.1 in
        let (c, e) = and_value x y in
        (c, value_at row (Expr-F.And a b) ∙ ap (λ (v : ValueOrFault). both v (value_of row b)) p ∙ ap (λ (v : ValueOrFault). both (Ok x) v) q ∙ e)

    known_or : HasValue (roll-Expr (Expr-F.Or a b))
    known_or h =
        let none = neither (calculates a) (calculates b) (sym (calculates_at (Expr-F.Or a b)) ∙ h) in
        let (x, p) = has_a none.0 in
        let (y, q) = has_b none.1 in
        let (c, e) = or_value x y in
        (c, value_at row (Expr-F.Or a b) ∙ ap (λ (v : ValueOrFault). either v (value_of row b)) p ∙ ap (λ (v : ValueOrFault). either (Ok x) v) q ∙ e)

  known_level : (z : Expr-F Known) → HasValue (roll-Expr (map-Expr Known Expr (λ p. p.0) z))
  known_level (Expr-F.Lit c) = λ h. (c, value_at row (Expr-F.Lit c))
  known_level (Expr-F.Col place) = λ h. (slice_index_or row place Null, value_at row (Expr-F.Col place))
  known_level (Expr-F.Neg a) = λ h. let e : true ≡ false = sym (calculates_at (Expr-F.Neg a.0)) ∙ h in absurd cc
  known_level (Expr-F.Not a) = known_not a.0 a.1
  known_level (Expr-F.Arith o a b) = λ h. let e : true ≡ false = sym (calculates_at (Expr-F.Arith o a.0 b.0)) ∙ h in absurd cc
  known_level (Expr-F.Cmp t a b) = known_comparison a.0 b.0 a.1 b.1 t
  known_level (Expr-F.And a b) = known_and a.0 b.0 a.1 b.1
  known_level (Expr-F.Or a b) = known_or a.0 b.0 a.1 b.1
  known_level (Expr-F.IsNull a is_not) = known_null_test a.0 is_not a.1

  known : (e : Expr) → HasValue e
  known = ind-Expr HasValue (λ x y is. subst (λ (z : Expr-F Expr). HasValue (roll-Expr z)) is (known_level y))

  -- ---- rows on which a safe test isn't true

  abbrev pub IsPassed : Expr → Type 0
  IsPassed test = value_of row test ≡ Ok (Truth true)

  abbrev IsSettled : List Expr → Type 0
  IsSettled tests = (kept row tests ≡ Ok false) ⊎ All IsPassed (safe_tests tests)

  no_more : (test : Expr) (tests : List Expr) → calculates test ≡ true → IsSettled (test ∷ tests)
  no_more test tests h =
      let none : safe_tests (test ∷ tests) ≡ [] =
      take_while-cons (λ e. not (calculates e)) test tests ∙ ap (λ (b : Bool). cond (not b) (test ∷ safe_tests tests) []) h in
      inr (subst (All IsPassed) (sym none) (All-nil IsPassed))

  dropped : (test : Expr) (tests : List Expr) (c : Cell) → value_of row test ≡ Ok c → is_true c ≡ false → IsSettled (test ∷ tests)
  dropped test tests c e h =
      inl
      (ap (λ (v : ValueOrFault). v >>= λ x. if is_true x then kept row tests else Ok false) e
      ∙ ap (λ (b : Bool). let r : Result Bool EvalFault = if b then kept row tests else Ok false in r) h)

  passed : (test : Expr) (tests : List Expr) → calculates test ≡ false → IsPassed test → IsSettled tests → IsSettled (test ∷ tests)
  passed test tests h e (inl out) = inl (ap (λ (v : ValueOrFault). v >>= λ x. if is_true x then kept row tests else Ok false) e ∙ out)
  passed test tests h e (inr all) =
      let more : safe_tests (test ∷ tests) ≡ test ∷ safe_tests tests =
      take_while-cons (λ e. not (calculates e)) test tests ∙ ap (λ (b : Bool). cond (not b) (test ∷ safe_tests tests) []) h in
      inr (subst (All IsPassed) (sym more) (All-cons IsPassed test (safe_tests tests) e all))

  with_value : (test : Expr) (tests : List Expr) (c : Cell) → calculates test ≡ false → value_of row test ≡ Ok c → IsSettled tests → IsSettled (test ∷ tests)
  with_value test tests (Truth true) h e rest = passed test tests h e rest
  with_value test tests (Truth false) h e rest = dropped test tests (Truth false) e refl
  with_value test tests Null h e rest = dropped test tests Null e refl
  with_value test tests (Int x) h e rest = dropped test tests (Int x) e refl
  with_value test tests (Text x) h e rest = dropped test tests (Text x) e refl

  with_test : (b : Bool) (test : Expr) (tests : List Expr) → calculates test ≡ b → IsSettled tests → IsSettled (test ∷ tests)
  with_test true test tests h rest = no_more test tests h
  with_test false test tests h rest = let (c, e) = known test h in with_value test tests c h e rest

  -- the row is dropped without a fault, or all safe tests are true on it
  pub settled : (tests : List Expr) → IsSettled tests
  settled [] = inr (All-nil IsPassed)
  settled (test ∷ tests) = with_test (calculates test) test tests refl (settled tests)
