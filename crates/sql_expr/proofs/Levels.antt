-- The value or fault of each kind of expression, by those of its operands.
use Rattle.std.proofs.Common.{◌≡◌, ℕ, Bool, true, false, List, Ok, Err, sym, ap, ◌∙◌}
use Rattle.std.specs.Prelude.{slice_index_or}
use Rattle.geo_base.specs.Results.{◌>>=◌}
use Rattle.geo_base.specs.declared.cell.Cell.{Cell}
use Rattle.geo_base.specs.declared.cell.Cell.TheVariants as cell
use Rattle.sql_expr.specs.declared.expr.Expr.{Expr}
use Rattle.sql_expr.specs.declared.expr.Expr.TheOpen.{Expr-F}
use Rattle.sql_expr.specs.declared.expr.Expr.TheFolds.{fold-roll-Expr}
use Rattle.sql_expr.specs.declared.expr.Expr.TheVariants as expr
use Rattle.sql_expr.specs.declared.expr.Expr.TheVariants.{rolls-Lit, rolls-Col, rolls-Neg, rolls-Not, rolls-Arith, rolls-Cmp, rolls-And, rolls-Or, rolls-IsNull}
use Rattle.sql_expr.specs.declared.expr.Op.{Op}
use Rattle.sql_expr.specs.declared.expr.Test.{Test}
use Rattle.sql_expr.specs.declared.fault.EvalFault.{EvalFault}
use Rattle.sql_expr.specs.Kleene.{not_3, truth_in, truth_cell}
use Rattle.sql_expr.specs.Values.{ValueOrFault, arithmetic, negated, compared, null_test, both, either, level_value, value_of}

-- NOT of a value, and a fault as it is
abbrev pub turned : ValueOrFault → ValueOrFault
turned v = v >>= λ x. Ok (truth_cell (not_3 (truth_in x)))

module _ (row : List Cell) where
  pub of_literal : (c : Cell) → value_of row (expr.Lit c) ≡ Ok c
  unfolding value_of
  of_literal c = ap (value_of row) (sym (rolls-Lit c)) ∙ fold-roll-Expr ValueOrFault (level_value row) (Expr-F.Lit c)

  pub of_column : (place : ℕ) → value_of row (expr.Col place) ≡ Ok (slice_index_or row place cell.Null)
  unfolding value_of
  of_column place = ap (value_of row) (sym (rolls-Col place)) ∙ fold-roll-Expr ValueOrFault (level_value row) (Expr-F.Col place)

  pub of_neg : (a : Expr) → value_of row (expr.Neg a) ≡ (value_of row a >>= negated)
  unfolding value_of
  of_neg a = ap (value_of row) (sym (rolls-Neg a)) ∙ fold-roll-Expr ValueOrFault (level_value row) (Expr-F.Neg a)

  pub of_not : (a : Expr) → value_of row (expr.Not a) ≡ turned (value_of row a)
  unfolding value_of
  of_not a = ap (value_of row) (sym (rolls-Not a)) ∙ fold-roll-Expr ValueOrFault (level_value row) (Expr-F.Not a)

  pub of_arithmetic : (o : Op) (a b : Expr) → value_of row (expr.Arith o a b) ≡ (value_of row a >>= λ x. value_of row b >>= λ y. arithmetic o x y)
  unfolding value_of
  of_arithmetic o a b = ap (value_of row) (sym (rolls-Arith o a b)) ∙ fold-roll-Expr ValueOrFault (level_value row) (Expr-F.Arith o a b)

  pub of_comparison : (t : Test) (a b : Expr) → value_of row (expr.Cmp t a b) ≡ (value_of row a >>= λ x. value_of row b >>= λ y. Ok (compared t x y))
  unfolding value_of
  of_comparison t a b = ap (value_of row) (sym (rolls-Cmp t a b)) ∙ fold-roll-Expr ValueOrFault (level_value row) (Expr-F.Cmp t a b)

  pub of_and : (a b : Expr) → value_of row (expr.And a b) ≡ both (value_of row a) (value_of row b)
  unfolding value_of
  of_and a b = ap (value_of row) (sym (rolls-And a b)) ∙ fold-roll-Expr ValueOrFault (level_value row) (Expr-F.And a b)

  pub of_or : (a b : Expr) → value_of row (expr.Or a b) ≡ either (value_of row a) (value_of row b)
  unfolding value_of
  of_or a b = ap (value_of row) (sym (rolls-Or a b)) ∙ fold-roll-Expr ValueOrFault (level_value row) (Expr-F.Or a b)

  pub of_null_test : (a : Expr) (is_not : Bool) → value_of row (expr.IsNull a is_not) ≡ (value_of row a >>= λ x. Ok (null_test is_not x))
  unfolding value_of
  of_null_test a is_not = ap (value_of row) (sym (rolls-IsNull a is_not)) ∙ fold-roll-Expr ValueOrFault (level_value row) (Expr-F.IsNull a is_not)

  -- ---- the left operand comes first

  pub left_of_arithmetic : (o : Op) (a b : Expr) (f : EvalFault) → value_of row a ≡ Err f → value_of row (expr.Arith o a b) ≡ Err f
  left_of_arithmetic o a b f e = of_arithmetic o a b ∙ ap (λ (v : ValueOrFault). v >>= λ x. value_of row b >>= λ y. arithmetic o x y) e

  pub left_of_comparison : (t : Test) (a b : Expr) (f : EvalFault) → value_of row a ≡ Err f → value_of row (expr.Cmp t a b) ≡ Err f
  left_of_comparison t a b f e = of_comparison t a b ∙ ap (λ (v : ValueOrFault). v >>= λ x. value_of row b >>= λ y. Ok (compared t x y)) e

  pub left_of_and : (a b : Expr) (f : EvalFault) → value_of row a ≡ Err f → value_of row (expr.And a b) ≡ Err f
  left_of_and a b f e = of_and a b ∙ ap (λ (v : ValueOrFault). both v (value_of row b)) e

  pub left_of_or : (a b : Expr) (f : EvalFault) → value_of row a ≡ Err f → value_of row (expr.Or a b) ≡ Err f
  left_of_or a b f e = of_or a b ∙ ap (λ (v : ValueOrFault). either v (value_of row b)) e

  pub false_and : (a b : Expr) → value_of row a ≡ Ok (cell.Truth false) → value_of row (expr.And a b) ≡ Ok (cell.Truth false)
  false_and a b e = of_and a b ∙ ap (λ (v : ValueOrFault). both v (value_of row b)) e

  pub true_or : (a b : Expr) → value_of row a ≡ Ok (cell.Truth true) → value_of row (expr.Or a b) ≡ Ok (cell.Truth true)
  true_or a b e = of_or a b ∙ ap (λ (v : ValueOrFault). either v (value_of row b)) e
