-- What each level of an expression gives: its bound form, its type, and whether it has columns of a list alone.
use Rattle.std.proofs.Common.{◌≡◌, ℕ, Bool, true, ◌&&◌, Option, Some, List, Ok, sym, ap, ◌∙◌}
use Rattle.std.specs.Prelude.{slice_get}
use Rattle.std.specs.Option.{option_and_then, option_map}
use Rattle.geo_base.specs.declared.cell.Cell.{Cell}
use Rattle.geo_base.specs.Results.{◌>>=◌}
use Rattle.geo_schema.specs.Schemas.{Tables}
use Rattle.sql_ast.specs.declared.ast.Ast.{Ast}
use Rattle.sql_ast.specs.declared.ast.Ast.TheFolds.{fold-roll-Ast}
use Rattle.sql_ast.specs.declared.ast.Ast.TheOpen.{Ast-F}
use Rattle.sql_ast.specs.declared.ast.Ast.TheVariants as ast
use Rattle.sql_ast.specs.declared.ast.AstOp.{AstOp}
use Rattle.sql_ast.specs.declared.ast.ColRef.{ColRef}
use Rattle.sql_expr.specs.declared.expr.Expr.{Expr}
use Rattle.sql_expr.specs.declared.expr.Expr.TheFolds.{fold-roll-Expr}
use Rattle.sql_expr.specs.declared.expr.Expr.TheOpen.{Expr-F}
use Rattle.sql_expr.specs.declared.expr.Expr.TheVariants as expr
use Rattle.sql_expr.specs.declared.expr.Expr.TheVariants.{rolls-Lit, rolls-Col, rolls-Neg, rolls-Not, rolls-Arith, rolls-Cmp, rolls-And, rolls-Or, rolls-IsNull}
use Rattle.sql_expr.specs.declared.expr.Op.{Op}
use Rattle.sql_expr.specs.declared.expr.Test.{Test}
use Rattle.sql_expr.specs.declared.value_type.ValueType.{ValueType}
use Rattle.sql_expr.specs.declared.value_type.ValueType.TheVariants as type
use Rattle.sql_expr.specs.Types.{literal_type, one_operand, two_operands, comparison, of_both, level_type, type_of}
use Rattle.sql_bind.specs.declared.scope.Scope.{Scope}
use Rattle.sql_bind.specs.Expressions.{TypedOrFault, literal, column, negated, denied, null_test, joined, level, expression_of}
use Rattle.sql_bind.specs.Names.{is_allowed}
use Rattle.sql_bind.specs.Sound.{level_of_columns, is_of_columns}

-- ---- bound forms

module _ (tables : Tables) (scope : Scope) where
  pub of_literal : (cell : Cell) → expression_of tables scope (ast.Lit cell) ≡ literal cell
  unfolding expression_of
  of_literal cell = ap (expression_of tables scope) (sym (ast.rolls-Lit cell)) ∙ fold-roll-Ast TypedOrFault (level tables scope) (Ast-F.Lit cell)

  pub of_column : (name : ColRef) → expression_of tables scope (ast.Column name) ≡ column tables scope name
  unfolding expression_of
  of_column name = ap (expression_of tables scope) (sym (ast.rolls-Column name)) ∙ fold-roll-Ast TypedOrFault (level tables scope) (Ast-F.Column name)

  pub of_neg : (a : Ast) → expression_of tables scope (ast.Neg a) ≡ (expression_of tables scope a >>= λ x. negated x)
  unfolding expression_of
  of_neg a = ap (expression_of tables scope) (sym (ast.rolls-Neg a)) ∙ fold-roll-Ast TypedOrFault (level tables scope) (Ast-F.Neg a)

  pub of_not : (a : Ast) → expression_of tables scope (ast.Not a) ≡ (expression_of tables scope a >>= λ x. denied x)
  unfolding expression_of
  of_not a = ap (expression_of tables scope) (sym (ast.rolls-Not a)) ∙ fold-roll-Ast TypedOrFault (level tables scope) (Ast-F.Not a)

  pub of_binary : (o : AstOp) (a b : Ast) → expression_of tables scope (ast.Binary o a b) ≡ (expression_of tables scope a >>= λ x. expression_of tables scope b >>= λ y. joined o x y)
  unfolding expression_of
  of_binary o a b = ap (expression_of tables scope) (sym (ast.rolls-Binary o a b)) ∙ fold-roll-Ast TypedOrFault (level tables scope) (Ast-F.Binary o a b)

  pub of_null_test : (a : Ast) (is_not : Bool) → expression_of tables scope (ast.IsNull a is_not) ≡ (expression_of tables scope a >>= λ x. Ok (null_test x is_not))
  unfolding expression_of
  of_null_test a is_not = ap (expression_of tables scope) (sym (ast.rolls-IsNull a is_not)) ∙ fold-roll-Ast TypedOrFault (level tables scope) (Ast-F.IsNull a is_not)

-- ---- types

module _ (columns : List ValueType) where
  pub type_literal : (c : Cell) → type_of columns (expr.Lit c) ≡ Some (literal_type c)
  unfolding type_of
  type_literal c = ap (type_of columns) (sym (rolls-Lit c)) ∙ fold-roll-Expr (Option ValueType) (level_type columns) (Expr-F.Lit c)

  pub type_column : (place : ℕ) → type_of columns (expr.Col place) ≡ slice_get columns place
  unfolding type_of
  type_column place = ap (type_of columns) (sym (rolls-Col place)) ∙ fold-roll-Expr (Option ValueType) (level_type columns) (Expr-F.Col place)

  pub type_neg : (a : Expr) → type_of columns (expr.Neg a) ≡ option_and_then (one_operand type.Int) (type_of columns a)
  unfolding type_of
  type_neg a = ap (type_of columns) (sym (rolls-Neg a)) ∙ fold-roll-Expr (Option ValueType) (level_type columns) (Expr-F.Neg a)

  pub type_not : (a : Expr) → type_of columns (expr.Not a) ≡ option_and_then (one_operand type.Truth) (type_of columns a)
  unfolding type_of
  type_not a = ap (type_of columns) (sym (rolls-Not a)) ∙ fold-roll-Expr (Option ValueType) (level_type columns) (Expr-F.Not a)

  pub type_arithmetic : (o : Op) (a b : Expr) → type_of columns (expr.Arith o a b) ≡ of_both (two_operands type.Int) (type_of columns a) (type_of columns b)
  unfolding type_of
  type_arithmetic o a b = ap (type_of columns) (sym (rolls-Arith o a b)) ∙ fold-roll-Expr (Option ValueType) (level_type columns) (Expr-F.Arith o a b)

  pub type_comparison : (t : Test) (a b : Expr) → type_of columns (expr.Cmp t a b) ≡ of_both comparison (type_of columns a) (type_of columns b)
  unfolding type_of
  type_comparison t a b = ap (type_of columns) (sym (rolls-Cmp t a b)) ∙ fold-roll-Expr (Option ValueType) (level_type columns) (Expr-F.Cmp t a b)

  pub type_and : (a b : Expr) → type_of columns (expr.And a b) ≡ of_both (two_operands type.Truth) (type_of columns a) (type_of columns b)
  unfolding type_of
  type_and a b = ap (type_of columns) (sym (rolls-And a b)) ∙ fold-roll-Expr (Option ValueType) (level_type columns) (Expr-F.And a b)

  pub type_or : (a b : Expr) → type_of columns (expr.Or a b) ≡ of_both (two_operands type.Truth) (type_of columns a) (type_of columns b)
  unfolding type_of
  type_or a b = ap (type_of columns) (sym (rolls-Or a b)) ∙ fold-roll-Expr (Option ValueType) (level_type columns) (Expr-F.Or a b)

  pub type_null_test : (a : Expr) (is_not : Bool) → type_of columns (expr.IsNull a is_not) ≡ option_map (λ _. type.Truth) (type_of columns a)
  unfolding type_of
  type_null_test a is_not = ap (type_of columns) (sym (rolls-IsNull a is_not)) ∙ fold-roll-Expr (Option ValueType) (level_type columns) (Expr-F.IsNull a is_not)

-- ---- columns of a list

module _ (group : List ℕ) where
  pub within_literal : (c : Cell) → is_of_columns group (expr.Lit c) ≡ true
  unfolding is_of_columns
  within_literal c = ap (is_of_columns group) (sym (rolls-Lit c)) ∙ fold-roll-Expr Bool (level_of_columns group) (Expr-F.Lit c)

  pub within_column : (place : ℕ) → is_of_columns group (expr.Col place) ≡ is_allowed (Some group) place
  unfolding is_of_columns
  within_column place = ap (is_of_columns group) (sym (rolls-Col place)) ∙ fold-roll-Expr Bool (level_of_columns group) (Expr-F.Col place)

  pub within_neg : (a : Expr) → is_of_columns group (expr.Neg a) ≡ is_of_columns group a
  unfolding is_of_columns
  within_neg a = ap (is_of_columns group) (sym (rolls-Neg a)) ∙ fold-roll-Expr Bool (level_of_columns group) (Expr-F.Neg a)

  pub within_not : (a : Expr) → is_of_columns group (expr.Not a) ≡ is_of_columns group a
  unfolding is_of_columns
  within_not a = ap (is_of_columns group) (sym (rolls-Not a)) ∙ fold-roll-Expr Bool (level_of_columns group) (Expr-F.Not a)

  pub within_arithmetic : (o : Op) (a b : Expr) → is_of_columns group (expr.Arith o a b) ≡ (is_of_columns group a && is_of_columns group b)
  unfolding is_of_columns
  within_arithmetic o a b = ap (is_of_columns group) (sym (rolls-Arith o a b)) ∙ fold-roll-Expr Bool (level_of_columns group) (Expr-F.Arith o a b)

  pub within_comparison : (t : Test) (a b : Expr) → is_of_columns group (expr.Cmp t a b) ≡ (is_of_columns group a && is_of_columns group b)
  unfolding is_of_columns
  within_comparison t a b = ap (is_of_columns group) (sym (rolls-Cmp t a b)) ∙ fold-roll-Expr Bool (level_of_columns group) (Expr-F.Cmp t a b)

  pub within_and : (a b : Expr) → is_of_columns group (expr.And a b) ≡ (is_of_columns group a && is_of_columns group b)
  unfolding is_of_columns
  within_and a b = ap (is_of_columns group) (sym (rolls-And a b)) ∙ fold-roll-Expr Bool (level_of_columns group) (Expr-F.And a b)

  pub within_or : (a b : Expr) → is_of_columns group (expr.Or a b) ≡ (is_of_columns group a && is_of_columns group b)
  unfolding is_of_columns
  within_or a b = ap (is_of_columns group) (sym (rolls-Or a b)) ∙ fold-roll-Expr Bool (level_of_columns group) (Expr-F.Or a b)

  pub within_null_test : (a : Expr) (is_not : Bool) → is_of_columns group (expr.IsNull a is_not) ≡ is_of_columns group a
  unfolding is_of_columns
  within_null_test a is_not = ap (is_of_columns group) (sym (rolls-IsNull a is_not)) ∙ fold-roll-Expr Bool (level_of_columns group) (Expr-F.IsNull a is_not)
