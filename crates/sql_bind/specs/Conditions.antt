-- Conditions, which are lists of conjuncts.
use Rattle.std.specs.Prelude.{Option, Some, None, List, [], ◌∷◌, ◌++◌, Result, Ok}
use Rattle.geo_base.specs.Results.{◌>>=◌}
use Rattle.geo_schema.specs.Schemas.{Tables}
use Rattle.sql_ast.specs.declared.ast.Ast.{Ast}
use Rattle.sql_expr.specs.declared.expr.Expr.{Expr}
use Rattle.sql_expr.specs.declared.expr.Expr.TheOpen.{Expr-F}
use Rattle.sql_expr.specs.declared.expr.Expr.TheFolds.{map-Expr, para-Expr}
use Rattle.sql_expr.specs.declared.expr.Expr.TheViews.{roll-Expr}
use Rattle.sql_expr.specs.declared.value_type.ValueType.TheVariants as type
use Rattle.sql_bind.specs.declared.fault.BindFault.{BindFault}
use Rattle.sql_bind.specs.declared.scope.Scope.{Scope}
use Rattle.sql_bind.specs.Expressions.{taken_by}

-- one level of an expression, with its operands and their conjuncts: an AND has those of its sides, and every
-- other expression is one itself
abbrev pub split : Expr-F (Expr × List Expr) → List Expr
split (Expr-F.And a b) = a.1 ++ b.1
split z = roll-Expr (map-Expr (Expr × List Expr) Expr (λ x. x.0) z) ∷ []

-- the conjuncts of an expression, from left to right
unfoldable pub conjuncts : Expr → List Expr
conjuncts = para-Expr (List Expr) split

-- the conjuncts of a condition, which has to be a truth
unfoldable pub condition_of : Tables → Scope → Ast → Result (List Expr) BindFault
condition_of tables scope test = do
  whole ← taken_by type.Truth tables scope test
  Ok (conjuncts whole)

-- the conjuncts of WHERE, and none where it is missing
abbrev pub filter_of : Tables → Scope → Option Ast → Result (List Expr) BindFault
filter_of tables scope None = Ok []
filter_of tables scope (Some test) = condition_of tables scope test
