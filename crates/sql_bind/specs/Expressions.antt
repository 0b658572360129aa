-- Bound expressions and their types: the left part comes first, then the right one, and then the operator's type.
use Rattle.std.specs.Prelude.{Bool, Option, Some, None, Result, Ok, Err}
use Rattle.geo_base.specs.declared.cell.Cell.{Cell}
use Rattle.geo_base.specs.Results.{◌>>=◌}
use Rattle.geo_schema.specs.Schemas.{Tables}
use Rattle.sql_ast.specs.declared.ast.Ast.{Ast}
use Rattle.sql_ast.specs.declared.ast.Ast.TheOpen.{Ast-F}
use Rattle.sql_ast.specs.declared.ast.Ast.TheFolds.{fold-Ast}
use Rattle.sql_ast.specs.declared.ast.AstOp.{AstOp}
use Rattle.sql_ast.specs.declared.ast.AstOp.TheVariants as written
use Rattle.sql_ast.specs.declared.ast.ColRef.{ColRef}
use Rattle.sql_expr.specs.declared.expr.Expr.{Expr}
use Rattle.sql_expr.specs.declared.expr.Expr.TheVariants as expr
use Rattle.sql_expr.specs.declared.expr.Op.{Op}
use Rattle.sql_expr.specs.declared.expr.Op.TheVariants as op
use Rattle.sql_expr.specs.declared.expr.Test.{Test}
use Rattle.sql_expr.specs.declared.expr.Test.TheVariants as test
use Rattle.sql_expr.specs.declared.value_type.ValueType.{ValueType}
use Rattle.sql_expr.specs.declared.value_type.ValueType.TheVariants as type
use Rattle.sql_expr.specs.Types.{literal_type, takes, one_operand, two_operands, comparison}
use Rattle.sql_bind.specs.declared.expressions.Typed.{Typed}
use Rattle.sql_bind.specs.declared.fault.BindFault.{BindFault}
use Rattle.sql_bind.specs.declared.fault.BindFault.TheVariants as fault
use Rattle.sql_bind.specs.declared.scope.Scope.{Scope}
use Rattle.sql_bind.specs.Names.{column_meant}
use Rattle.sql_bind.specs.Steps.{◌>>◌, refused_unless}

-- what binding an expression gives
abbrev pub TypedOrFault : Type 0
TypedOrFault = Result Typed BindFault

-- an expression of a type
abbrev pub typed : Expr → ValueType → Typed
typed e t = record { expr = e; value_type = t }

-- an expression of the type that its operator gives, which has to take its operands
abbrev pub operator : Option ValueType → Expr → TypedOrFault
operator None e = Err fault.TypeClash
operator (Some t) e = Ok (typed e t)

-- arithmetic on two bound operands
abbrev pub calculation : Op → Typed → Typed → TypedOrFault
calculation o a b = operator (two_operands type.Int a.value_type b.value_type) (expr.Arith o a.expr b.expr)

-- a comparison of two
abbrev pub compared : Test → Typed → Typed → TypedOrFault
compared t a b = operator (comparison a.value_type b.value_type) (expr.Cmp t a.expr b.expr)

-- AND or OR of two
abbrev pub connected : (Expr → Expr → Expr) → Typed → Typed → TypedOrFault
connected connect a b = operator (two_operands type.Truth a.value_type b.value_type) (connect a.expr b.expr)

-- an operator between two bound operands
abbrev pub joined : AstOp → Typed → Typed → TypedOrFault
joined written.Plus a b = calculation op.Plus a b
joined written.Minus a b = calculation op.Minus a b
joined written.Times a b = calculation op.Times a b
joined written.Divide a b = calculation op.Divide a b
joined written.Equal a b = compared test.Equal a b
joined written.Differ a b = compared test.Differ a b
joined written.Less a b = compared test.Less a b
joined written.LessEqual a b = compared test.LessEqual a b
joined written.More a b = compared test.More a b
joined written.MoreEqual a b = compared test.MoreEqual a b
joined written.And a b = connected expr.And a b
joined written.Or a b = connected expr.Or a b

-- a literal
abbrev pub literal : Cell → TypedOrFault
literal cell = Ok (typed (expr.Lit cell) (literal_type cell))

-- a column
abbrev pub column : Tables → Scope → ColRef → TypedOrFault
column tables scope name = do
  found ← column_meant tables scope name
  Ok (typed (expr.Col found.place) found.value_type)

-- a minus before a bound operand
abbrev pub negated : Typed → TypedOrFault
negated a = operator (one_operand type.Int a.value_type) (expr.Neg a.expr)

-- NOT of one
abbrev pub denied : Typed → TypedOrFault
denied a = operator (one_operand type.Truth a.value_type) (expr.Not a.expr)

-- a test whether one is NULL, or is not
abbrev pub null_test : Typed → Bool → Typed
null_test a is_not = typed (expr.IsNull a.expr is_not) type.Truth

-- one level of an expression, with what its operands give in their places
abbrev pub level : Tables → Scope → Ast-F TypedOrFault → TypedOrFault
level tables scope (Ast-F.Lit cell) = literal cell
level tables scope (Ast-F.Column name) = column tables scope name
level tables scope (Ast-F.Neg a) = do
  x ← a
  negated x
level tables scope (Ast-F.Not a) = do
  x ← a
  denied x
level tables scope (Ast-F.Binary o a b) = do
  x ← a
  y ← b
  joined o x y
level tables scope (Ast-F.IsNull a is_not) = do
  x ← a
  Ok (null_test x is_not)

-- an expression
unfoldable pub expression_of : Tables → Scope → Ast → TypedOrFault
expression_of tables scope = fold-Ast TypedOrFault (level tables scope)

-- an expression that has to be of the type, or Any
unfoldable pub taken_by : ValueType → Tables → Scope → Ast → Result Expr BindFault
taken_by wanted tables scope value = do
  bound ← expression_of tables scope value
  refused_unless (takes wanted bound.value_type) fault.TypeClash
  Ok bound.expr

-- an expression of any type
unfoldable pub of_any_type : Tables → Scope → Ast → Result Expr BindFault
of_any_type tables scope value = do
  bound ← expression_of tables scope value
  Ok bound.expr
