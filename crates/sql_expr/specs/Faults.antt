-- Where an expression is at fault: at the first step, in the order of evaluation, that has no result.
use Rattle.std.specs.Prelude.{◌≡◌, ◌≢◌, ℤ, pos, neg_ℤ, Bool, true, false, List, Ok, FitsSigned}
use Rattle.std.specs.Int.{w64}
use Rattle.geo_base.specs.declared.cell.Cell.{Cell}
use Rattle.geo_base.specs.declared.cell.Cell.TheVariants as cell
use Rattle.sql_expr.specs.declared.expr.Expr.{Expr}
use Rattle.sql_expr.specs.declared.expr.Expr.TheVariants as expr
use Rattle.sql_expr.specs.declared.expr.Op.{Op}
use Rattle.sql_expr.specs.declared.expr.Op.TheVariants as op
use Rattle.sql_expr.specs.declared.expr.Test.{Test}
use Rattle.sql_expr.specs.declared.fault.EvalFault.{EvalFault}
use Rattle.sql_expr.specs.declared.fault.EvalFault.TheVariants as fault
use Rattle.sql_expr.specs.Values.{whole, value_of}

-- a whole number is no i64
abbrev pub Overflows : EvalFault → ℤ → Type 0
Overflows fault.Overflow z = ¬ FitsSigned w64 z
Overflows fault.DivideByZero z = ⊥
Overflows fault.NoMemory z = ⊥

-- an operator has no result on two numbers: it divides by 0, or else its whole number is no i64
abbrev pub HasNoResult : EvalFault → Op → ℤ → ℤ → Type 0
HasNoResult fault.Overflow o x y = ¬ ((o ≡ op.Divide) × (y ≡ pos 0)) × ¬ FitsSigned w64 (whole o x y)
HasNoResult fault.DivideByZero o x y = (o ≡ op.Divide) × (y ≡ pos 0)
HasNoResult fault.NoMemory o x y = ⊥

-- the operand that is evaluated first
pub data IsFirst (a : Expr) : Expr → Type 0 where
  first_of_neg : IsFirst a (expr.Neg a)
  first_of_not : IsFirst a (expr.Not a)
  first_of_arithmetic : (o : Op) (b : Expr) → IsFirst a (expr.Arith o a b)
  first_of_comparison : (t : Test) (b : Expr) → IsFirst a (expr.Cmp t a b)
  first_of_and : (b : Expr) → IsFirst a (expr.And a b)
  first_of_or : (b : Expr) → IsFirst a (expr.Or a b)
  first_of_null_test : (is_not : Bool) → IsFirst a (expr.IsNull a is_not)

-- the operand that is evaluated behind the first, which has this value
pub data IsSecond (x : Cell) (a b : Expr) : Expr → Type 0 where
  second_of_arithmetic : (o : Op) → IsSecond x a b (expr.Arith o a b)
  second_of_comparison : (t : Test) → IsSecond x a b (expr.Cmp t a b)
  second_of_and : x ≢ cell.Truth false → IsSecond x a b (expr.And a b)
  second_of_or : x ≢ cell.Truth true → IsSecond x a b (expr.Or a b)

-- the expression is at fault over the row: in the first operand; in the second, where the first has a value; or in its own step
pub data IsAtFault (row : List Cell) (f : EvalFault) : Expr → Type 0 where
  first : (a e : Expr) → IsFirst a e → IsAtFault row f a → IsAtFault row f e
  second : (a b e : Expr) (x : Cell) → value_of row a ≡ Ok x → IsSecond x a b e → IsAtFault row f b → IsAtFault row f e
  calculation : (o : Op) (a b : Expr) (x y : ℤ) → value_of row a ≡ Ok (cell.Int x) → value_of row b ≡ Ok (cell.Int y) →
      HasNoResult f o x y → IsAtFault row f (expr.Arith o a b)
  negation : (a : Expr) (x : ℤ) → value_of row a ≡ Ok (cell.Int x) → Overflows f (neg_ℤ x) → IsAtFault row f (expr.Neg a)
