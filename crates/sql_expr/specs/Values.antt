-- The value of an expression over a row, which is a cell, or its fault, which is the first in the order of evaluation:
-- from left to right, operands before their operator. Each expression has one of the two, also where an operator has an
-- operand that it doesn't take: arithmetic, minus and NOT give NULL for one, a comparison goes by the order of all cells,
-- and AND and OR hold what is no truth for not known. No expression that has a type asks for that over a row whose cells
-- are of their columns' types. Want of memory is no expression's fault.
use Rattle.std.specs.Prelude.{zero, ◌^◌, ℤ, pos, negsuc, ◌+ℤ◌, ◌-ℤ◌, ◌*ℤ◌, neg_ℤ, int_div, Bool, true, false, not, ◌||◌, nat_lt, if◌then◌else◌, List, Result, Ok, Err, slice_index_or}
use Rattle.std.specs.Ordering.{is_eq, is_lt, is_gt}
use Rattle.std.specs.declared.cmp.Ordering.{Ordering}
use Rattle.geo_base.specs.Cells.{is_null}
use Rattle.geo_base.specs.Order.{cell_cmp}
use Rattle.geo_base.specs.Results.{◌>>=◌}
use Rattle.geo_base.specs.declared.cell.Cell.{Cell}
use Rattle.geo_base.specs.declared.cell.Cell.TheVariants as cell
use Rattle.sql_expr.specs.declared.expr.Expr.{Expr}
use Rattle.sql_expr.specs.declared.expr.Expr.TheOpen.{Expr-F}
use Rattle.sql_expr.specs.declared.expr.Expr.TheFolds.{fold-Expr}
use Rattle.sql_expr.specs.declared.expr.Op.{Op}
use Rattle.sql_expr.specs.declared.expr.Op.TheVariants as op
use Rattle.sql_expr.specs.declared.expr.Test.{Test}
use Rattle.sql_expr.specs.declared.expr.Test.TheVariants as test
use Rattle.sql_expr.specs.declared.fault.EvalFault.{EvalFault}
use Rattle.sql_expr.specs.declared.fault.EvalFault.TheVariants as fault
use Rattle.sql_expr.specs.Kleene.{not_3, and_3, or_3, truth_in, truth_cell}

-- what an expression has over a row: its value, or its fault
abbrev pub ValueOrFault : Type 0
ValueOrFault = Result Cell EvalFault

-- ---- numbers

-- the number is an i64
unfoldable pub is_i64 : ℤ → Bool
is_i64 (pos n) = nat_lt n (2 ^ 63)
is_i64 (negsuc n) = nat_lt n (2 ^ 63)

-- a whole number as a cell, if it is an i64
abbrev pub number : ℤ → ValueOrFault
number z = if is_i64 z then Ok (cell.Int z) else Err fault.Overflow

-- the whole number that an operator gives; a quotient is rounded toward zero
abbrev pub whole : Op → ℤ → ℤ → ℤ
whole op.Plus x y = x +ℤ y
whole op.Minus x y = x -ℤ y
whole op.Times x y = x *ℤ y
whole op.Divide x y = int_div x y

-- the operator divides by 0
abbrev pub divides_by_zero : Op → ℤ → Bool
divides_by_zero op.Divide (pos zero) = true
divides_by_zero _ _ = false

-- what an operator makes of two whole numbers
unfoldable pub calculated : Op → ℤ → ℤ → ValueOrFault
calculated o x y = if divides_by_zero o y then Err fault.DivideByZero else number (whole o x y)

-- the same of two cells: NULL, where one of them is no number
abbrev pub arithmetic : Op → Cell → Cell → ValueOrFault
arithmetic o (cell.Int x) (cell.Int y) = calculated o x y
arithmetic o _ _ = Ok cell.Null

-- a number with its sign turned, and NULL for what is no number
abbrev pub negated : Cell → ValueOrFault
negated (cell.Int x) = number (neg_ℤ x)
negated _ = Ok cell.Null

-- ---- comparisons

-- the test holds of two cells that are ordered so
abbrev pub holds : Test → Ordering → Bool
holds test.Equal o = is_eq o
holds test.Differ o = not (is_eq o)
holds test.Less o = is_lt o
holds test.LessEqual o = not (is_gt o)
holds test.More o = is_gt o
holds test.MoreEqual o = not (is_lt o)

-- whether the test holds of two cells, by their order; NULL, where one of them is
abbrev pub compared : Test → Cell → Cell → Cell
compared t a b = if is_null a || is_null b then cell.Null else cell.Truth (holds t (cell_cmp a b))

-- whether the cell is NULL, or with the flag, whether it isn't
abbrev pub null_test : Bool → Cell → Cell
null_test is_not a = cell.Truth (if is_not then not (is_null a) else is_null a)

-- ---- truths

-- AND: where the left side is false the right one isn't looked at
abbrev pub both : ValueOrFault → ValueOrFault → ValueOrFault
both (Err e) b = Err e
both (Ok (cell.Truth false)) b = Ok (cell.Truth false)
both (Ok a) b = b >>= λ c. Ok (truth_cell (and_3 (truth_in a) (truth_in c)))

-- OR: where the left side is true the right one isn't looked at
abbrev pub either : ValueOrFault → ValueOrFault → ValueOrFault
either (Err e) b = Err e
either (Ok (cell.Truth true)) b = Ok (cell.Truth true)
either (Ok a) b = b >>= λ c. Ok (truth_cell (or_3 (truth_in a) (truth_in c)))

-- ---- expressions

-- one level of an expression over a row, with the values or faults of its operands in their places
abbrev pub level_value : List Cell → Expr-F ValueOrFault → ValueOrFault
level_value row (Expr-F.Lit literal) = Ok literal
level_value row (Expr-F.Col place) = Ok (slice_index_or row place cell.Null)
level_value row (Expr-F.Neg a) = a >>= negated
level_value row (Expr-F.Not a) = a >>= λ x. Ok (truth_cell (not_3 (truth_in x)))
level_value row (Expr-F.Arith o a b) = a >>= λ x. b >>= λ y. arithmetic o x y
level_value row (Expr-F.Cmp t a b) = a >>= λ x. b >>= λ y. Ok (compared t x y)
level_value row (Expr-F.And a b) = both a b
level_value row (Expr-F.Or a b) = either a b
level_value row (Expr-F.IsNull a is_not) = a >>= λ x. Ok (null_test is_not x)

-- the value of an expression over a row, or its fault; the row is the cells of the left table, and then those of the right one
unfoldable pub value_of : List Cell → Expr → ValueOrFault
value_of row = fold-Expr ValueOrFault (level_value row)
