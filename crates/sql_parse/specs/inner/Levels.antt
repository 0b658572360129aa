-- Inner: how tight the parts of an expression hold together, as tables for the reader of expressions. A level is the number
-- of a line of the grammar (Lines), from the loosest to the tightest. What the grammar itself says doesn't use these tables.
--   0  both { OR both }       1  deny { AND deny }     2  NOT deny       3  sum compared with sum, or tested for NULL
--   4  term { + - term }      5  sign { * / sign }     6  - sign         7  an operand without an operator around it
use Rattle.std.specs.Prelude.{ℕ, ◌+◌}
use Rattle.sql_ast.specs.declared.ast.AstOp.{AstOp}
use Rattle.sql_ast.specs.declared.ast.AstOp.TheVariants.{Plus, Minus, Times, Divide, Equal, Differ, Less, LessEqual, More, MoreEqual, And, Or}

-- the line that the operator belongs to
abbrev pub level_of : AstOp → ℕ
level_of Or = 0
level_of And = 1
level_of Equal = 3
level_of Differ = 3
level_of Less = 3
level_of LessEqual = 3
level_of More = 3
level_of MoreEqual = 3
level_of Plus = 4
level_of Minus = 4
level_of Times = 5
level_of Divide = 5

-- How tight the left operand is at least: chains group to the left, and a comparison takes no comparison.
abbrev pub left_of : AstOp → ℕ
left_of Or = 0
left_of And = 1
left_of Equal = 4
left_of Differ = 4
left_of Less = 4
left_of LessEqual = 4
left_of More = 4
left_of MoreEqual = 4
left_of Plus = 4
left_of Minus = 4
left_of Times = 5
left_of Divide = 5

-- how tight the right operand is at least
abbrev pub right_of : AstOp → ℕ
right_of operator = level_of operator + 1

abbrev pub not_level : ℕ
not_level = 2

abbrev pub test_level : ℕ
test_level = 3

abbrev pub sum_level : ℕ
sum_level = 4

abbrev pub sign_level : ℕ
sign_level = 6

abbrev pub whole_level : ℕ
whole_level = 7
