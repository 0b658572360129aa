-- The lines of the grammar of expressions, and which expressions stand on which line:
--   expr   both { OR both }
--   both   deny { AND deny }
--   deny   NOT deny, or test
--   test   sum, or sum compared with sum, or sum IS [ NOT ] NULL
--   sum    term { + or - term }
--   term   sign { * or / sign }
--   sign   minus and an integer, minus and sign, or prime
--   prime  a literal, a column, or an expression in parentheses
-- Chains group to the left: so what is left of the last operator of a chain stands on the chain's own line.
use Rattle.std.specs.Prelude.{◌≤◌, ℕ}
use Rattle.sql_ast.specs.declared.ast.AstOp.TheVariants as op
use Rattle.sql_parse.specs.Trees.{Tree, Int, Negative, Text, Truth, Null, Column, Paren, Minus, Infix, Not, IsNull, TakesSign}

-- the lines of the grammar of expressions, one for each level of binding
pub data Line : Type 0 where
  Expr : Line
  Both : Line
  Deny : Line
  Test : Line
  Sum : Line
  Term : Line
  Sign : Line
  Prime : Line

-- the lines in their order, from the loosest to the tightest
abbrev pub number_of : Line → ℕ
number_of Expr = 0
number_of Both = 1
number_of Deny = 2
number_of Test = 3
number_of Sum = 4
number_of Term = 5
number_of Sign = 6
number_of Prime = 7

-- what is of the second line may stand where the first is wanted: it is that line or a tighter one
abbrev pub Within : Line → Line → Type 0
Within wanted own = number_of wanted ≤ number_of own

-- the expression may stand where the line is wanted
abbrev pub Stands : Tree → Line → Type 0
Stands (Infix op.Or a b) line = Within line Expr × Stands a Expr × Stands b Both
Stands (Infix op.And a b) line = Within line Both × Stands a Both × Stands b Deny
Stands (Not a) line = Within line Deny × Stands a Deny
Stands (Infix op.Equal a b) line = Within line Test × Stands a Sum × Stands b Sum
Stands (Infix op.Differ a b) line = Within line Test × Stands a Sum × Stands b Sum
Stands (Infix op.Less a b) line = Within line Test × Stands a Sum × Stands b Sum
Stands (Infix op.LessEqual a b) line = Within line Test × Stands a Sum × Stands b Sum
Stands (Infix op.More a b) line = Within line Test × Stands a Sum × Stands b Sum
Stands (Infix op.MoreEqual a b) line = Within line Test × Stands a Sum × Stands b Sum
Stands (IsNull a is_not) line = Within line Test × Stands a Sum
Stands (Infix op.Plus a b) line = Within line Sum × Stands a Sum × Stands b Term
Stands (Infix op.Minus a b) line = Within line Sum × Stands a Sum × Stands b Term
Stands (Infix op.Times a b) line = Within line Term × Stands a Term × Stands b Sign
Stands (Infix op.Divide a b) line = Within line Term × Stands a Term × Stands b Sign
Stands (Negative n) line = Within line Sign
Stands (Minus a) line = Within line Sign × Stands a Sign × TakesSign a
Stands (Int n) line = Within line Prime
Stands (Text text) line = Within line Prime
Stands (Truth truth) line = Within line Prime
Stands Null line = Within line Prime
Stands (Column column) line = Within line Prime
Stands (Paren a) line = Within line Prime × Stands a Expr
