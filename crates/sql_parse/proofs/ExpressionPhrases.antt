-- Phrases: trees in which each operand is as tight as the tables of levels want it. They are the trees that stand on the
-- grammar's lines.
use Rattle.std.proofs.Common.{◌≤◌, ℕ, arith}
use Rattle.sql_ast.specs.declared.ast.AstOp.TheVariants as op
use Rattle.sql_parse.specs.inner.Levels.{level_of, left_of, right_of, not_level, test_level, sum_level, sign_level, whole_level}
use Rattle.sql_parse.specs.Trees.{Tree, Int, Negative, Text, Truth, Null, Column, Paren, Minus, Infix, Not, IsNull, TakesSign}
use Rattle.sql_parse.specs.Lines.{Line, Expr, Both, Deny, Sum, Term, Sign, number_of, Stands}

-- how tight its parts hold together
abbrev pub level : Tree → ℕ
level (Infix operator a b) = level_of operator
level (Not a) = not_level
level (IsNull a is_not) = test_level
level (Minus a) = sign_level
level (Int n) = whole_level
level (Negative n) = whole_level
level (Text t) = whole_level
level (Truth t) = whole_level
level Null = whole_level
level (Column c) = whole_level
level (Paren a) = whole_level

-- each operand is as tight as the tables want it
abbrev pub IsPhrase : Tree → Type 0
IsPhrase (Infix operator a b) = IsPhrase a × IsPhrase b × (left_of operator ≤ level a) × (right_of operator ≤ level b)
IsPhrase (Not a) = IsPhrase a × (not_level ≤ level a)
IsPhrase (IsNull a is_not) = IsPhrase a × (sum_level ≤ level a)
IsPhrase (Minus a) = IsPhrase a × (sign_level ≤ level a) × TakesSign a
IsPhrase (Paren a) = IsPhrase a
IsPhrase _ = Unit {0}

-- ---- what stands on a line is a phrase as tight as the line

abbrev IsTight : Tree → Line → Type 0
IsTight t line = IsPhrase t × (number_of line ≤ level t)

-- an operator's own parts
both : {A B C D E : Type 0} → A × C → B × D → E → (A × B × C × D) × E
both a b e = ((a.0, b.0, a.1, b.1), e)

pub stands_tight : (t : Tree) (line : Line) → Stands t line → IsTight t line
stands_tight (Infix op.Or a b) line is = both (stands_tight a Expr is.1) (stands_tight b Both is.2) is.0
stands_tight (Infix op.And a b) line is = both (stands_tight a Both is.1) (stands_tight b Deny is.2) is.0
stands_tight (Infix op.Equal a b) line is = both (stands_tight a Sum is.1) (stands_tight b Sum is.2) is.0
stands_tight (Infix op.Differ a b) line is = both (stands_tight a Sum is.1) (stands_tight b Sum is.2) is.0
stands_tight (Infix op.Less a b) line is = both (stands_tight a Sum is.1) (stands_tight b Sum is.2) is.0
stands_tight (Infix op.LessEqual a b) line is = both (stands_tight a Sum is.1) (stands_tight b Sum is.2) is.0
stands_tight (Infix op.More a b) line is = both (stands_tight a Sum is.1) (stands_tight b Sum is.2) is.0
stands_tight (Infix op.MoreEqual a b) line is = both (stands_tight a Sum is.1) (stands_tight b Sum is.2) is.0
stands_tight (Infix op.Plus a b) line is = both (stands_tight a Sum is.1) (stands_tight b Term is.2) is.0
stands_tight (Infix op.Minus a b) line is = both (stands_tight a Sum is.1) (stands_tight b Term is.2) is.0
stands_tight (Infix op.Times a b) line is = both (stands_tight a Term is.1) (stands_tight b Sign is.2) is.0
stands_tight (Infix op.Divide a b) line is = both (stands_tight a Term is.1) (stands_tight b Sign is.2) is.0
stands_tight (Not a) line is = (stands_tight a Deny is.1, is.0)
stands_tight (IsNull a is_not) line is = (stands_tight a Sum is.1, is.0)
stands_tight (Negative n) line is = (tt, omega arith)
stands_tight (Minus a) line is = let tight = stands_tight a Sign is.1 in ((tight.0, tight.1, is.2), is.0)
stands_tight (Int n) line is = (tt, is)
stands_tight (Text text) line is = (tt, is)
stands_tight (Truth truth) line is = (tt, is)
stands_tight Null line is = (tt, is)
stands_tight (Column column) line is = (tt, is)
stands_tight (Paren a) line is = ((stands_tight a Expr is.1).0, is.0)

-- ---- a phrase as tight as a line stands there; no operand has to be tighter than the line of signs

pub tight_stands : (t : Tree) (line : Line) → number_of line ≤ sign_level → IsPhrase t → number_of line ≤ level t → Stands t line
tight_stands (Infix op.Or a b) line up is tight = (tight, tight_stands a Expr (omega arith) is.0 is.2, tight_stands b Both (omega arith) is.1 is.3)
tight_stands (Infix op.And a b) line up is tight = (tight, tight_stands a Both (omega arith) is.0 is.2, tight_stands b Deny (omega arith) is.1 is.3)
tight_stands (Infix op.Equal a b) line up is tight = (tight, tight_stands a Sum (omega arith) is.0 is.2, tight_stands b Sum (omega arith) is.1 is.3)
tight_stands (Infix op.Differ a b) line up is tight = (tight, tight_stands a Sum (omega arith) is.0 is.2, tight_stands b Sum (omega arith) is.1 is.3)
tight_stands (Infix op.Less a b) line up is tight = (tight, tight_stands a Sum (omega arith) is.0 is.2, tight_stands b Sum (omega arith) is.1 is.3)
tight_stands (Infix op.LessEqual a b) line up is tight = (tight, tight_stands a Sum (omega arith) is.0 is.2, tight_stands b Sum (omega arith) is.1 is.3)
tight_stands (Infix op.More a b) line up is tight = (tight, tight_stands a Sum (omega arith) is.0 is.2, tight_stands b Sum (omega arith) is.1 is.3)
tight_stands (Infix op.MoreEqual a b) line up is tight = (tight, tight_stands a Sum (omega arith) is.0 is.2, tight_stands b Sum (omega arith) is.1 is.3)
tight_stands (Infix op.Plus a b) line up is tight = (tight, tight_stands a Sum (omega arith) is.0 is.2, tight_stands b Term (omega arith) is.1 is.3)
tight_stands (Infix op.Minus a b) line up is tight = (tight, tight_stands a Sum (omega arith) is.0 is.2, tight_stands b Term (omega arith) is.1 is.3)
tight_stands (Infix op.Times a b) line up is tight = (tight, tight_stands a Term (omega arith) is.0 is.2, tight_stands b Sign (omega arith) is.1 is.3)
tight_stands (Infix op.Divide a b) line up is tight = (tight, tight_stands a Term (omega arith) is.0 is.2, tight_stands b Sign (omega arith) is.1 is.3)
tight_stands (Not a) line up is tight = (tight, tight_stands a Deny (omega arith) is.0 is.1)
tight_stands (IsNull a is_not) line up is tight = (tight, tight_stands a Sum (omega arith) is.0 is.1)
tight_stands (Negative n) line up is tight = up
tight_stands (Minus a) line up is tight = (tight, tight_stands a Sign (omega arith) is.0 is.1, is.2)
tight_stands (Int n) line up is tight = tight
tight_stands (Text text) line up is tight = tight
tight_stands (Truth truth) line up is tight = tight
tight_stands Null line up is tight = tight
tight_stands (Column column) line up is tight = tight
tight_stands (Paren a) line up is tight = (tight, tight_stands a Expr (omega arith) is (omega arith))

-- ---- whole expressions

pub stands_phrase : (t : Tree) → Stands t Expr → IsPhrase t
stands_phrase t is = (stands_tight t Expr is).0

pub phrase_stands : (t : Tree) → IsPhrase t → Stands t Expr
phrase_stands t is = tight_stands t Expr (omega arith) is (omega arith)
