-- Expressions as they are written: what stands in an expression's tokens, with its parentheses.
use Rattle.std.specs.Prelude.{ℕ, Bool, true, false, List, [], ◌∷◌, ◌++◌, map, Option, Some, None, pos, neg_ℤ}
use Rattle.geo_base.specs.declared.cell.Cell.TheVariants as cell
use Rattle.sql_ast.specs.declared.ast.Ast.{Ast}
use Rattle.sql_ast.specs.declared.ast.Ast.TheVariants as ast
use Rattle.sql_ast.specs.declared.ast.AstOp.{AstOp}
use Rattle.sql_ast.specs.declared.ast.ColRef.{ColRef}
use Rattle.sql_lex.specs.declared.keyword.Keyword.TheVariants.{KNot, KIs, KNull, KTrue, KFalse}
use Rattle.sql_lex.specs.declared.symbol.Symbol.TheVariants as symbol
use Rattle.sql_lex.specs.declared.token.TokenKind.{TokenKind}
use Rattle.sql_lex.specs.declared.token.TokenKind.TheVariants as kind
use Rattle.sql_parse.specs.Kinds.{operator_kind}

-- what a token does in a statement
pub data Role : Type 0 where
  -- it is an operator of an expression
  Operator : Role
  -- it is an opening parenthesis of an expression
  Opening : Role
  -- it is another token of an expression
  Inside : Role
  -- it belongs to no expression
  Outside : Role

-- a token with what it does
pub record Mark : Type 0 where
  pub kind : TokenKind
  pub role : Role

-- a token that does this
abbrev pub mark : Role → TokenKind → Mark
mark role kind = record { kind = kind; role = role }

-- the tokens alone
abbrev pub kinds : List Mark → List TokenKind
kinds marks = map (λ m. m.kind) marks

-- an expression as it is written: what an operand is, and each pair of parentheses
pub data Tree : Type 0 where
  Int : ℕ → Tree
  -- a minus sign and an integer
  Negative : ℕ → Tree
  Text : List ℕ → Tree
  Truth : Bool → Tree
  Null : Tree
  Column : ColRef → Tree
  Paren : Tree → Tree
  -- a minus sign before anything else
  Minus : Tree → Tree
  Infix : AstOp → Tree → Tree → Tree
  Not : Tree → Tree
  -- IS NULL, and where the flag is true IS NOT NULL
  IsNull : Tree → Bool → Tree

-- a minus sign before this is an operator, and makes no negative literal of it
abbrev pub TakesSign : Tree → Type 0
TakesSign (Int n) = ⊥
TakesSign _ = Unit {0}

-- the tokens of a column
abbrev pub column_kinds : ColRef → List TokenKind
column_kinds column = qualifier column.table ++ kind.Name column.name ∷ []
  where
    qualifier : Option (List ℕ) → List TokenKind
    qualifier None = []
    qualifier (Some table) = kind.Name table ∷ kind.Symbol symbol.Dot ∷ []

-- tokens of an expression that are neither operators nor opening parentheses
abbrev pub inside : List TokenKind → List Mark
inside kinds = map (mark Inside) kinds

-- the keyword of a truth
abbrev pub truth_kind : Bool → TokenKind
truth_kind true = kind.Keyword KTrue
truth_kind false = kind.Keyword KFalse

-- what stands behind IS
abbrev pub null_kinds : Bool → List TokenKind
null_kinds false = kind.Keyword KNull ∷ []
null_kinds true = kind.Keyword KNot ∷ kind.Keyword KNull ∷ []

-- its tokens
abbrev pub marks : Tree → List Mark
marks (Int n) = inside (kind.Int (pos n) ∷ [])
marks (Negative n) = inside (kind.Symbol symbol.Minus ∷ kind.Int (pos n) ∷ [])
marks (Text text) = inside (kind.Text text ∷ [])
marks (Truth truth) = inside (truth_kind truth ∷ [])
marks Null = inside (kind.Keyword KNull ∷ [])
marks (Column column) = inside (column_kinds column)
marks (Paren a) = mark Opening (kind.Symbol symbol.Open) ∷ (marks a ++ inside (kind.Symbol symbol.Close ∷ []))
marks (Minus a) = mark Operator (kind.Symbol symbol.Minus) ∷ marks a
marks (Infix operator a b) = marks a ++ mark Operator (operator_kind operator) ∷ marks b
marks (Not a) = mark Operator (kind.Keyword KNot) ∷ marks a
marks (IsNull a is_not) = marks a ++ mark Operator (kind.Keyword KIs) ∷ inside (null_kinds is_not)

-- the expression that it is
abbrev pub value : Tree → Ast
value (Int n) = ast.Lit (cell.Int (pos n))
value (Negative n) = ast.Lit (cell.Int (neg_ℤ (pos n)))
value (Text text) = ast.Lit (cell.Text text)
value (Truth truth) = ast.Lit (cell.Truth truth)
value Null = ast.Lit cell.Null
value (Column column) = ast.Column column
value (Paren a) = value a
value (Minus a) = ast.Neg (value a)
value (Infix operator a b) = ast.Binary operator (value a) (value b)
value (Not a) = ast.Not (value a)
value (IsNull a is_not) = ast.IsNull (value a) is_not
