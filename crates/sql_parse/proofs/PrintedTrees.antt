-- The tree that an expression's canonical text spells: it means the same, is a phrase, and is no deeper.
use Rattle.std.proofs.Common.{◌≡◌, ◌≤◌, ◌+◌, ℕ, zero, suc, List, [], ◌∷◌, ◌++◌, refl, ap, ◌∙◌, arith}
use Rattle.sql_ast.specs.declared.ast.AstOp.{AstOp}
use Rattle.sql_ast.specs.declared.ast.AstOp.TheVariants as op
use Rattle.sql_ast.specs.declared.ast.Ast.TheVariants as ast
use Rattle.sql_lex.specs.declared.keyword.Keyword.TheVariants.{KIs}
use Rattle.sql_lex.specs.declared.symbol.Symbol.TheVariants.{Close}
use Rattle.sql_lex.specs.declared.token.TokenKind.{TokenKind}
use Rattle.sql_lex.specs.declared.token.TokenKind.TheVariants as kind
use Rattle.sql_parse.specs.Kinds.{operator_kind}
use Rattle.sql_parse.specs.inner.Levels.{left_of, right_of, sign_level}
use Rattle.sql_parse.specs.Trees.{Mark, Operator, mark, Tree, Int, Negative, Text, Truth, Null, Column, Paren, Minus, Infix, Not, IsNull, column_kinds, marks, value, inside, null_kinds}
use Rattle.sql_parse.specs.Grammar.{since_operators, since_openings}
use Rattle.sql_parse.proofs.ExpressionPhrases.{level, IsPhrase}
use Rattle.sql_parse.proofs.ExpressionLaws.{Fits}

-- each operator in one pair of parentheses, and no others
abbrev pub canonical : Tree → Tree
canonical (Int n) = Int n
canonical (Negative zero) = Int zero
canonical (Negative (suc n)) = Negative (suc n)
canonical (Text text) = Text text
canonical (Truth truth) = Truth truth
canonical Null = Null
canonical (Column column) = Column column
canonical (Paren a) = canonical a
canonical (Minus a) = Minus (Paren (canonical a))
canonical (Infix operator a b) = Paren (Infix operator (canonical a) (canonical b))
canonical (Not a) = Paren (Not (canonical a))
canonical (IsNull a is_not) = Paren (IsNull (canonical a) is_not)

-- ---- it means the same

pub same_value : (t : Tree) → value (canonical t) ≡ value t
same_value (Int n) = refl
same_value (Negative zero) = refl
same_value (Negative (suc n)) = refl
same_value (Text text) = refl
same_value (Truth truth) = refl
same_value Null = refl
same_value (Column column) = refl
same_value (Paren a) = same_value a
same_value (Minus a) = ap ast.Neg (same_value a)
same_value (Infix operator a b) = λ i. ast.Binary operator (same_value a i) (same_value b i)
same_value (Not a) = ap ast.Not (same_value a)
same_value (IsNull a is_not) = ap (λ v. ast.IsNull v is_not) (same_value a)

-- ---- it is a phrase

tight : (t : Tree) → sign_level ≤ level (canonical t)
tight (Int n) = omega arith
tight (Negative zero) = omega arith
tight (Negative (suc n)) = omega arith
tight (Text text) = omega arith
tight (Truth truth) = omega arith
tight Null = omega arith
tight (Column column) = omega arith
tight (Paren a) = tight a
tight (Minus a) = omega arith
tight (Infix operator a b) = omega arith
tight (Not a) = omega arith
tight (IsNull a is_not) = omega arith

fit : (operator : AstOp) (m n : ℕ) → 6 ≤ m → 6 ≤ n → (left_of operator ≤ m) × (right_of operator ≤ n)
fit op.Plus m n a b = (omega arith, omega arith)
fit op.Minus m n a b = (omega arith, omega arith)
fit op.Times m n a b = (omega arith, omega arith)
fit op.Divide m n a b = (omega arith, omega arith)
fit op.Equal m n a b = (omega arith, omega arith)
fit op.Differ m n a b = (omega arith, omega arith)
fit op.Less m n a b = (omega arith, omega arith)
fit op.LessEqual m n a b = (omega arith, omega arith)
fit op.More m n a b = (omega arith, omega arith)
fit op.MoreEqual m n a b = (omega arith, omega arith)
fit op.And m n a b = (omega arith, omega arith)
fit op.Or m n a b = (omega arith, omega arith)

pub phrase : (t : Tree) → IsPhrase (canonical t)
phrase (Int n) = tt
phrase (Negative zero) = tt
phrase (Negative (suc n)) = tt
phrase (Text text) = tt
phrase (Truth truth) = tt
phrase Null = tt
phrase (Column column) = tt
phrase (Paren a) = phrase a
phrase (Minus a) = (phrase a, omega arith, tt)
phrase (Infix operator a b) =
    let fits = fit operator (level (canonical a)) (level (canonical b)) (tight a) (tight b) in
    (phrase a, phrase b, fits.0, fits.1)
phrase (Not a) = (phrase a, omega (arith, tight a))
phrase (IsNull a is_not) = (phrase a, omega (arith, tight a))

-- ---- it is no deeper

abbrev operators : Tree → ℕ
operators (Int n) = 0
operators (Negative n) = 0
operators (Text text) = 0
operators (Truth truth) = 0
operators Null = 0
operators (Column column) = 0
operators (Paren a) = operators a
operators (Minus a) = operators a + 1
operators (Infix operator a b) = operators a + 1 + operators b
operators (Not a) = operators a + 1
operators (IsNull a is_not) = operators a + 1

operators-append : (ms ns : List Mark) (n : ℕ) → since_operators n (ms ++ ns) ≡ since_operators (since_operators n ms) ns
operators-append [] ns n = refl
operators-append (m ∷ ms) ns n = operators-append ms ns _

openings-append : (ms ns : List Mark) (n : ℕ) → since_openings n (ms ++ ns) ≡ since_openings (since_openings n ms) ns
openings-append [] ns n = refl
openings-append (m ∷ ms) ns n = openings-append ms ns _

operators-inside : (ks : List TokenKind) (n : ℕ) → since_operators n (inside ks) ≡ n
operators-inside [] n = refl
operators-inside (k ∷ ks) n = operators-inside ks n

openings-inside : (ks : List TokenKind) (n : ℕ) → since_openings n (inside ks) ≡ n
openings-inside [] n = refl
openings-inside (k ∷ ks) n = openings-inside ks n

-- the marks inside a pair of parentheses that is closed
abbrev up_to_close : List Mark → List Mark
up_to_close ms = ms ++ inside (kind.Symbol Close ∷ [])

operators-closed : (ms : List Mark) (n : ℕ) → since_operators n (up_to_close ms) ≡ since_operators n ms
operators-closed ms n = operators-append ms (inside (kind.Symbol Close ∷ [])) n

openings-closed : (ms : List Mark) (n : ℕ) → since_openings n (up_to_close ms) ≡ since_openings n ms
openings-closed ms n = openings-append ms (inside (kind.Symbol Close ∷ [])) n

-- operands with an operator between them
operators-infix : (ms : List Mark) (k : TokenKind) (ns : List Mark) (n : ℕ) → since_operators n (ms ++ mark Operator k ∷ ns) ≡ since_operators (since_operators n ms + 1) ns
operators-infix ms k ns n = operators-append ms (mark Operator k ∷ ns) n

openings-infix : (ms : List Mark) (k : TokenKind) (ns : List Mark) (n : ℕ) → since_openings n (ms ++ mark Operator k ∷ ns) ≡ since_openings (since_openings n ms) ns
openings-infix ms k ns n = openings-append ms (mark Operator k ∷ ns) n

none : (n : ℕ) → n ≡ n + 0
none n = omega arith

counted : (t : Tree) (n : ℕ) → since_operators n (marks t) ≡ n + operators t
counted (Int i) n = none n
counted (Negative i) n = none n
counted (Text text) n = none n
counted (Truth truth) n = none n
counted Null n = none n
counted (Column column) n = operators-inside (column_kinds column) n ∙ none n
counted (Paren a) n = operators-closed (marks a) n ∙ counted a n
counted (Minus a) n = omega (arith, counted a (n + 1))
counted (Infix operator a b) n =
    operators-infix (marks a) (operator_kind operator) (marks b) n ∙ omega (arith, counted a n, counted b (since_operators n (marks a) + 1))
counted (Not a) n = omega (arith, counted a (n + 1))
counted (IsNull a is_not) n =
    operators-infix (marks a) (kind.Keyword KIs) (inside (null_kinds is_not)) n ∙ operators-inside (null_kinds is_not) (since_operators n (marks a) + 1) ∙ omega (arith, counted a n)

canonical_operators : (t : Tree) (n : ℕ) → since_operators n (marks (canonical t)) ≡ n + operators t
canonical_operators (Int i) n = none n
canonical_operators (Negative zero) n = none n
canonical_operators (Negative (suc i)) n = none n
canonical_operators (Text text) n = none n
canonical_operators (Truth truth) n = none n
canonical_operators Null n = none n
canonical_operators (Column column) n = operators-inside (column_kinds column) n ∙ none n
canonical_operators (Paren a) n = canonical_operators a n
canonical_operators (Minus a) n = operators-closed (marks (canonical a)) (n + 1) ∙ omega (arith, canonical_operators a (n + 1))
canonical_operators (Infix operator a b) n =
    operators-closed (marks (canonical a) ++ mark Operator (operator_kind operator) ∷ marks (canonical b)) n
    ∙ operators-infix (marks (canonical a)) (operator_kind operator) (marks (canonical b)) n
    ∙ omega (arith, canonical_operators a n, canonical_operators b (since_operators n (marks (canonical a)) + 1))
canonical_operators (Not a) n = operators-closed (marks (canonical a)) (n + 1) ∙ omega (arith, canonical_operators a (n + 1))
canonical_operators (IsNull a is_not) n =
    operators-closed (marks (canonical a) ++ mark Operator (kind.Keyword KIs) ∷ inside (null_kinds is_not)) n
    ∙ operators-infix (marks (canonical a)) (kind.Keyword KIs) (inside (null_kinds is_not)) n
    ∙ operators-inside (null_kinds is_not) (since_operators n (marks (canonical a)) + 1)
    ∙ omega (arith, canonical_operators a n)

-- one parenthesis for each operator
canonical_openings : (t : Tree) (n : ℕ) → since_openings n (marks (canonical t)) ≡ n + operators t
canonical_openings (Int i) n = none n
canonical_openings (Negative zero) n = none n
canonical_openings (Negative (suc i)) n = none n
canonical_openings (Text text) n = none n
canonical_openings (Truth truth) n = none n
canonical_openings Null n = none n
canonical_openings (Column column) n = openings-inside (column_kinds column) n ∙ none n
canonical_openings (Paren a) n = canonical_openings a n
canonical_openings (Minus a) n = openings-closed (marks (canonical a)) (n + 1) ∙ omega (arith, canonical_openings a (n + 1))
canonical_openings (Infix operator a b) n =
    openings-closed (marks (canonical a) ++ mark Operator (operator_kind operator) ∷ marks (canonical b)) (n + 1)
    ∙ openings-infix (marks (canonical a)) (operator_kind operator) (marks (canonical b)) (n + 1)
    ∙ omega (arith, canonical_openings a (n + 1), canonical_openings b (since_openings (n + 1) (marks (canonical a))))
canonical_openings (Not a) n = openings-closed (marks (canonical a)) (n + 1) ∙ omega (arith, canonical_openings a (n + 1))
canonical_openings (IsNull a is_not) n =
    openings-closed (marks (canonical a) ++ mark Operator (kind.Keyword KIs) ∷ inside (null_kinds is_not)) (n + 1)
    ∙ openings-infix (marks (canonical a)) (kind.Keyword KIs) (inside (null_kinds is_not)) (n + 1)
    ∙ openings-inside (null_kinds is_not) (since_openings (n + 1) (marks (canonical a)))
    ∙ omega (arith, canonical_openings a (n + 1))

pub fits : (t : Tree) → Fits t → Fits (canonical t)
fits t within = (omega (arith, counted t 0, canonical_operators t 0, within.0), omega (arith, counted t 0, canonical_openings t 0, within.0))
