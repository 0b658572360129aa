-- What the tests of a token say of it, and how tight it is.
use denote.Enum.Bare.{same_true}
use Rattle.std.proofs.Common.{◌≡◌, ◌≤◌, ℕ, Bool, true, false, List, [], ◌∷◌, Option, Some, None, refl, ap, subst, arith, rules, if◌then◌else◌}
use Rattle.sql_ast.specs.declared.ast.AstOp.{AstOp}
use Rattle.sql_ast.specs.declared.ast.AstOp.TheVariants as op
use Rattle.sql_lex.specs.declared.keyword.Keyword.{Keyword}
use Rattle.sql_lex.specs.declared.keyword.Keyword.TheVariants.{KAnd, KOr, KIs}
use Rattle.sql_lex.specs.contracts.keyword.Keyword as keyword
use Rattle.sql_lex.specs.declared.symbol.Symbol.{Symbol}
use Rattle.sql_lex.specs.declared.symbol.Symbol.TheVariants as symbol
use Rattle.sql_lex.specs.contracts.symbol.Symbol as symbols
use Rattle.sql_lex.specs.declared.token.TokenKind.{TokenKind}
use Rattle.sql_lex.specs.declared.token.TokenKind.TheVariants as kind
use Rattle.sql_parse.specs.Kinds.{operator_kind}
use Rattle.sql_parse.specs.inner.Kinds.{operator_of, is_keyword, is_symbol}
use Rattle.sql_parse.specs.inner.Levels.{level_of, left_of, test_level}
use Rattle.sql_parse.specs.Grammar.{begins_integer, GoesOn}

-- ---- operators

abbrev OperatorIs : TokenKind → Option AstOp → Type 0
OperatorIs token (Some operator) = token ≡ operator_kind operator
OperatorIs token None = Unit {0}

operator_is : (token : TokenKind) → OperatorIs token (operator_of token)
operator_is (kind.Keyword KOr) = refl
operator_is (kind.Keyword KAnd) = refl
operator_is (kind.Symbol symbol.Equal) = refl
operator_is (kind.Symbol symbol.Differ) = refl
operator_is (kind.Symbol symbol.Less) = refl
operator_is (kind.Symbol symbol.LessEqual) = refl
operator_is (kind.Symbol symbol.More) = refl
operator_is (kind.Symbol symbol.MoreEqual) = refl
operator_is (kind.Symbol symbol.Plus) = refl
operator_is (kind.Symbol symbol.Minus) = refl
operator_is (kind.Symbol symbol.Star) = refl
operator_is (kind.Symbol symbol.Slash) = refl
operator_is _ = tt

-- the operator that a token is has this token
pub operator_token : (token : TokenKind) (operator : AstOp) → operator_of token ≡ Some operator → token ≡ operator_kind operator
operator_token token operator is = subst (OperatorIs token) is (operator_is token)

pub kind_operator : (operator : AstOp) → operator_of (operator_kind operator) ≡ Some operator
kind_operator op.Or = refl
kind_operator op.And = refl
kind_operator op.Equal = refl
kind_operator op.Differ = refl
kind_operator op.Less = refl
kind_operator op.LessEqual = refl
kind_operator op.More = refl
kind_operator op.MoreEqual = refl
kind_operator op.Plus = refl
kind_operator op.Minus = refl
kind_operator op.Times = refl
kind_operator op.Divide = refl

-- ---- keywords and symbols

pub keyword_token : (k : Keyword) (token : TokenKind) → is_keyword k token ≡ true → token ≡ kind.Keyword k
keyword_token k (kind.Keyword other) is = ap kind.Keyword (same_true keyword.the_type (search rules) other k is)
keyword_token k (kind.Name n) is = cc
keyword_token k (kind.Int n) is = cc
keyword_token k (kind.Text t) is = cc
keyword_token k (kind.Symbol s) is = cc

pub symbol_token : (s : Symbol) (token : TokenKind) → is_symbol s token ≡ true → token ≡ kind.Symbol s
symbol_token s (kind.Symbol other) is = ap kind.Symbol (same_true symbols.the_type (search rules) other s is)
symbol_token s (kind.Name n) is = cc
symbol_token s (kind.Int n) is = cc
symbol_token s (kind.Text t) is = cc
symbol_token s (kind.Keyword k) is = cc

-- ---- levels

pub level_within : (operator : AstOp) → level_of operator ≤ 5
level_within op.Or = omega arith
level_within op.And = omega arith
level_within op.Equal = omega arith
level_within op.Differ = omega arith
level_within op.Less = omega arith
level_within op.LessEqual = omega arith
level_within op.More = omega arith
level_within op.MoreEqual = omega arith
level_within op.Plus = omega arith
level_within op.Minus = omega arith
level_within op.Times = omega arith
level_within op.Divide = omega arith

-- no operator is as tight as NOT
pub level_differs : (operator : AstOp) → level_of operator ≡ 2 → ⊥
level_differs op.Or is = omega arith
level_differs op.And is = omega arith
level_differs op.Equal is = omega arith
level_differs op.Differ is = omega arith
level_differs op.Less is = omega arith
level_differs op.LessEqual is = omega arith
level_differs op.More is = omega arith
level_differs op.MoreEqual is = omega arith
level_differs op.Plus is = omega arith
level_differs op.Minus is = omega arith
level_differs op.Times is = omega arith
level_differs op.Divide is = omega arith

pub left_tight : (operator : AstOp) → level_of operator ≤ left_of operator
left_tight op.Or = omega arith
left_tight op.And = omega arith
left_tight op.Equal = omega arith
left_tight op.Differ = omega arith
left_tight op.Less = omega arith
left_tight op.LessEqual = omega arith
left_tight op.More = omega arith
left_tight op.MoreEqual = omega arith
left_tight op.Plus = omega arith
left_tight op.Minus = omega arith
left_tight op.Times = omega arith
left_tight op.Divide = omega arith

-- ---- what is behind an operand

abbrev pub bound_by : Option AstOp → TokenKind → ℕ
bound_by (Some operator) token = level_of operator
bound_by None token = if is_keyword KIs token then test_level else 0

-- how tight what comes next is
abbrev pub bound_behind : List TokenKind → ℕ
bound_behind [] = 0
bound_behind (token ∷ more) = bound_by (operator_of token) token

abbrev pub begins_dot : List TokenKind → Bool
begins_dot [] = false
begins_dot (token ∷ more) = is_symbol symbol.Dot token

-- what comes next is no tighter, and no dot
abbrev pub Behind : ℕ → List TokenKind → Type 0
Behind level rest = (bound_behind rest ≤ level) × (begins_dot rest ≡ false)

pub behind_operator : (operator : AstOp) (more : List TokenKind) (level : ℕ) → level_of operator ≤ level → Behind level (operator_kind operator ∷ more)
behind_operator op.Or more level h = (h, refl)
behind_operator op.And more level h = (h, refl)
behind_operator op.Equal more level h = (h, refl)
behind_operator op.Differ more level h = (h, refl)
behind_operator op.Less more level h = (h, refl)
behind_operator op.LessEqual more level h = (h, refl)
behind_operator op.More more level h = (h, refl)
behind_operator op.MoreEqual more level h = (h, refl)
behind_operator op.Plus more level h = (h, refl)
behind_operator op.Minus more level h = (h, refl)
behind_operator op.Times more level h = (h, refl)
behind_operator op.Divide more level h = (h, refl)

-- ---- minus signs

-- what goes on alike after a minus sign goes on alike after each token
pub goes_on : (token : TokenKind) (rest more : List TokenKind) → begins_integer more ≡ begins_integer rest → GoesOn token rest more
goes_on (kind.Name n) rest more same = tt
goes_on (kind.Int n) rest more same = tt
goes_on (kind.Text t) rest more same = tt
goes_on (kind.Keyword k) rest more same = tt
goes_on (kind.Symbol symbol.Minus) rest more same = same
goes_on (kind.Symbol _) rest more same = tt
