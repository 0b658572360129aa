-- What reading an expression answers, in the terms of expressions as they are written: the statements.
use Rattle.std.proofs.Common.{◌≡◌, ◌≤◌, ◌⊎◌, ℕ, ◌+◌, false, List, [], ◌∷◌, ◌++◌, length, None, Ok, Err}
use Rattle.sql_ast.specs.declared.ast.Ast.{Ast}
use Rattle.sql_lex.specs.declared.keyword.Keyword.TheVariants.{KIs}
use Rattle.sql_lex.specs.declared.symbol.Symbol.TheVariants as symbol
use Rattle.sql_lex.specs.declared.token.TokenKind.{TokenKind}
use Rattle.sql_parse.specs.declared.limits.TheConstants.{MAX_OPERATORS, MAX_OPENINGS}
use Rattle.sql_parse.specs.declared.stop.Stop.TheVariants.{Stuck, Deep, NoMemory}
use Rattle.sql_parse.specs.inner.Kinds.{operator_of, is_keyword, is_symbol}
use Rattle.sql_parse.specs.Trees.{Mark, Tree, marks, value, kinds}
use Rattle.sql_parse.specs.Grammar.{since_operators, since_openings, Exceeds, GoesOn}
use Rattle.sql_parse.specs.inner.Reading.{expression}
use Rattle.sql_parse.proofs.ExpressionPhrases.{IsPhrase}

-- ---- terms

-- no limit is exceeded
abbrev pub Fits : Tree → Type 0
Fits tree = (since_operators 0 (marks tree) ≤ MAX_OPERATORS) × (since_openings 0 (marks tree) ≤ MAX_OPENINGS)

-- No operator is next. (Behind a whole operand a dot ends the expression too.)
abbrev pub EndsOperand : List TokenKind → Type 0
EndsOperand [] = Unit {0}
EndsOperand (token ∷ more) = (operator_of token ≡ None) × (is_keyword KIs token ≡ false)

-- no expression goes on with what is next
abbrev pub Ends : List TokenKind → Type 0
Ends [] = Unit {0}
Ends (token ∷ more) = (operator_of token ≡ None) × (is_keyword KIs token ≡ false) × (is_symbol symbol.Dot token ≡ false)

-- none of the marks is one too many
abbrev pub NoneExceeds : List Mark → Type 0
NoneExceeds all = (front : List Mark) (here : Mark) (more : List Mark) → front ++ here ∷ more ≡ all → Exceeds front here.role → ⊥

-- the first of the marks that is one too many
pub record FirstExceeds (all : List Mark) : Type 0 where
  pub front : List Mark
  pub here : Mark
  pub more : List Mark
  pub whole : front ++ here ∷ more ≡ all
  pub exceeds : Exceeds front here.role
  pub first : NoneExceeds front

-- ---- what an answer says

-- The tokens begin with an expression of this value, and these are behind it. With others behind the first of those it is the same.
pub record IsRead (tokens : List TokenKind) (e : Ast) (rest : List TokenKind) : Type 0 where
  pub tree : Tree
  pub phrase : IsPhrase tree
  pub fits : Fits tree
  pub means : value tree ≡ e
  pub whole : kinds (marks tree) ++ rest ≡ tokens
  pub ends : EndsOperand rest
  pub locally : (token : TokenKind) (behind more : List TokenKind) → rest ≡ token ∷ behind → expression (kinds (marks tree) ++ token ∷ more) ≡ Ok (e, token ∷ more)

-- Some expression begins with the tokens up to the place where so many are left, and there none is read, whatever is behind that token.
pub record IsStuckAt (tokens : List TokenKind) (left : ℕ) : Type 0 where
  pub front : List Mark
  pub rest : List TokenKind
  pub tree : Tree
  pub more : List Mark
  pub phrase : IsPhrase tree
  pub shows : marks tree ≡ front ++ more
  pub whole : kinds front ++ rest ≡ tokens
  pub place : length rest ≡ left
  pub locally : (token : TokenKind) (behind others : List TokenKind) → rest ≡ token ∷ behind → expression (kinds front ++ token ∷ others) ≡ Err (Stuck (length (token ∷ others)))

-- The token at the place where so many are left is the first one too many, of an expression that begins with those up to it.
pub record IsDeepAt (tokens : List TokenKind) (left : ℕ) : Type 0 where
  pub front : List Mark
  pub here : Mark
  pub rest : List TokenKind
  pub tree : Tree
  pub more : List Mark
  pub phrase : IsPhrase tree
  pub shows : marks tree ≡ front ++ here ∷ more
  pub whole : kinds front ++ here.kind ∷ rest ≡ tokens
  pub place : length rest + 1 ≡ left
  -- whatever is behind the expression
  pub goes_on : (behind : List TokenKind) → GoesOn here.kind rest (kinds more ++ behind)
  pub exceeds : Exceeds front here.role
  pub first : NoneExceeds front

-- ---- the laws

abbrev pub ReadIsWritten : Type 0
ReadIsWritten = (tokens : List TokenKind) (e : Ast) (rest : List TokenKind) → expression tokens ≡ Ok (e, rest) → IsRead tokens e rest

abbrev pub WrittenIsRead : Type 0
WrittenIsRead = (tree : Tree) (rest : List TokenKind) → IsPhrase tree → Fits tree → Ends rest → expression (kinds (marks tree) ++ rest) ≡ Ok (value tree, rest)

-- Reading stops at the first mark that is one too many. What is behind that one in the tokens matters only behind a minus sign.
abbrev pub DeepIsRefused : Type 0
DeepIsRefused =
    (tree : Tree) (front : List Mark) (here : Mark) (more : List Mark) (rest behind : List TokenKind) → IsPhrase tree → marks tree ≡ front ++ here ∷ more →
    Exceeds front here.role → NoneExceeds front → GoesOn here.kind rest (kinds more ++ behind) →
    expression (kinds front ++ here.kind ∷ rest) ≡ Err (Deep (length rest + 1))

abbrev pub StuckIsAtEnd : Type 0
StuckIsAtEnd = (tokens : List TokenKind) (left : ℕ) → expression tokens ≡ Err (Stuck left) → IsStuckAt tokens left

abbrev pub RefusedIsDeep : Type 0
RefusedIsDeep = (tokens : List TokenKind) (left : ℕ) → expression tokens ≡ Err (Deep left) → IsDeepAt tokens left

abbrev pub NeverWithoutMemory : Type 0
NeverWithoutMemory = (tokens : List TokenKind) → expression tokens ≡ Err NoMemory → ⊥

-- a tree's marks are within the limits, or there is a first one that isn't
abbrev pub FitsOrExceeds : Type 0
FitsOrExceeds = (tree : Tree) → Fits tree ⊎ FirstExceeds (marks tree)

abbrev pub FittingNeverExceeds : Type 0
FittingNeverExceeds = (tree : Tree) → Fits tree → NoneExceeds (marks tree)

pub record ExpressionLaws : Type 0 where
  pub sound : ReadIsWritten
  pub complete : WrittenIsRead
  pub deep : DeepIsRefused
  pub stuck : StuckIsAtEnd
  pub refused : RefusedIsDeep
  pub memory : NeverWithoutMemory
  pub limits : FitsOrExceeds
  pub fitting : FittingNeverExceeds
