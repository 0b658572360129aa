-- What a statement is, in the terms of its tokens, and where tokens stop being one.
use Rattle.std.specs.Prelude.{◌≡◌, ◌≤◌, ℕ, ◌+◌, Bool, false, List, [], ◌∷◌, ◌++◌, length, is_some}
use Rattle.sql_ast.specs.declared.statement.Statement.{Statement}
use Rattle.sql_lex.specs.declared.symbol.Symbol.TheVariants as symbol
use Rattle.sql_lex.specs.declared.token.TokenKind.{TokenKind}
use Rattle.sql_lex.specs.declared.token.TokenKind.TheVariants as kind
use Rattle.sql_parse.specs.declared.limits.TheConstants.{MAX_OPERATORS, MAX_OPENINGS}
use Rattle.sql_parse.specs.Kinds.{integer_of}
use Rattle.sql_parse.specs.Trees.{Role, Operator, Opening, Inside, Outside, Mark, kinds}
use Rattle.sql_parse.specs.Forms.{StatementForm, IsForm, statement_marks, statement_of}

-- ---- statements

-- a way of writing a statement with these tokens, and what each of them does in it
pub record IsWritten (marks : List Mark) (statement : Statement) : Type 0 where
  pub form : StatementForm
  pub lawful : IsForm form
  pub shows : statement_marks form ≡ marks
  pub means : statement_of form ≡ statement

-- the tokens spell the statement
pub record IsSpelled (tokens : List TokenKind) (statement : Statement) : Type 0 where
  pub marks : List Mark
  pub kinds : kinds marks ≡ tokens
  pub written : IsWritten marks statement

-- ---- where tokens stop being a statement

-- some statement's tokens begin with these
pub record BeginsStatement (tokens : List TokenKind) : Type 0 where
  pub more : List TokenKind
  pub statement : Statement
  pub spelled : IsSpelled (tokens ++ more) statement

-- the tokens up to and with the next one begin no statement; or there is no next one, and they are none
abbrev pub Stops : List TokenKind → List TokenKind → Type 0
Stops front [] = (statement : Statement) → IsSpelled front statement → ⊥
Stops front (token ∷ more) = BeginsStatement (front ++ token ∷ []) → ⊥

-- the tokens begin a statement up to the place where so many are left, and no statement goes on there
pub record IsStuck (tokens : List TokenKind) (left : ℕ) : Type 0 where
  pub front : List TokenKind
  pub rest : List TokenKind
  pub whole : front ++ rest ≡ tokens
  pub place : length rest ≡ left
  pub begins : BeginsStatement front
  pub stops : Stops front rest

-- ---- how deep an expression is

-- how many operators there are behind the last token that belongs to no expression; where there is none, so many and all
abbrev pub since_operators : ℕ → List Mark → ℕ
since_operators n [] = n
since_operators n (mark ∷ marks) = since_operators (counted n mark.role) marks
  where
    counted : ℕ → Role → ℕ
    counted n Operator = n + 1
    counted n Opening = n
    counted n Inside = n
    counted n Outside = 0

-- the same of opening parentheses
abbrev pub since_openings : ℕ → List Mark → ℕ
since_openings n [] = n
since_openings n (mark ∷ marks) = since_openings (counted n mark.role) marks
  where
    counted : ℕ → Role → ℕ
    counted n Operator = n
    counted n Opening = n + 1
    counted n Inside = n
    counted n Outside = 0

-- the mark behind these is one operator too many, or one opening parenthesis too many, of its expression
abbrev pub Exceeds : List Mark → Role → Type 0
Exceeds front Operator = since_operators 0 front ≡ MAX_OPERATORS
Exceeds front Opening = since_openings 0 front ≡ MAX_OPENINGS
Exceeds front Inside = ⊥
Exceeds front Outside = ⊥

-- the tokens begin with an integer
abbrev pub begins_integer : List TokenKind → Bool
begins_integer [] = false
begins_integer (token ∷ more) = is_some (integer_of token)

-- A minus sign is an operator where no integer follows: so what may follow a minus is an integer exactly where the text has one.
abbrev pub GoesOn : TokenKind → List TokenKind → List TokenKind → Type 0
GoesOn (kind.Symbol symbol.Minus) rest more = begins_integer more ≡ begins_integer rest
GoesOn _ rest more = Unit {0}

-- Where so many tokens are left, an operator or an opening parenthesis stands that is one too many of its expression: in
-- some statement that begins with the tokens up to and with that one.
pub record IsDeep (tokens : List TokenKind) (left : ℕ) : Type 0 where
  pub front : List Mark
  pub here : Mark
  pub rest : List TokenKind
  pub more : List Mark
  pub statement : Statement
  pub whole : kinds front ++ here.kind ∷ rest ≡ tokens
  pub place : length rest + 1 ≡ left
  pub goes_on : GoesOn here.kind rest (kinds more)
  pub written : IsWritten (front ++ here ∷ more) statement
  pub exceeds : Exceeds front here.role

-- no expression is too deep
abbrev pub IsShallow : List TokenKind → Type 0
IsShallow tokens = (left : ℕ) → IsDeep tokens left → ⊥

-- the first place where one is
pub record IsFirstDeep (tokens : List TokenKind) (at : ℕ) : Type 0 where
  pub deep : IsDeep tokens at
  pub first : (left : ℕ) → IsDeep tokens left → left ≤ at
