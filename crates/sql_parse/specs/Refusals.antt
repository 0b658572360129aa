-- What it means for a text that it spells a statement, and that it is refused with a fault at a place.
use Rattle.std.specs.Prelude.{◌≡◌, ℕ, List, length}
use Rattle.sql_ast.specs.declared.statement.Statement.{Statement}
use Rattle.sql_lex.specs.declared.token.Token.{Token}
use Rattle.sql_lex.specs.Grammar.{AreTokensOf, StopsAt}
use Rattle.sql_parse.specs.declared.fault.ParseFault.{ParseFault}
use Rattle.sql_parse.specs.declared.fault.ParseFault.TheVariants.{BadText, BadSyntax, TooDeep, NoMemory}
use Rattle.sql_parse.specs.Grammar.{IsSpelled, IsStuck, IsShallow, IsFirstDeep}
use Rattle.sql_parse.specs.Places.{kinds_of, place_of}

-- the text's tokens spell the statement, and none of its expressions is too deep
pub record IsTextOf (text : List ℕ) (statement : Statement) : Type 0 where
  pub tokens : List Token
  pub cut : AreTokensOf tokens text
  pub spelled : IsSpelled (kinds_of tokens) statement
  pub shallow : IsShallow (kinds_of tokens)

-- no statement goes on with the token at the place, and no expression is too deep
pub record IsStuckAt (text : List ℕ) (at : ℕ) : Type 0 where
  pub tokens : List Token
  pub left : ℕ
  pub cut : AreTokensOf tokens text
  pub stuck : IsStuck (kinds_of tokens) left
  pub shallow : IsShallow (kinds_of tokens)
  pub place : at ≡ place_of (length text) tokens left

-- the token at the place is the first operator or opening parenthesis of an expression that is one too many
pub record IsTooDeepAt (text : List ℕ) (at : ℕ) : Type 0 where
  pub tokens : List Token
  pub left : ℕ
  pub cut : AreTokensOf tokens text
  pub deep : IsFirstDeep (kinds_of tokens) left
  pub place : at ≡ place_of (length text) tokens left

-- the text has the fault
abbrev pub IsRefused : List ℕ → ParseFault → Type 0
IsRefused text (BadText at) = StopsAt text at
IsRefused text (BadSyntax at) = IsStuckAt text at
IsRefused text (TooDeep at) = IsTooDeepAt text at
IsRefused text NoMemory = ⊥
