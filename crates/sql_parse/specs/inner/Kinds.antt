-- Inner: the tests by which the reader tells the next token.
use denote.Enum.Bare.{sameb}
use Rattle.std.specs.Prelude.{Bool, false, Option, Some, None}
use Rattle.sql_ast.specs.declared.ast.AstOp.{AstOp}
use Rattle.sql_ast.specs.declared.ast.AstOp.TheVariants as op
use Rattle.sql_lex.specs.declared.keyword.Keyword.{Keyword}
use Rattle.sql_lex.specs.declared.keyword.Keyword.TheVariants.{KAnd, KOr}
use Rattle.sql_lex.specs.contracts.keyword.Keyword as keyword
use Rattle.sql_lex.specs.declared.symbol.Symbol.{Symbol}
use Rattle.sql_lex.specs.declared.symbol.Symbol.TheVariants as symbol
use Rattle.sql_lex.specs.contracts.symbol.Symbol as symbols
use Rattle.sql_lex.specs.declared.token.TokenKind.{TokenKind}
use Rattle.sql_lex.specs.declared.token.TokenKind.TheVariants as kind

-- the token is the keyword
abbrev pub is_keyword : Keyword → TokenKind → Bool
is_keyword k (kind.Keyword other) = sameb keyword.the_type other k
is_keyword k _ = false

-- the token is the symbol
abbrev pub is_symbol : Symbol → TokenKind → Bool
is_symbol s (kind.Symbol other) = sameb symbols.the_type other s
is_symbol s _ = false

-- the operator between two operands that the token is
abbrev pub operator_of : TokenKind → Option AstOp
operator_of (kind.Keyword KOr) = Some op.Or
operator_of (kind.Keyword KAnd) = Some op.And
operator_of (kind.Symbol symbol.Equal) = Some op.Equal
operator_of (kind.Symbol symbol.Differ) = Some op.Differ
operator_of (kind.Symbol symbol.Less) = Some op.Less
operator_of (kind.Symbol symbol.LessEqual) = Some op.LessEqual
operator_of (kind.Symbol symbol.More) = Some op.More
operator_of (kind.Symbol symbol.MoreEqual) = Some op.MoreEqual
operator_of (kind.Symbol symbol.Plus) = Some op.Plus
operator_of (kind.Symbol symbol.Minus) = Some op.Minus
operator_of (kind.Symbol symbol.Star) = Some op.Times
operator_of (kind.Symbol symbol.Slash) = Some op.Divide
operator_of _ = None
