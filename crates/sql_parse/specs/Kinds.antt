-- What a token says by its kind: the number of an integer, and the token that an operator is written by.
use Rattle.std.specs.Prelude.{ℕ, Option, Some, None, pos}
use Rattle.sql_ast.specs.declared.ast.AstOp.{AstOp}
use Rattle.sql_ast.specs.declared.ast.AstOp.TheVariants as op
use Rattle.sql_lex.specs.declared.keyword.Keyword.TheVariants.{KAnd, KOr}
use Rattle.sql_lex.specs.declared.symbol.Symbol.TheVariants as symbol
use Rattle.sql_lex.specs.declared.token.TokenKind.{TokenKind}
use Rattle.sql_lex.specs.declared.token.TokenKind.TheVariants as kind

-- the number that an integer is. No token is a number below zero.
abbrev pub integer_of : TokenKind → Option ℕ
integer_of (kind.Int (pos n)) = Some n
integer_of _ = None

-- the token of an operator
abbrev pub operator_kind : AstOp → TokenKind
operator_kind op.Or = kind.Keyword KOr
operator_kind op.And = kind.Keyword KAnd
operator_kind op.Equal = kind.Symbol symbol.Equal
operator_kind op.Differ = kind.Symbol symbol.Differ
operator_kind op.Less = kind.Symbol symbol.Less
operator_kind op.LessEqual = kind.Symbol symbol.LessEqual
operator_kind op.More = kind.Symbol symbol.More
operator_kind op.MoreEqual = kind.Symbol symbol.MoreEqual
operator_kind op.Plus = kind.Symbol symbol.Plus
operator_kind op.Minus = kind.Symbol symbol.Minus
operator_kind op.Times = kind.Symbol symbol.Star
operator_kind op.Divide = kind.Symbol symbol.Slash
