-- What tokens are in lines that declare tables and indexes.
use Rattle.sql_lex.specs.declared.keyword.Keyword.{Keyword}
use Rattle.sql_lex.specs.declared.keyword.Keyword.TheVariants.{KInt, KText, KBool, KNot, KNull, KKey}
use Rattle.sql_lex.specs.declared.symbol.Symbol.{Symbol}
use Rattle.sql_lex.specs.declared.symbol.Symbol.TheVariants as symbol
use Rattle.sql_lex.specs.declared.token.TokenKind.{TokenKind}
use Rattle.sql_lex.specs.declared.token.TokenKind.TheVariants as kind
use Rattle.schema_text.specs.declared.mark.Mark.{Mark}
use Rattle.schema_text.specs.declared.mark.Mark.TheVariants as mark

-- what a keyword is
abbrev pub keyword_mark : Keyword → Mark
keyword_mark KInt = mark.Int
keyword_mark KText = mark.Text
keyword_mark KBool = mark.Bool
keyword_mark KNot = mark.Not
keyword_mark KNull = mark.Null
keyword_mark KKey = mark.Key
keyword_mark _ = mark.Other

-- what a symbol is
abbrev pub symbol_mark : Symbol → Mark
symbol_mark symbol.Open = mark.Open
symbol_mark symbol.Close = mark.Close
symbol_mark symbol.Comma = mark.Comma
symbol_mark _ = mark.Other

-- what a token is
abbrev pub mark_of : TokenKind → Mark
mark_of (kind.Name name) = mark.Name name
mark_of (kind.Keyword keyword) = keyword_mark keyword
mark_of (kind.Int value) = mark.Number value
mark_of (kind.Text _) = mark.Other
mark_of (kind.Symbol symbol) = symbol_mark symbol
