-- Inner: the marks of the tokens into which a text is cut, and two tests of marks.
use Rattle.std.specs.Prelude.{ℕ, Bool, true, false, List, map, Option, Some, None, Result, Ok, Err}
use Rattle.sql_lex.specs.declared.token.LexFault.{LexFault}
use Rattle.sql_lex.specs.declared.token.Token.{Token}
use Rattle.sql_lex.specs.inner.Tokens.{tokens_of}
use Rattle.schema_text.specs.declared.mark.Mark.{Mark}
use Rattle.schema_text.specs.declared.mark.Mark.TheVariants as mark
use Rattle.schema_text.specs.Marks.{mark_of}

-- what the tokens of a text are
abbrev pub if_tokens : Result (List Token) LexFault → Option (List Mark)
if_tokens (Ok tokens) = Some (map (λ token. mark_of token.kind) tokens)
if_tokens (Err _) = None

-- the marks of a text, if it is cut into tokens
unfoldable pub marks_of : List ℕ → Option (List Mark)
marks_of text = if_tokens (tokens_of text)

-- the mark is a comma
abbrev pub is_comma : Mark → Bool
is_comma mark.Comma = true
is_comma _ = false

-- the mark closes a parenthesis
abbrev pub is_close : Mark → Bool
is_close mark.Close = true
is_close _ = false
