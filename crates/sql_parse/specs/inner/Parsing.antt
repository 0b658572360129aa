-- Inner: what the code reads a text as: the statement, or the fault with its place.
use Rattle.std.specs.Prelude.{ℕ, List, length, Result, Ok, Err}
use Rattle.sql_ast.specs.declared.statement.Statement.{Statement}
use Rattle.sql_lex.specs.declared.token.LexFault.{LexFault}
use Rattle.sql_lex.specs.declared.token.LexFault.TheVariants as lex
use Rattle.sql_lex.specs.declared.token.Token.{Token}
use Rattle.sql_lex.specs.inner.Tokens.{Tokens, tokens_of}
use Rattle.sql_parse.specs.declared.fault.ParseFault.{ParseFault}
use Rattle.sql_parse.specs.declared.fault.ParseFault.TheVariants.{BadText, BadSyntax, TooDeep, NoMemory}
use Rattle.sql_parse.specs.declared.stop.Stop.{Stop}
use Rattle.sql_parse.specs.declared.stop.Stop.TheVariants as stop
use Rattle.sql_parse.specs.Places.{kinds_of, place_of}
use Rattle.sql_parse.specs.inner.Reading.{whole}

abbrev pub placed_fault : ℕ → List Token → Stop → ParseFault
placed_fault end tokens (stop.Stuck left) = BadSyntax (place_of end tokens left)
placed_fault end tokens (stop.Deep left) = TooDeep (place_of end tokens left)
placed_fault end tokens stop.NoMemory = NoMemory

abbrev pub placed : ℕ → List Token → Result Statement Stop → Result Statement ParseFault
placed end tokens (Ok statement) = Ok statement
placed end tokens (Err stop) = Err (placed_fault end tokens stop)

abbrev pub text_fault : LexFault → ParseFault
text_fault (lex.BadText at) = BadText at
text_fault lex.NoMemory = NoMemory

abbrev pub of_tokens : ℕ → Tokens → Result Statement ParseFault
of_tokens end (Ok tokens) = placed end tokens (whole (kinds_of tokens))
of_tokens end (Err fault) = Err (text_fault fault)

-- the statement that the text spells, or the first fault of its tokens, and else where the tokens stop being a statement
unfoldable pub parsed : List ℕ → Result Statement ParseFault
parsed text = of_tokens (length text) (tokens_of text)
