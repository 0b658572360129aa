-- A text is parsed as a statement where its tokens spell it, and refused where it has the fault.
use Rattle.std.proofs.Common.{◌≡◌, ◌↔◌, ℕ, List, Result, Ok, Err, length, refl}
use Rattle.geo_base.specs.laws.Answers.{Tells}
use Rattle.sql_ast.specs.declared.statement.Statement.{Statement}
use Rattle.sql_lex.specs.declared.token.LexFault.TheVariants as lex
use Rattle.sql_lex.specs.declared.token.Token.{Token}
use Rattle.sql_lex.specs.inner.Tokens.{Tokens, tokens_of}
use Rattle.sql_lex.specs.laws.Cuts.{tokens_are_cut, cut_is_tokens, stops_there, stop_is_fault, tokens_tell}
use Rattle.sql_parse.specs.declared.fault.ParseFault.{ParseFault}
use Rattle.sql_parse.specs.declared.fault.ParseFault.TheVariants as fault
use Rattle.sql_parse.specs.declared.stop.Stop.{Stop}
use Rattle.sql_parse.specs.declared.stop.Stop.TheVariants as stop
use Rattle.sql_parse.specs.inner.Parsing.{placed, of_tokens, parsed}
use Rattle.sql_parse.specs.Places.{kinds_of}
use Rattle.sql_parse.specs.inner.Reading.{statement, whole}
use Rattle.sql_parse.specs.Refusals.{IsTextOf, IsRefused}
use Rattle.sql_parse.proofs.ExpressionSound.{expression_laws}
use Rattle.sql_parse.proofs.StatementLaws.{statements_spelled, statements_stop, statements_deepen}
use Rattle.sql_parse.proofs.StatementReading.{memory_read, never_without_memory}
use Rattle.sql_parse.proofs.StatementTexts.{texts_of_statements, texts_of_syntax, texts_too_deep, texts_of_no_tokens}

pub texts_spelled : (text : List ℕ) (s : Statement) → (parsed text ≡ Ok s) ↔ IsTextOf text s
texts_spelled text s = (
  λ same.
      let read = (texts_of_statements text s).0 same in
      let spelled = (statements_spelled expression_laws (kinds_of read.0) s).0 read.2 in
      record { tokens = read.0; cut = tokens_are_cut text read.0 read.1; spelled = spelled.0; shallow = spelled.1 },
  λ is. (texts_of_statements text s).1
      (is.tokens, cut_is_tokens text is.tokens is.cut, (statements_spelled expression_laws (kinds_of is.tokens) s).1 (is.spelled, is.shallow)),
)

-- ---- want of memory is no fault of a text

tokens_never : (text : List ℕ) → tokens_of text ≡ Err lex.NoMemory → ⊥
tokens_never text same = (tokens_tell text).cause (tt {0}) lex.NoMemory same

whole_never : (tokens : List Token) → whole (kinds_of tokens) ≡ Err stop.NoMemory → ⊥
unfolding whole
whole_never tokens same = never_without_memory expression_laws (kinds_of tokens) (memory_read (statement (kinds_of tokens)) same)

placed_never : (end : ℕ) (tokens : List Token) (r : Result Statement Stop) → (r ≡ Err stop.NoMemory → ⊥) → placed end tokens r ≡ Err fault.NoMemory → ⊥
placed_never end tokens (Ok s) never same = cc
placed_never end tokens (Err (stop.Stuck left)) never same = cc
placed_never end tokens (Err (stop.Deep left)) never same = cc
placed_never end tokens (Err stop.NoMemory) never same = never refl

read_never : (end : ℕ) (read : Tokens) → (read ≡ Err lex.NoMemory → ⊥) → of_tokens end read ≡ Err fault.NoMemory → ⊥
read_never end (Ok tokens) never same = placed_never end tokens (whole (kinds_of tokens)) (whole_never tokens) same
read_never end (Err (lex.BadText at)) never same = cc
read_never end (Err lex.NoMemory) never same = never refl

parsed_never : (text : List ℕ) → parsed text ≡ Err fault.NoMemory → ⊥
unfolding parsed
parsed_never text same = read_never (length text) (tokens_of text) (tokens_never text) same

-- ---- faults

pub texts_refused : (text : List ℕ) (f : ParseFault) → (parsed text ≡ Err f) ↔ IsRefused text f
texts_refused text (fault.BadText at) = (
  λ same. stops_there text at ((texts_of_no_tokens text at).0 same),
  λ stops. (texts_of_no_tokens text at).1 (stop_is_fault text at stops),
)
texts_refused text (fault.BadSyntax at) = (
  λ same.
      let read = (texts_of_syntax text at).0 same in
      let stuck = (statements_stop expression_laws (kinds_of read.0) read.1).0 read.3 in
      record { tokens = read.0; left = read.1; cut = tokens_are_cut text read.0 read.2; stuck = stuck.0; shallow = stuck.1; place = read.4 },
  λ is. (texts_of_syntax text at).1
      (is.tokens, is.left, cut_is_tokens text is.tokens is.cut, (statements_stop expression_laws (kinds_of is.tokens) is.left).1 (is.stuck, is.shallow), is.place),
)
texts_refused text (fault.TooDeep at) = (
  λ same.
      let read = (texts_too_deep text at).0 same in
      record { tokens = read.0; left = read.1; cut = tokens_are_cut text read.0 read.2; deep = (statements_deepen expression_laws (kinds_of read.0) read.1).0 read.3; place = read.4 },
  λ is. (texts_too_deep text at).1
      (is.tokens, is.left, cut_is_tokens text is.tokens is.cut, (statements_deepen expression_laws (kinds_of is.tokens) is.left).1 is.deep, is.place),
)
texts_refused text fault.NoMemory = (λ same. parsed_never text same, λ never. absurd never)

-- what parsing a text gives tells the statement that it spells, or the fault that it has
pub text_tells : (text : List ℕ) → Tells (Unit {0}) (parsed text) (IsTextOf text) (IsRefused text)
text_tells text = record {
  found = λ _ s. (texts_spelled text s).0;
  only = λ s. (texts_spelled text s).1;
  cause = λ _ f. (texts_refused text f).0;
  refused = λ f. (texts_refused text f).1;
}
