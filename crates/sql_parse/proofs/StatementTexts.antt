-- A text is parsed as its tokens are.
use Rattle.std.proofs.Common.{◌≡◌, ◌↔◌, ℕ, List, Result, Ok, Err, length, refl, sym, ap, ◌∙◌}
use Rattle.sql_ast.specs.declared.statement.Statement.{Statement}
use Rattle.sql_lex.specs.declared.token.LexFault.TheVariants as lex
use Rattle.sql_lex.specs.declared.token.Token.{Token}
use Rattle.sql_lex.specs.inner.Tokens.{Tokens, tokens_of}
use Rattle.sql_parse.specs.declared.fault.ParseFault.TheVariants as fault
use Rattle.sql_parse.specs.declared.stop.Stop.{Stop}
use Rattle.sql_parse.specs.declared.stop.Stop.TheVariants as stop
use Rattle.sql_parse.specs.inner.Parsing.{placed, of_tokens, parsed}
use Rattle.sql_parse.specs.Places.{kinds_of, place_of}
use Rattle.sql_parse.specs.inner.Reading.{whole}

-- ---- statements

ok_of : (end : ℕ) (tokens : List Token) (statement : Statement) (r : Result Statement Stop) → placed end tokens r ≡ Ok statement → r ≡ Ok statement
ok_of end tokens statement (Ok read) same = cc
ok_of end tokens statement (Err (stop.Stuck left)) same = cc
ok_of end tokens statement (Err (stop.Deep left)) same = cc
ok_of end tokens statement (Err stop.NoMemory) same = cc

HasStatement : Tokens → Statement → Type 0
HasStatement read statement = (tokens : List Token) × (read ≡ Ok tokens) × (whole (kinds_of tokens) ≡ Ok statement)

has_statement : (end : ℕ) (read : Tokens) (statement : Statement) → of_tokens end read ≡ Ok statement → HasStatement read statement
unfolding HasStatement
has_statement end (Ok tokens) statement same = (tokens, refl, ok_of end tokens statement (whole (kinds_of tokens)) same)
has_statement end (Err (lex.BadText at)) statement same = cc
has_statement end (Err lex.NoMemory) statement same = cc

pub texts_of_statements : (text : List ℕ) (statement : Statement) → (parsed text ≡ Ok statement) ↔
    ((tokens : List Token) × (tokens_of text ≡ Ok tokens) × (whole (kinds_of tokens) ≡ Ok statement))
unfolding parsed HasStatement
texts_of_statements text statement = (
  λ same. has_statement (length text) (tokens_of text) statement same,
  λ found. ap (of_tokens (length text)) found.1 ∙ ap (placed (length text) found.0) found.2,
)

-- ---- places of tokens

stuck_of : (end at : ℕ) (tokens : List Token) (r : Result Statement Stop) → placed end tokens r ≡ Err (fault.BadSyntax at) →
    (left : ℕ) × (r ≡ Err (stop.Stuck left)) × (at ≡ place_of end tokens left)
stuck_of end at tokens (Ok read) same = cc
stuck_of end at tokens (Err (stop.Stuck left)) same = (left, refl, cc)
stuck_of end at tokens (Err (stop.Deep left)) same = cc
stuck_of end at tokens (Err stop.NoMemory) same = cc

IsSyntax : ℕ → ℕ → Tokens → Type 0
IsSyntax end at read = (tokens : List Token) × (left : ℕ) × (read ≡ Ok tokens) × (whole (kinds_of tokens) ≡ Err (stop.Stuck left)) × (at ≡ place_of end tokens left)

is_syntax : (end at : ℕ) (read : Tokens) → of_tokens end read ≡ Err (fault.BadSyntax at) → IsSyntax end at read
unfolding IsSyntax
is_syntax end at (Ok tokens) same = let found = stuck_of end at tokens (whole (kinds_of tokens)) same in (tokens, found.0, refl, found.1, found.2)
is_syntax end at (Err (lex.BadText place)) same = cc
is_syntax end at (Err lex.NoMemory) same = cc

pub texts_of_syntax : (text : List ℕ) (at : ℕ) → (parsed text ≡ Err (fault.BadSyntax at)) ↔
    ((tokens : List Token) × (left : ℕ) × (tokens_of text ≡ Ok tokens) × (whole (kinds_of tokens) ≡ Err (stop.Stuck left)) × (at ≡ place_of (length text) tokens left))
unfolding parsed IsSyntax
texts_of_syntax text at = (
  λ same. is_syntax (length text) at (tokens_of text) same,
  λ found. ap (of_tokens (length text)) found.2 ∙ ap (placed (length text) found.0) found.3 ∙ ap (λ n. Err (fault.BadSyntax n)) (sym found.4),
)

deep_of : (end at : ℕ) (tokens : List Token) (r : Result Statement Stop) → placed end tokens r ≡ Err (fault.TooDeep at) →
    (left : ℕ) × (r ≡ Err (stop.Deep left)) × (at ≡ place_of end tokens left)
deep_of end at tokens (Ok read) same = cc
deep_of end at tokens (Err (stop.Stuck left)) same = cc
deep_of end at tokens (Err (stop.Deep left)) same = (left, refl, cc)
deep_of end at tokens (Err stop.NoMemory) same = cc

IsTooDeep : ℕ → ℕ → Tokens → Type 0
IsTooDeep end at read = (tokens : List Token) × (left : ℕ) × (read ≡ Ok tokens) × (whole (kinds_of tokens) ≡ Err (stop.Deep left)) × (at ≡ place_of end tokens left)

is_too_deep : (end at : ℕ) (read : Tokens) → of_tokens end read ≡ Err (fault.TooDeep at) → IsTooDeep end at read
unfolding IsTooDeep
is_too_deep end at (Ok tokens) same = let found = deep_of end at tokens (whole (kinds_of tokens)) same in (tokens, found.0, refl, found.1, found.2)
is_too_deep end at (Err (lex.BadText place)) same = cc
is_too_deep end at (Err lex.NoMemory) same = cc

pub texts_too_deep : (text : List ℕ) (at : ℕ) → (parsed text ≡ Err (fault.TooDeep at)) ↔
    ((tokens : List Token) × (left : ℕ) × (tokens_of text ≡ Ok tokens) × (whole (kinds_of tokens) ≡ Err (stop.Deep left)) × (at ≡ place_of (length text) tokens left))
unfolding parsed IsTooDeep
texts_too_deep text at = (
  λ same. is_too_deep (length text) at (tokens_of text) same,
  λ found. ap (of_tokens (length text)) found.2 ∙ ap (placed (length text) found.0) found.3 ∙ ap (λ n. Err (fault.TooDeep n)) (sym found.4),
)

-- ---- texts that are no tokens

no_bad_text : (end at : ℕ) (tokens : List Token) (r : Result Statement Stop) → placed end tokens r ≡ Err (fault.BadText at) → ⊥
no_bad_text end at tokens (Ok read) same = cc
no_bad_text end at tokens (Err (stop.Stuck left)) same = cc
no_bad_text end at tokens (Err (stop.Deep left)) same = cc
no_bad_text end at tokens (Err stop.NoMemory) same = cc

is_bad_text : (end at : ℕ) (read : Tokens) → of_tokens end read ≡ Err (fault.BadText at) → read ≡ Err (lex.BadText at)
is_bad_text end at (Ok tokens) same = absurd (no_bad_text end at tokens (whole (kinds_of tokens)) same)
is_bad_text end at (Err (lex.BadText place)) same = cc
is_bad_text end at (Err lex.NoMemory) same = cc

pub texts_of_no_tokens : (text : List ℕ) (at : ℕ) → (parsed text ≡ Err (fault.BadText at)) ↔ (tokens_of text ≡ Err (lex.BadText at))
unfolding parsed
texts_of_no_tokens text at = (λ same. is_bad_text (length text) at (tokens_of text) same, λ found. ap (of_tokens (length text)) found)
