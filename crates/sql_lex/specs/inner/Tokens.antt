-- Inner: how the code cuts a text into tokens, one after another.
use Rattle.std.specs.Prelude.{ℕ, zero, suc, ◌+◌, ◌-◌, List, [], ◌∷◌, if◌then◌else◌, Option, Some, None, Result, Ok, Err}
use Rattle.sql_lex.specs.declared.token.LexFault.{LexFault}
use Rattle.sql_lex.specs.declared.token.LexFault.TheVariants.{BadText}
use Rattle.sql_lex.specs.declared.token.Piece.{Piece}
use Rattle.sql_lex.specs.declared.token.Token.{Token}
use Rattle.sql_lex.specs.Bytes.{is_blank}
use Rattle.sql_lex.specs.inner.Pieces.{piece}

-- what a text was cut into
abbrev pub Tokens : Type 0
Tokens = Result (List Token) LexFault

-- the token that the piece is at a place
abbrev pub token_at : ℕ → Piece → Token
token_at at piece = record { kind = piece.kind; from = at; to = at + piece.len }

-- one token more, before these
abbrev pub before : Token → Tokens → Tokens
before token (Ok tokens) = Ok (token ∷ tokens)
before token (Err fault) = Err fault

-- the token at a place and then what follows its bytes, or a fault where there is none
abbrev pub first_and : ℕ → (ℕ → Tokens) → Option Piece → Tokens
first_and at more None = Err (BadText at)
first_and at more (Some piece) = before (token_at at piece) (more piece.len)

-- The tokens of the bytes from a place on, the first of which may still belong to the token before: as many as `taken` says.
-- A blank is left out, and at any other byte the token at the front is taken.
unfoldable pub tokens_from : ℕ → ℕ → List ℕ → Tokens
tokens_from at taken [] = Ok []
tokens_from at (suc taken) (b ∷ bytes) = tokens_from (at + 1) taken bytes
tokens_from at zero (b ∷ bytes) =
    if is_blank b then tokens_from (at + 1) zero bytes
    else first_and at (λ len. tokens_from (at + 1) (len - 1) bytes) (piece (b ∷ bytes))

-- the tokens of a text, or the first place where a token would have to begin and none does
unfoldable pub tokens_of : List ℕ → Tokens
tokens_of text = tokens_from 0 0 text
