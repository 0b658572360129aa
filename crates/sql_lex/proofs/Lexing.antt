-- Lexing, as far as the loop has come.
use Rattle.std.proofs.Common.{◌≡◌, ◌<◌, ◌≤◌, ◌+◌, ◌-◌, ℕ, true, false, List, [], ◌∷◌, ◌++◌, length, drop, get_or, Some, None, Ok, Err, sym, ap, ◌∙◌, arith, length-append, append-nil, length-drop}
use Rattle.sql_lex.specs.declared.token.LexFault.TheVariants.{BadText}
use Rattle.sql_lex.specs.declared.token.Piece.{Piece}
use Rattle.sql_lex.specs.declared.token.Token.{Token}
use Rattle.sql_lex.specs.Bytes.{is_blank}
use Rattle.sql_lex.specs.inner.Pieces.{piece}
use Rattle.sql_lex.specs.inner.Tokens.{token_at, tokens_from, tokens_of}
use Rattle.sql_lex.specs.laws.Spellings.{at_front}
use Rattle.sql_lex.specs.laws.Cuts.{spelled_some, at_end, at_blank, at_token, at_fault, joined, joined-nil, joined-push}

-- of the text these tokens are cut off, and the rest is left
pub record IsLexedUpTo (text : List ℕ) (tokens : List Token) (rest : List ℕ) : Type 0 where
  pub place : ℕ
  pub left : place + length rest ≡ length text
  pub answer : joined tokens (tokens_from place 0 rest) ≡ tokens_of text

pub lexed_nothing : (text : List ℕ) → IsLexedUpTo text [] text
unfolding tokens_of
lexed_nothing text = record { place = 0; left = omega arith; answer = joined-nil (tokens_from 0 0 text) }

pub lexed_blank : (text : List ℕ) (tokens : List Token) (rest after : List ℕ) → IsLexedUpTo text tokens rest → 0 < length rest → is_blank (get_or rest 0 0) ≡ true → after ≡ drop 1 rest → IsLexedUpTo text tokens after
lexed_blank text tokens rest after lexed some blank is = record {
  place = lexed.place + 1;
  left = omega (arith, lexed.left, ap length is, length-drop 1 rest);
  answer = ap (λ l. joined tokens (tokens_from (lexed.place + 1) 0 l)) is ∙ sym (ap (joined tokens) (at_blank lexed.place rest some blank)) ∙ lexed.answer;
}

-- the length of a piece
pub piece_within : (rest : List ℕ) (p : Piece) → piece rest ≡ Some p → (0 < p.len) × (p.len ≤ length rest)
piece_within rest p found =
    let front = at_front rest p found in
    let some : 0 < length front.piece = spelled_some p.kind front.piece front.spells in
    (omega (arith, front.len, some), omega (arith, front.len, ap length front.whole, length-append front.piece front.more))

pub lexed_token : (text : List ℕ) (tokens : List Token) (rest after : List ℕ) (p : Piece) → IsLexedUpTo text tokens rest → is_blank (get_or rest 0 0) ≡ false → piece rest ≡ Some p → after ≡ drop p.len rest
    → IsLexedUpTo text (tokens ++ token_at (length text - length rest) p ∷ []) after
lexed_token text tokens rest after p lexed blank found is =
    let within = piece_within rest p found in
    let place : length text - length rest ≡ lexed.place = omega (arith, lexed.left) in
    record {
      place = lexed.place + p.len;
      left = omega (arith, lexed.left, ap length is, length-drop p.len rest, within.1);
      answer =
          (λ i. joined (tokens ++ token_at (place i) p ∷ []) (tokens_from (lexed.place + p.len) 0 (is i)))
          ∙ sym (joined-push tokens (token_at lexed.place p) (tokens_from (lexed.place + p.len) 0 (drop p.len rest)))
          ∙ sym (ap (joined tokens) (at_token lexed.place rest p blank found within.0 within.1))
          ∙ lexed.answer;
    }

pub lexed_fault : (text : List ℕ) (tokens : List Token) (rest : List ℕ) → IsLexedUpTo text tokens rest → 0 < length rest → is_blank (get_or rest 0 0) ≡ false → piece rest ≡ None → tokens_of text ≡ Err (BadText (length text - length rest))
lexed_fault text tokens rest lexed some blank none =
    let place : lexed.place ≡ length text - length rest = omega (arith, lexed.left) in
    sym lexed.answer ∙ ap (joined tokens) (at_fault lexed.place rest some blank none) ∙ ap (λ n. Err (BadText n)) place

pub lexed_all : (text : List ℕ) (tokens : List Token) (rest : List ℕ) → IsLexedUpTo text tokens rest → length rest ≡ 0 → tokens_of text ≡ Ok tokens
lexed_all text tokens [] lexed none = sym lexed.answer ∙ ap (joined tokens) (at_end lexed.place) ∙ ap Ok (append-nil tokens)
lexed_all text tokens (b ∷ rest) lexed none = absurd (omega arith)
