-- Laws: each spelling of a token that nothing lengthens is taken as that token.
use Rattle.std.proofs.Common.{◌≡◌, ◌<◌, ◌≤◌, ◌+◌, ◌^◌, ◌==◌, inl, inr, ℕ, suc, pos, true, false, cond, List, [], ◌∷◌, ◌++◌, length, take, get_or, Option, Some, None, option_map, nat_le, nat_lt, refl, sym, ap, ◌∙◌, subst, arith, length-append, append_assoc, ne_eqb}
use Rattle.std.proofs.Math.Seq.{take-append_seam}
use Rattle.std.proofs.lemmas.Bool.Decides.{nat_tests}
use Rattle.std.specs.Char.{is_ascii_digit}
use Rattle.std.specs.List.{prefix_len}
use Rattle.std.specs.Str.Parse.{digits_value}
use Rattle.geo_base.specs.declared.limits.TheConstants.{MAX_TEXT_BYTES, MAX_NAME_BYTES}
use Rattle.sql_lex.specs.declared.keyword.Keyword.{Keyword}
use Rattle.sql_lex.specs.declared.symbol.Symbol.{Symbol}
use Rattle.sql_lex.specs.declared.symbol.Symbol.TheVariants as symbol
use Rattle.sql_lex.specs.declared.token.Piece.{Piece}
use Rattle.sql_lex.specs.declared.token.TokenKind.{TokenKind}
use Rattle.sql_lex.specs.declared.token.TokenKind.TheVariants as kind
use Rattle.sql_lex.specs.Bytes.{begins_word, is_in_word}
use Rattle.sql_lex.specs.Keywords.{IsKeyword}
use Rattle.sql_lex.specs.inner.Keywords.{keyword_of}
use Rattle.sql_lex.specs.inner.Quoted.{if_short, short_content}
use Rattle.sql_lex.specs.Symbols.{symbol_bytes}
use Rattle.sql_lex.specs.inner.Pieces.{piece, piece_of, word_piece, word_kind, kind_by, integer_piece, value_of, text_piece, symbol_piece}
use Rattle.sql_lex.specs.Grammar.{IsWord, IsNumeral, Spells, Lengthens, EndsAt}
use Rattle.geo_base.specs.Texts.{doubled}
use Rattle.sql_lex.specs.laws.Fronts.{first_passes, exactly}
use Rattle.sql_lex.specs.laws.Bytes.{digit-begins_no_word, outside-begins_no_word, outside-no_digit}
use Rattle.sql_lex.specs.laws.Quotes.{spelled}
use Rattle.sql_lex.specs.laws.Keywords.{keyword_found, keyword_is}

pub first_of_append : (xs ys : List ℕ) → 0 < length xs → get_or (xs ++ ys) 0 0 ≡ get_or xs 0 0
first_of_append [] ys h = absurd (omega arith)
first_of_append (x ∷ xs) ys h = refl

at_seam : (xs ys : List ℕ) → get_or (xs ++ ys) (length xs) 0 ≡ get_or ys 0 0
at_seam [] ys = refl
at_seam (x ∷ xs) ys = at_seam xs ys

-- ---- words

word_taken : (word more : List ℕ) → IsWord word → is_in_word (get_or more 0 0) ≡ false → piece (word ++ more) ≡ Some (piece_of (word_kind word) (length word))
unfolding piece
word_taken word more is stops =
    let bytes = word ++ more in
    let first : begins_word (get_or bytes 0 0) ≡ true = ap begins_word (first_of_append word more is.some) ∙ is.first in
    let n : prefix_len is_in_word bytes ≡ length word = exactly is_in_word word more is.rest stops in
    let few : nat_le (length word) MAX_NAME_BYTES ≡ true = grind (arith, nat_tests, is.few) in
    let found : ℕ → Option Piece = λ len. cond (nat_le len MAX_NAME_BYTES) (Some (piece_of (word_kind (take len bytes)) len)) None in
    ap (λ v. cond v (word_piece bytes) (cond (is_ascii_digit (get_or bytes 0 0)) (integer_piece bytes) (cond (get_or bytes 0 0 == 39) (text_piece bytes) (symbol_piece bytes)))) first
    ∙ ap found n
    ∙ ap (λ v. cond v (Some (piece_of (word_kind (take (length word) bytes)) (length word))) None) few
    ∙ ap (λ w. Some (piece_of (word_kind w) (length word))) (take-append_seam word more)

no_keyword : (word : List ℕ) → ((k : Keyword) → IsKeyword k word → ⊥) → keyword_of word ≡ None
no_keyword word none = by (keyword_of word) refl
  where
    by : (o : Option Keyword) → keyword_of word ≡ o → o ≡ None
    by None e = refl
    by (Some k) e = absurd (none k (keyword_found word k e))

-- ---- integers

integer_taken : (n : ℕ) (digits more : List ℕ) → IsNumeral n digits → is_in_word (get_or more 0 0) ≡ false → piece (digits ++ more) ≡ Some (piece_of (kind.Int (pos n)) (length digits))
unfolding piece
integer_taken n [] more is stops = absurd (omega (arith, is.some))
integer_taken n (d ∷ digits) more is stops =
    let whole : List ℕ = d ∷ digits in
    let bytes = whole ++ more in
    let digit : is_ascii_digit d ≡ true = first_passes is_ascii_digit d digits is.digits in
    let len : prefix_len is_ascii_digit bytes ≡ length whole = exactly is_ascii_digit whole more is.digits (outside-no_digit (get_or more 0 0) stops) in
    let next : begins_word (get_or bytes (length whole) 0) ≡ false = ap begins_word (at_seam whole more) ∙ outside-begins_no_word (get_or more 0 0) stops in
    let same : take (length whole) bytes ≡ whole = take-append_seam whole more in
    let fits : nat_lt (digits_value 10 whole) (2 ^ 63) ≡ true = grind (arith, nat_tests, is.fits, is.writes) in
    let found : ℕ → Option Piece = λ m. cond (begins_word (get_or bytes m 0)) None (option_map (λ value. piece_of (kind.Int value) m) (value_of (take m bytes))) in
    ap (λ v. cond v (word_piece bytes) (cond (is_ascii_digit d) (integer_piece bytes) (cond (d == 39) (text_piece bytes) (symbol_piece bytes)))) (digit-begins_no_word d digit)
    ∙ ap (λ v. cond v (integer_piece bytes) (cond (d == 39) (text_piece bytes) (symbol_piece bytes))) digit
    ∙ ap found len
    ∙ ap (λ v. cond v None (option_map (λ value. piece_of (kind.Int value) (length whole)) (value_of (take (length whole) bytes)))) next
    ∙ ap (λ ds. option_map (λ value. piece_of (kind.Int value) (length whole)) (value_of ds)) same
    ∙ ap (λ v. option_map (λ value. piece_of (kind.Int value) (length whole)) (cond v (Some (pos (digits_value 10 whole))) None)) fits
    ∙ ap (λ value. Some (piece_of (kind.Int (pos value)) (length whole))) (sym is.writes)

-- ---- texts

text_taken : (text more : List ℕ) → length text ≤ MAX_TEXT_BYTES → (get_or more 0 0 ≡ 39 → ⊥)
    → piece ((39 ∷ (doubled text ++ 39 ∷ [])) ++ more) ≡ Some (piece_of (kind.Text text) (length (39 ∷ (doubled text ++ 39 ∷ []))))
unfolding piece begins_word
text_taken text more few stops =
    let len : length (doubled text) + 1 + 1 ≡ suc (length (doubled text ++ 39 ∷ [])) = omega (arith, length-append (doubled text) (39 ∷ [])) in
    let short : nat_le (length text) MAX_TEXT_BYTES ≡ true = grind (arith, nat_tests) in
    let out : Option (List ℕ × ℕ) → Option Piece = option_map (λ t. piece_of (kind.Text t.0) (t.1 + 1)) in
    ap (λ l. out (short_content l)) (append_assoc (doubled text) (39 ∷ []) more)
    ∙ ap (λ o. out (if_short o)) (spelled text more stops)
    ∙ ap (λ v. out (cond v (Some (text, length (doubled text) + 1)) None)) short
    ∙ ap (λ n. Some (piece_of (kind.Text text) n)) len

-- ---- symbols

symbol_taken : (s : Symbol) (more : List ℕ) → (Lengthens (get_or more 0 0) s → ⊥) → piece (symbol_bytes s ++ more) ≡ Some (piece_of (kind.Symbol s) (length (symbol_bytes s)))
unfolding piece begins_word
symbol_taken symbol.Open more ends = refl
symbol_taken symbol.Close more ends = refl
symbol_taken symbol.Comma more ends = refl
symbol_taken symbol.Dot more ends = refl
symbol_taken symbol.Star more ends = refl
symbol_taken symbol.Plus more ends = refl
symbol_taken symbol.Minus more ends = refl
symbol_taken symbol.Slash more ends = refl
symbol_taken symbol.Equal more ends = refl
symbol_taken symbol.Differ more ends = refl
symbol_taken symbol.LessEqual more ends = refl
symbol_taken symbol.MoreEqual more ends = refl
symbol_taken symbol.Less more ends =
    let one : (get_or more 0 0 == 62) ≡ false = ne_eqb (get_or more 0 0) 62 (λ h. ends (inr h)) in
    let two : (get_or more 0 0 == 61) ≡ false = ne_eqb (get_or more 0 0) 61 (λ h. ends (inl h)) in
    rw (one, two) refl
symbol_taken symbol.More more ends =
    let one : (get_or more 0 0 == 61) ≡ false = ne_eqb (get_or more 0 0) 61 ends in
    rw one refl

-- ---- all

pub taken : (k : TokenKind) (p more : List ℕ) → Spells k p → EndsAt k more → piece (p ++ more) ≡ Some (piece_of k (length p))
taken (kind.Name name) p more spells ends =
    word_taken p more spells.1 ends ∙ ap (λ o. Some (piece_of (kind_by p o) (length p))) (no_keyword p spells.2) ∙ ap (λ w. Some (piece_of (kind.Name w) (length p))) spells.0
taken (kind.Keyword k) p more spells ends = word_taken p more spells.0 ends ∙ ap (λ o. Some (piece_of (kind_by p o) (length p))) (keyword_is p k spells.1)
taken (kind.Int value) p more spells ends = integer_taken spells.0 p more spells.2 ends ∙ ap (λ v. Some (piece_of (kind.Int v) (length p))) (sym spells.1)
taken (kind.Text text) p more spells ends =
    subst (λ l. piece (l ++ more) ≡ Some (piece_of (kind.Text text) (length l))) (sym spells.0) (text_taken text more spells.1 ends)
taken (kind.Symbol s) p more spells ends =
    subst (λ l. piece (l ++ more) ≡ Some (piece_of (kind.Symbol s) (length l))) (sym spells) (symbol_taken s more ends)
