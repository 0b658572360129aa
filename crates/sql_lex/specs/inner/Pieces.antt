-- Inner: the token that the code takes at the front of the bytes, and how many bytes it takes. Nothing where no token begins there.
use Rattle.std.specs.Prelude.{ℕ, ◌+◌, ◌^◌, List, length, take, drop, slice_index, ◌==◌, nat_le, nat_lt, if◌then◌else◌, Option, Some, None, ℤ, pos}
use Rattle.std.specs.Char.{is_ascii_digit}
use Rattle.std.specs.List.{prefix_len}
use Rattle.std.specs.Option.{option_map}
use Rattle.std.specs.Str.Parse.{digits_value}
use Rattle.geo_base.specs.declared.limits.TheConstants.{MAX_NAME_BYTES}
use Rattle.sql_lex.specs.declared.keyword.Keyword.{Keyword}
use Rattle.sql_lex.specs.declared.token.Piece.{Piece}
use Rattle.sql_lex.specs.declared.token.TokenKind.{TokenKind}
use Rattle.sql_lex.specs.declared.token.TokenKind.TheVariants as kind
use Rattle.sql_lex.specs.Bytes.{begins_word, is_in_word}
use Rattle.sql_lex.specs.inner.Keywords.{keyword_of}
use Rattle.sql_lex.specs.inner.Quoted.{short_content}
use Rattle.sql_lex.specs.Symbols.{symbol_bytes}
use Rattle.sql_lex.specs.inner.Symbols.{symbol_of}

abbrev pub piece_of : TokenKind → ℕ → Piece
piece_of kind len = record { kind = kind; len = len }

-- the keyword that the word is, and else a name
abbrev pub kind_by : List ℕ → Option Keyword → TokenKind
kind_by word None = kind.Name word
kind_by word (Some keyword) = kind.Keyword keyword

abbrev pub word_kind : List ℕ → TokenKind
word_kind word = kind_by word (keyword_of word)

-- all letters, digits and `_` at the front, if they are at most 32
abbrev pub word_piece : List ℕ → Option Piece
word_piece bytes =
    let len = prefix_len is_in_word bytes in
    if nat_le len MAX_NAME_BYTES then Some (piece_of (word_kind (take len bytes)) len) else None

-- the number that the digits write, if it is below 2 ^ 63
abbrev pub value_of : List ℕ → Option ℤ
value_of digits = let value = digits_value 10 digits in if nat_lt value (2 ^ 63) then Some (pos value) else None

-- all digits at the front, if no letter or `_` follows them
abbrev pub integer_piece : List ℕ → Option Piece
integer_piece bytes =
    let len = prefix_len is_ascii_digit bytes in
    if begins_word (slice_index bytes len) then None
    else option_map (λ value. piece_of (kind.Int value) len) (value_of (take len bytes))

-- the quote at the front, what it opens, and the quote that closes it
abbrev pub text_piece : List ℕ → Option Piece
text_piece bytes = option_map (λ t. piece_of (kind.Text t.0) (t.1 + 1)) (short_content (drop 1 bytes))

-- the longest symbol at the front
abbrev pub symbol_piece : List ℕ → Option Piece
symbol_piece bytes =
    option_map (λ symbol. piece_of (kind.Symbol symbol) (length (symbol_bytes symbol))) (symbol_of (slice_index bytes 0) (slice_index bytes 1))

-- the token at the front, by its first byte
unfoldable pub piece : List ℕ → Option Piece
piece bytes =
    if begins_word (slice_index bytes 0) then word_piece bytes
    else (if is_ascii_digit (slice_index bytes 0) then integer_piece bytes
    else (if slice_index bytes 0 == 39 then text_piece bytes
    else symbol_piece bytes))
