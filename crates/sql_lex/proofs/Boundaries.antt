-- Where a text may be cut: beside a byte that is ASCII.
use Rattle.std.proofs.Common.{Some, ◌≡◌, ◌<◌, ◌≤◌, ◌+◌, ◌-◌, ⊎_elim, ℕ, suc, Bool, true, false, List, [], ◌∷◌, ◌++◌, length, get_or, IsUtf8, IsCharBoundary, refl, sym, ap, ◌∙◌, subst, arith, length-append, length-drop, get_or-drop, add-zero, drop}
use Rattle.std.proofs.Math.Seq.{get_or-append_seam}
use Rattle.std.proofs.str.Laws.{order}
use Rattle.std.proofs.lemmas.Bool.Decides.{nat_tests}
use Rattle.std.proofs.lemmas.List.{get_or_append_left}
use Rattle.std.proofs.lemmas.List.Sums.{prefix_len-le-length, prefix_len_passes, prefix_len_stops}
use Rattle.std.proofs.lemmas.Str.{IsCharBoundary-after_ascii, IsCharBoundary-before_ascii, IsCharBoundary-end, IsUtf8-drop}
use Rattle.std.specs.Char.{is_ascii_digit}
use Rattle.std.specs.List.{prefix_len, list_all}
use Rattle.sql_lex.specs.declared.symbol.Symbol.{Symbol}
use Rattle.sql_lex.specs.declared.symbol.Symbol.TheVariants as symbol
use Rattle.sql_lex.specs.declared.token.Piece.{Piece}
use Rattle.sql_lex.specs.declared.token.TokenKind.{TokenKind}
use Rattle.sql_lex.specs.declared.token.TokenKind.TheVariants as kind
use Rattle.sql_lex.specs.Bytes.{is_blank, begins_word, is_in_word}
use Rattle.sql_lex.specs.inner.Quoted.{is_plain}
use Rattle.sql_lex.specs.inner.Pieces.{piece}
use Rattle.sql_lex.specs.Symbols.{symbol_bytes}
use Rattle.geo_base.specs.Texts.{doubled}
use Rattle.sql_lex.specs.Grammar.{Spells}
use Rattle.sql_lex.specs.laws.Fronts.{nonempty, first_passes, rest_passes}
use Rattle.sql_lex.specs.laws.Bytes.{in_word_ascii, begins-in_word, zero-no_word}
use Rattle.sql_lex.specs.laws.Spellings.{at_front}
use Rattle.sql_lex.specs.laws.Cuts.{spelled_some}

after_front : (p : ℕ → Bool) → ((b : ℕ) → p b ≡ true → b < 128) → p 0 ≡ false → (bytes : List ℕ) → IsUtf8 bytes → p (get_or bytes 0 0) ≡ true → IsCharBoundary bytes (prefix_len p bytes)
after_front p ascii none bytes utf8 first =
    let n = prefix_len p bytes in
    let some : 0 < n = nonempty p none bytes first in
    let within : n ≤ length bytes = prefix_len-le-length p bytes in
    let last : p (get_or bytes (n - 1) 0) ≡ true = prefix_len_passes p bytes (n - 1) 0 (omega arith) in
    let back : n - 1 + 1 ≡ n = omega arith in
    subst (IsCharBoundary bytes) back (IsCharBoundary-after_ascii bytes (n - 1) utf8 (omega arith) (ascii (get_or bytes (n - 1) 0) last))

digit_ascii : (b : ℕ) → is_ascii_digit b ≡ true → b < 128
digit_ascii b h = grind (arith, nat_tests)

pub after_word : (bytes : List ℕ) → IsUtf8 bytes → begins_word (get_or bytes 0 0) ≡ true → IsCharBoundary bytes (prefix_len is_in_word bytes)
after_word bytes utf8 first = after_front is_in_word in_word_ascii zero-no_word bytes utf8 (begins-in_word (get_or bytes 0 0) first)

pub after_digits : (bytes : List ℕ) → IsUtf8 bytes → is_ascii_digit (get_or bytes 0 0) ≡ true → IsCharBoundary bytes (prefix_len is_ascii_digit bytes)
after_digits bytes utf8 first = after_front is_ascii_digit digit_ascii refl bytes utf8 first

no_plain : (b : ℕ) → is_plain b ≡ false → b ≡ 39
no_plain b h = grind (arith, nat_tests)

-- the byte after the run before a quote is the quote
pub at_quote : (bytes : List ℕ) → prefix_len is_plain bytes < length bytes → get_or bytes (prefix_len is_plain bytes) 0 ≡ 39
at_quote bytes within = no_plain (get_or bytes (prefix_len is_plain bytes) 0) (prefix_len_stops is_plain bytes 0 within)

pub before_quote : (bytes : List ℕ) → IsCharBoundary bytes (prefix_len is_plain bytes)
before_quote bytes =
    let within : prefix_len is_plain bytes ≤ length bytes = prefix_len-le-length is_plain bytes in
    ⊎_elim
    (λ less. IsCharBoundary-before_ascii bytes (prefix_len is_plain bytes) less (omega (arith, at_quote bytes less)))
    (λ all. let is : length bytes ≡ prefix_len is_plain bytes = omega arith in subst (IsCharBoundary bytes) is (IsCharBoundary-end bytes))
    (order (prefix_len is_plain bytes) (length bytes))

pub after_one : (bytes : List ℕ) → IsUtf8 bytes → 0 < length bytes → get_or bytes 0 0 < 128 → IsCharBoundary bytes 1
after_one bytes utf8 some ascii = IsCharBoundary-after_ascii bytes 0 utf8 some ascii

pub some_byte : (bytes : List ℕ) → get_or bytes 0 0 ≡ 39 → 0 < length bytes
some_byte [] is = absurd (omega arith)
some_byte (b ∷ bytes) is = omega arith

-- what the cut before a quote leaves
pub from_quote_utf8 : (rest from_quote : List ℕ) (n : ℕ) → IsUtf8 rest → n ≡ prefix_len is_plain rest → from_quote ≡ drop n rest → IsUtf8 from_quote
from_quote_utf8 rest from_quote n utf8 n-is is =
    let back : from_quote ≡ drop (prefix_len is_plain rest) rest = is ∙ ap (λ m. drop m rest) n-is in
    subst IsUtf8 (sym back) (IsUtf8-drop rest (prefix_len is_plain rest) utf8 (before_quote rest))

pub from_quote_quote : (rest from_quote : List ℕ) (n : ℕ) → n ≡ prefix_len is_plain rest → from_quote ≡ drop n rest → 0 < length from_quote → get_or from_quote 0 0 ≡ 39
from_quote_quote rest from_quote n n-is is some =
    let m = prefix_len is_plain rest in
    let back : from_quote ≡ drop m rest = is ∙ ap (λ m. drop m rest) n-is in
    let within : m < length rest = omega (arith, ap length back, length-drop m rest) in
    ap (λ l. get_or l 0 0) back ∙ get_or-drop m rest 0 0 ∙ ap (λ i. get_or rest i 0) (add-zero m) ∙ at_quote rest within

pub after_one_utf8 : (bytes rest : List ℕ) → IsUtf8 bytes → 0 < length bytes → get_or bytes 0 0 < 128 → rest ≡ drop 1 bytes → IsUtf8 rest
after_one_utf8 bytes rest utf8 some ascii is = subst IsUtf8 (sym is) (IsUtf8-drop bytes 1 utf8 (after_one bytes utf8 some ascii))

-- ---- after a token

last_passes : (p : ℕ → Bool) (xs : List ℕ) → 0 < length xs → list_all p xs ≡ true → p (get_or xs (length xs - 1) 0) ≡ true
last_passes p [] some all = absurd (omega arith)
last_passes p (x ∷ []) some all = first_passes p x [] all
last_passes p (x ∷ y ∷ xs) some all =
    let e : suc (length (y ∷ xs) - 1) ≡ length (x ∷ y ∷ xs) - 1 = omega arith in
    subst (λ n. p (get_or (x ∷ y ∷ xs) n 0) ≡ true) e (last_passes p (y ∷ xs) (omega arith) (rest_passes p x (y ∷ xs) all))

last_ascii : (k : TokenKind) (p : List ℕ) → Spells k p → get_or p (length p - 1) 0 < 128
last_ascii (kind.Name name) p spells = in_word_ascii _ (last_passes is_in_word p spells.1.some spells.1.rest)
last_ascii (kind.Keyword k) p spells = in_word_ascii _ (last_passes is_in_word p spells.0.some spells.0.rest)
last_ascii (kind.Int value) p spells = digit_ascii _ (last_passes is_ascii_digit p spells.2.some spells.2.digits)
last_ascii (kind.Text text) p spells =
    let end : length ((39 ∷ doubled text) ++ 39 ∷ []) - 1 ≡ length (39 ∷ doubled text) = omega (arith, length-append (39 ∷ doubled text) (39 ∷ [])) in
    let is : get_or ((39 ∷ doubled text) ++ 39 ∷ []) (length ((39 ∷ doubled text) ++ 39 ∷ []) - 1) 0 ≡ 39 = ap (λ n. get_or ((39 ∷ doubled text) ++ 39 ∷ []) n 0) end ∙ get_or-append_seam (39 ∷ doubled text) 39 [] 0 in
    subst (λ l. get_or l (length l - 1) 0 < 128) (sym spells.0) (omega (arith, is))
last_ascii (kind.Symbol s) p spells = subst (λ l. get_or l (length l - 1) 0 < 128) (sym spells) (by s)
  where
    by : (s : Symbol) → get_or (symbol_bytes s) (length (symbol_bytes s) - 1) 0 < 128
    by symbol.Open = omega arith
    by symbol.Close = omega arith
    by symbol.Comma = omega arith
    by symbol.Dot = omega arith
    by symbol.Star = omega arith
    by symbol.Plus = omega arith
    by symbol.Minus = omega arith
    by symbol.Slash = omega arith
    by symbol.Equal = omega arith
    by symbol.Differ = omega arith
    by symbol.Less = omega arith
    by symbol.LessEqual = omega arith
    by symbol.More = omega arith
    by symbol.MoreEqual = omega arith

blank_ascii : (b : ℕ) → is_blank b ≡ true → b < 128
unfolding is_blank
blank_ascii b h = grind (arith, nat_tests)

pub after_blank : (bytes : List ℕ) → IsUtf8 bytes → 0 < length bytes → is_blank (get_or bytes 0 0) ≡ true → IsCharBoundary bytes 1
after_blank bytes utf8 some blank = after_one bytes utf8 some (blank_ascii (get_or bytes 0 0) blank)

pub after_blank_utf8 : (bytes rest : List ℕ) → IsUtf8 bytes → 0 < length bytes → is_blank (get_or bytes 0 0) ≡ true → rest ≡ drop 1 bytes → IsUtf8 rest
after_blank_utf8 bytes rest utf8 some blank is = after_one_utf8 bytes rest utf8 some (blank_ascii (get_or bytes 0 0) blank) is

pub after_piece : (text : List ℕ) (p : Piece) → IsUtf8 text → piece text ≡ Some p → IsCharBoundary text p.len
after_piece text p utf8 found =
    let front = at_front text p found in
    let n = length front.piece in
    let some : 0 < n = spelled_some p.kind front.piece front.spells in
    let lengths : length text ≡ n + length front.more = ap length front.whole ∙ length-append front.piece front.more in
    let here : get_or text (n - 1) 0 ≡ get_or front.piece (n - 1) 0 = ap (λ l. get_or l (n - 1) 0) front.whole ∙ get_or_append_left front.piece front.more 0 (n - 1) (omega arith) in
    let ascii : get_or text (n - 1) 0 < 128 = omega (arith, here, last_ascii p.kind front.piece front.spells) in
    let back : n - 1 + 1 ≡ p.len = omega (arith, front.len) in
    subst (IsCharBoundary text) back (IsCharBoundary-after_ascii text (n - 1) utf8 (omega (arith, lengths)) ascii)

pub after_piece_utf8 : (text rest : List ℕ) (p : Piece) → IsUtf8 text → piece text ≡ Some p → rest ≡ drop p.len text → IsUtf8 rest
after_piece_utf8 text rest p utf8 found is = subst IsUtf8 (sym is) (IsUtf8-drop text p.len utf8 (after_piece text p utf8 found))
