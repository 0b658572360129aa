-- Laws: what the code takes at the front spells its token and can't be longer.
use Rattle.std.proofs.Common.{◌≡◌, ◌<◌, ◌≤◌, ◌+◌, ◌^◌, ◌==◌, ℕ, zero, suc, pos, Bool, true, false, cond, List, [], ◌∷◌, ◌++◌, length, take, drop, get_or, Option, Some, None, option_map, nat_le, nat_lt, refl, sym, ap, ◌∙◌, subst, arith, length-take-le, length-append, take-append-drop, get_or-drop, add-zero, append_assoc, eqb-true, false-eqb, ⊎_elim}
use Rattle.std.proofs.lemmas.Bool.Decides.{nat_tests}
use Rattle.std.proofs.lemmas.List.Sums.{prefix_len-le-length}
use Rattle.std.specs.Char.{is_ascii_digit}
use Rattle.std.specs.List.{prefix_len}
use Rattle.std.specs.Str.Parse.{digits_value}
use Rattle.geo_base.specs.declared.limits.TheConstants.{MAX_TEXT_BYTES, MAX_NAME_BYTES}
use Rattle.sql_lex.specs.declared.keyword.Keyword.{Keyword}
use Rattle.sql_lex.specs.declared.token.Piece.{Piece}
use Rattle.sql_lex.specs.declared.token.TokenKind.TheVariants as kind
use Rattle.sql_lex.specs.declared.symbol.Symbol.{Symbol}
use Rattle.sql_lex.specs.declared.symbol.Symbol.TheVariants as symbol
use Rattle.sql_lex.specs.Symbols.{symbol_bytes}
use Rattle.sql_lex.specs.inner.Symbols.{after_less, after_more, single, symbol_of}
use Rattle.sql_lex.specs.Bytes.{begins_word, is_in_word}
use Rattle.sql_lex.specs.inner.Keywords.{keyword_of}
use Rattle.sql_lex.specs.inner.Quoted.{content, if_short}
use Rattle.sql_lex.specs.inner.Pieces.{piece, piece_of, word_piece, word_kind, kind_by, integer_piece, text_piece, symbol_piece}
use Rattle.sql_lex.specs.Grammar.{IsWord, Spells, Lengthens, EndsAt}
use Rattle.geo_base.specs.Texts.{doubled}
use Rattle.sql_lex.specs.laws.Keywords.{keyword_found, no_keyword_found}
use Rattle.sql_lex.specs.laws.Fronts.{passing, stopping, nonempty}
use Rattle.sql_lex.specs.laws.Bytes.{begins-in_word, outside_words, zero-no_word}
use Rattle.sql_lex.specs.laws.Quotes.{closes}

-- the piece is at the front of the bytes
pub record IsAtFront (bytes : List ℕ) (p : Piece) : Type 0 where
  pub piece : List ℕ
  pub more : List ℕ
  pub whole : bytes ≡ piece ++ more
  pub len : p.len ≡ length piece
  pub spells : Spells p.kind piece
  pub ends : EndsAt p.kind more

-- ---- words

first_of_take : (n : ℕ) (bytes : List ℕ) → 0 < n → get_or (take n bytes) 0 0 ≡ get_or bytes 0 0
first_of_take zero bytes h = absurd (omega arith)
first_of_take (suc n) [] h = refl
first_of_take (suc n) (b ∷ bytes) h = refl

word_found : (bytes : List ℕ) → begins_word (get_or bytes 0 0) ≡ true → prefix_len is_in_word bytes ≤ MAX_NAME_BYTES → IsWord (take (prefix_len is_in_word bytes) bytes)
word_found bytes first few =
    let n = prefix_len is_in_word bytes in
    let some : 0 < n = nonempty is_in_word zero-no_word bytes (begins-in_word (get_or bytes 0 0) first) in
    let len : length (take n bytes) ≡ n = length-take-le n bytes (prefix_len-le-length is_in_word bytes) in
    record {
      some = omega (arith, len, some);
      few = omega (arith, len, few);
      first = ap begins_word (first_of_take n bytes some) ∙ first;
      rest = passing is_in_word bytes;
    }

kind_found : (word more : List ℕ) → IsWord word → is_in_word (get_or more 0 0) ≡ false → Spells (word_kind word) word × EndsAt (word_kind word) more
kind_found word more is stops = by (keyword_of word) refl
  where
    by : (o : Option Keyword) → keyword_of word ≡ o → Spells (kind_by word o) word × EndsAt (kind_by word o) more
    by None e = ((refl, is, λ k here. no_keyword_found word k e here), stops)
    by (Some k) e = ((is, keyword_found word k e), stops)

word_at_front : (bytes : List ℕ) (p : Piece) → begins_word (get_or bytes 0 0) ≡ true → word_piece bytes ≡ Some p → IsAtFront bytes p
word_at_front bytes p first e = by (nat_le (prefix_len is_in_word bytes) MAX_NAME_BYTES) refl e
  where
    by : (v : Bool) → nat_le (prefix_len is_in_word bytes) MAX_NAME_BYTES ≡ v → cond v (Some (piece_of (word_kind (take (prefix_len is_in_word bytes) bytes)) (prefix_len is_in_word bytes))) None ≡ Some p → IsAtFront bytes p
    by false is found = cc
    by true is found =
        let n = prefix_len is_in_word bytes in
        let few : n ≤ MAX_NAME_BYTES = grind (arith, nat_tests) in
        let p-is : piece_of (word_kind (take n bytes)) n ≡ p = cc in
        let here = kind_found (take n bytes) (drop n bytes) (word_found bytes first few) (stopping is_in_word zero-no_word bytes) in
        subst (IsAtFront bytes) p-is (record {
          piece = take n bytes;
          more = drop n bytes;
          whole = sym (take-append-drop n bytes);
          len = sym (length-take-le n bytes (prefix_len-le-length is_in_word bytes));
          spells = here.0;
          ends = here.1;
        })

-- ---- integers

integer_at_front : (bytes : List ℕ) (p : Piece) → is_ascii_digit (get_or bytes 0 0) ≡ true → integer_piece bytes ≡ Some p → IsAtFront bytes p
integer_at_front bytes p first e = by (begins_word (get_or bytes (prefix_len is_ascii_digit bytes) 0)) refl (nat_lt (digits_value 10 (take (prefix_len is_ascii_digit bytes) bytes)) (2 ^ 63)) refl e
  where
    by : (v : Bool) → begins_word (get_or bytes (prefix_len is_ascii_digit bytes) 0) ≡ v
        → (w : Bool) → nat_lt (digits_value 10 (take (prefix_len is_ascii_digit bytes) bytes)) (2 ^ 63) ≡ w
        → cond v None (option_map (λ value. piece_of (kind.Int value) (prefix_len is_ascii_digit bytes)) (cond w (Some (pos (digits_value 10 (take (prefix_len is_ascii_digit bytes) bytes)))) None)) ≡ Some p
        → IsAtFront bytes p
    by true is w fits found = cc
    by false is false fits found = cc
    by false is true fits found =
        let n = prefix_len is_ascii_digit bytes in
        let value = digits_value 10 (take n bytes) in
        let below : value < 2 ^ 63 = grind (arith, nat_tests) in
        let p-is : piece_of (kind.Int (pos value)) n ≡ p = cc in
        let len : length (take n bytes) ≡ n = length-take-le n bytes (prefix_len-le-length is_ascii_digit bytes) in
        let some : 0 < n = nonempty is_ascii_digit refl bytes first in
        let next : get_or (drop n bytes) 0 0 ≡ get_or bytes n 0 = get_or-drop n bytes 0 0 ∙ ap (λ i. get_or bytes i 0) (add-zero n) in
        subst (IsAtFront bytes) p-is (record {
          piece = take n bytes;
          more = drop n bytes;
          whole = sym (take-append-drop n bytes);
          len = sym len;
          spells = (value, refl, record { some = omega (arith, len, some); digits = passing is_ascii_digit bytes; writes = refl; fits = below });
          ends = outside_words (get_or (drop n bytes) 0 0) (ap begins_word next ∙ is) (stopping is_ascii_digit refl bytes);
        })

-- ---- texts

pub text_at_front : (bytes : List ℕ) (p : Piece) → get_or bytes 0 0 ≡ 39 → text_piece bytes ≡ Some p → IsAtFront bytes p
text_at_front [] p first e = absurd (omega arith)
text_at_front (b ∷ bytes) p first e = by (content bytes) refl e
  where
    few : (t : List ℕ × ℕ) → content bytes ≡ Some t → (v : Bool) → nat_le (length t.0) MAX_TEXT_BYTES ≡ v
        → option_map (λ t. piece_of (kind.Text t.0) (t.1 + 1)) (cond v (Some t) None) ≡ Some p → IsAtFront (b ∷ bytes) p
    few t is false length-is found = cc
    few t is true length-is found =
        let short : length t.0 ≤ MAX_TEXT_BYTES = grind (arith, nat_tests) in
        let p-is : piece_of (kind.Text t.0) (t.1 + 1) ≡ p = cc in
        let c = closes bytes t is in
        subst (IsAtFront (b ∷ bytes)) p-is (record {
          piece = 39 ∷ (doubled t.0 ++ 39 ∷ []);
          more = c.more;
          whole = (λ i. first i ∷ c.whole i) ∙ ap (λ l. 39 ∷ l) (sym (append_assoc (doubled t.0) (39 ∷ []) c.more));
          len = omega (arith, c.len, length-append (doubled t.0) (39 ∷ []));
          spells = (refl, short);
          ends = c.stops;
        })

    by : (o : Option (List ℕ × ℕ)) → content bytes ≡ o → option_map (λ t. piece_of (kind.Text t.0) (t.1 + 1)) (if_short o) ≡ Some p → IsAtFront (b ∷ bytes) p
    by None is found = cc
    by (Some t) is found = few t is (nat_le (length t.0) MAX_TEXT_BYTES) refl found

-- ---- symbols

single_found : (b : ℕ) (s : Symbol) → single b ≡ Some s → symbol_bytes s ≡ b ∷ []
single_found b symbol.Open e = let is : b ≡ 40 = grind (arith, nat_tests) in ap (λ c. c ∷ []) (sym is)
single_found b symbol.Close e = let is : b ≡ 41 = grind (arith, nat_tests) in ap (λ c. c ∷ []) (sym is)
single_found b symbol.Comma e = let is : b ≡ 44 = grind (arith, nat_tests) in ap (λ c. c ∷ []) (sym is)
single_found b symbol.Dot e = let is : b ≡ 46 = grind (arith, nat_tests) in ap (λ c. c ∷ []) (sym is)
single_found b symbol.Star e = let is : b ≡ 42 = grind (arith, nat_tests) in ap (λ c. c ∷ []) (sym is)
single_found b symbol.Plus e = let is : b ≡ 43 = grind (arith, nat_tests) in ap (λ c. c ∷ []) (sym is)
single_found b symbol.Minus e = let is : b ≡ 45 = grind (arith, nat_tests) in ap (λ c. c ∷ []) (sym is)
single_found b symbol.Slash e = let is : b ≡ 47 = grind (arith, nat_tests) in ap (λ c. c ∷ []) (sym is)
single_found b symbol.Equal e = let is : b ≡ 61 = grind (arith, nat_tests) in ap (λ c. c ∷ []) (sym is)
single_found b symbol.Differ e = absurd (grind (arith, nat_tests))
single_found b symbol.Less e = absurd (grind (arith, nat_tests))
single_found b symbol.LessEqual e = absurd (grind (arith, nat_tests))
single_found b symbol.More e = absurd (grind (arith, nat_tests))
single_found b symbol.MoreEqual e = absurd (grind (arith, nat_tests))

single_ends : (b next : ℕ) (s : Symbol) → single b ≡ Some s → Lengthens next s → ⊥
single_ends b next symbol.Less e longer = grind (arith, nat_tests)
single_ends b next symbol.More e longer = grind (arith, nat_tests)
single_ends b next symbol.Open e longer = longer
single_ends b next symbol.Close e longer = longer
single_ends b next symbol.Comma e longer = longer
single_ends b next symbol.Dot e longer = longer
single_ends b next symbol.Star e longer = longer
single_ends b next symbol.Plus e longer = longer
single_ends b next symbol.Minus e longer = longer
single_ends b next symbol.Slash e longer = longer
single_ends b next symbol.Equal e longer = longer
single_ends b next symbol.Differ e longer = longer
single_ends b next symbol.LessEqual e longer = longer
single_ends b next symbol.MoreEqual e longer = longer

-- the symbol is at the front of the bytes
record SymbolAtFront (bytes : List ℕ) (s : Symbol) : Type 0 where
  pub more : List ℕ
  pub whole : bytes ≡ symbol_bytes s ++ more
  pub ends : Lengthens (get_or more 0 0) s → ⊥

-- a symbol of two bytes
two_bytes : (b c : ℕ) (rest : List ℕ) (s : Symbol) → symbol_bytes s ≡ b ∷ (c ∷ []) → 0 < c → ((next : ℕ) → Lengthens next s → ⊥) → get_or rest 0 0 ≡ c → SymbolAtFront (b ∷ rest) s
two_bytes b c [] s bytes some ends is = absurd (omega arith)
two_bytes b c (d ∷ rest) s bytes some ends is = record {
  more = rest;
  whole = (λ i. b ∷ (is i ∷ rest)) ∙ ap (λ l. l ++ rest) (sym bytes);
  ends = ends (get_or rest 0 0);
}

symbol_found : (b : ℕ) (rest : List ℕ) (s : Symbol) → symbol_of b (get_or rest 0 0) ≡ Some s → SymbolAtFront (b ∷ rest) s
symbol_found b rest s e = by (b == 60) refl (b == 62) refl e
  where
    less : b ≡ 60 → (v : Bool) → (get_or rest 0 0 == 62) ≡ v → (w : Bool) → (get_or rest 0 0 == 61) ≡ w → cond v symbol.Differ (cond w symbol.LessEqual symbol.Less) ≡ s → SymbolAtFront (b ∷ rest) s
    less b-is true is w also s-is = subst (SymbolAtFront (b ∷ rest)) s-is (rw b-is (two_bytes 60 62 rest symbol.Differ refl (omega arith) (λ next longer. longer) (eqb-true _ 62 is)))
    less b-is false is true also s-is = subst (SymbolAtFront (b ∷ rest)) s-is (rw b-is (two_bytes 60 61 rest symbol.LessEqual refl (omega arith) (λ next longer. longer) (eqb-true _ 61 also)))
    less b-is false is false also s-is = subst (SymbolAtFront (b ∷ rest)) s-is (record {
      more = rest;
      whole = ap (λ c. c ∷ rest) b-is;
      ends = ⊎_elim (false-eqb _ 61 (sym also)) (false-eqb _ 62 (sym is));
    })

    more_than : b ≡ 62 → (v : Bool) → (get_or rest 0 0 == 61) ≡ v → cond v symbol.MoreEqual symbol.More ≡ s → SymbolAtFront (b ∷ rest) s
    more_than b-is true is s-is = subst (SymbolAtFront (b ∷ rest)) s-is (rw b-is (two_bytes 62 61 rest symbol.MoreEqual refl (omega arith) (λ next longer. longer) (eqb-true _ 61 is)))
    more_than b-is false is s-is = subst (SymbolAtFront (b ∷ rest)) s-is (record { more = rest; whole = ap (λ c. c ∷ rest) b-is; ends = false-eqb _ 61 (sym is) })

    by : (v : Bool) → (b == 60) ≡ v → (w : Bool) → (b == 62) ≡ w
        → cond v (Some (after_less (get_or rest 0 0))) (cond w (Some (after_more (get_or rest 0 0))) (single b)) ≡ Some s → SymbolAtFront (b ∷ rest) s
    by true is w also found = less (eqb-true b 60 is) (get_or rest 0 0 == 62) refl (get_or rest 0 0 == 61) refl (cc)
    by false is true also found = more_than (eqb-true b 62 also) (get_or rest 0 0 == 61) refl (cc)
    by false is false also found = record {
      more = rest;
      whole = ap (λ l. l ++ rest) (sym (single_found b s found));
      ends = single_ends b (get_or rest 0 0) s found;
    }

symbol_at_front : (bytes : List ℕ) (p : Piece) → symbol_piece bytes ≡ Some p → IsAtFront bytes p
symbol_at_front [] p e = cc
symbol_at_front (b ∷ rest) p e = by (symbol_of b (get_or rest 0 0)) refl e
  where
    by : (o : Option Symbol) → symbol_of b (get_or rest 0 0) ≡ o → option_map (λ s. piece_of (kind.Symbol s) (length (symbol_bytes s))) o ≡ Some p → IsAtFront (b ∷ rest) p
    by None is found = cc
    by (Some s) is found =
        let p-is : piece_of (kind.Symbol s) (length (symbol_bytes s)) ≡ p = cc in
        let front = symbol_found b rest s is in
        subst (IsAtFront (b ∷ rest)) p-is (record {
          piece = symbol_bytes s;
          more = front.more;
          whole = front.whole;
          len = refl;
          spells = refl;
          ends = front.ends;
        })

-- ---- all

-- a piece is at the front, spells its token and can't be longer
pub at_front : (bytes : List ℕ) (p : Piece) → piece bytes ≡ Some p → IsAtFront bytes p
unfolding piece
at_front bytes p e = by (begins_word (get_or bytes 0 0)) refl (is_ascii_digit (get_or bytes 0 0)) refl (get_or bytes 0 0 == 39) refl e
  where
    by : (v : Bool) → begins_word (get_or bytes 0 0) ≡ v → (w : Bool) → is_ascii_digit (get_or bytes 0 0) ≡ w → (u : Bool) → (get_or bytes 0 0 == 39) ≡ u
        → cond v (word_piece bytes) (cond w (integer_piece bytes) (cond u (text_piece bytes) (symbol_piece bytes))) ≡ Some p → IsAtFront bytes p
    by true is w digit u quote found = word_at_front bytes p is found
    by false is true digit u quote found = integer_at_front bytes p digit found
    by false is false digit true quote found = text_at_front bytes p (eqb-true _ 39 quote) found
    by false is false digit false quote found = symbol_at_front bytes p found
