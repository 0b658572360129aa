-- Laws: what the code cuts a text into is the one way to cut it, and it stops exactly where no token begins.
use Rattle.std.proofs.Common.{◌≡◌, ◌<◌, ◌≤◌, ◌+◌, ◌-◌, ℕ, zero, suc, Bool, true, false, List, [], ◌∷◌, ◌++◌, length, drop, get_or, Option, Some, None, Ok, Err, refl, sym, ap, ◌∙◌, subst, arith, length-append, append_assoc, append-nil, add-zero}
use Rattle.std.proofs.Math.Seq.{drop-append_seam}
use Rattle.std.proofs.lemmas.Bool.Decides.{nat_tests}
use Rattle.std.specs.List.{list_all}
use Rattle.std.specs.Char.{is_ascii_digit}
use Rattle.geo_base.specs.laws.Answers.{Tells}
use Rattle.sql_lex.specs.declared.symbol.Symbol.{Symbol}
use Rattle.sql_lex.specs.declared.symbol.Symbol.TheVariants as symbol
use Rattle.sql_lex.specs.declared.token.LexFault.{LexFault}
use Rattle.sql_lex.specs.declared.token.LexFault.TheVariants.{BadText, NoMemory}
use Rattle.sql_lex.specs.declared.token.Piece.{Piece}
use Rattle.sql_lex.specs.declared.token.Token.{Token}
use Rattle.sql_lex.specs.declared.token.TokenKind.{TokenKind}
use Rattle.sql_lex.specs.declared.token.TokenKind.TheVariants as kind
use Rattle.sql_lex.specs.Bytes.{is_blank, begins_word}
use Rattle.sql_lex.specs.inner.Pieces.{piece, piece_of}
use Rattle.sql_lex.specs.Symbols.{symbol_bytes}
use Rattle.sql_lex.specs.inner.Tokens.{Tokens, token_at, before, first_and, tokens_from, tokens_of}
use Rattle.sql_lex.specs.Grammar.{Spells, EndsAt, AreCutFrom, AreTokensOf, NoTokenBegins, StopsAt, IsLexFault}
use Rattle.sql_lex.specs.laws.Fronts.{first_passes, rest_passes}
use Rattle.sql_lex.specs.laws.Spellings.{IsAtFront, at_front}
use Rattle.sql_lex.specs.laws.Taken.{first_of_append, taken}

-- ---- one step

skip : (at n : ℕ) (z : List ℕ) → n ≤ length z → tokens_from at n z ≡ tokens_from (at + n) 0 (drop n z)
unfolding tokens_from
skip at zero z within = ap (λ m. tokens_from m 0 z) (sym (add-zero at))
skip at (suc n) [] within = absurd (omega arith)
skip at (suc n) (b ∷ z) within = let e : at + 1 + n ≡ at + suc n = omega arith in skip (at + 1) n z (omega arith) ∙ ap (λ m. tokens_from m 0 (drop n z)) e

pub at_end : (at : ℕ) → tokens_from at 0 [] ≡ Ok []
unfolding tokens_from
at_end at = refl

pub at_blank : (at : ℕ) (z : List ℕ) → 0 < length z → is_blank (get_or z 0 0) ≡ true → tokens_from at 0 z ≡ tokens_from (at + 1) 0 (drop 1 z)
unfolding tokens_from
at_blank at [] some blank = absurd (omega arith)
at_blank at (b ∷ z) some blank = rw blank refl

nonblank_step : (at b : ℕ) (z : List ℕ) → is_blank b ≡ false → tokens_from at 0 (b ∷ z) ≡ first_and at (λ len. tokens_from (at + 1) (len - 1) z) (piece (b ∷ z))
unfolding tokens_from
nonblank_step at b z blank = rw blank refl

pub at_token : (at : ℕ) (z : List ℕ) (p : Piece) → is_blank (get_or z 0 0) ≡ false → piece z ≡ Some p → 0 < p.len → p.len ≤ length z → tokens_from at 0 z ≡ before (token_at at p) (tokens_from (at + p.len) 0 (drop p.len z))
at_token at [] p blank found some within = absurd (omega arith)
at_token at (b ∷ z) p blank found some within = opened ∙ ap (first_and at go) found ∙ ap (before (token_at at p)) (by p.len some within)
  where
    go : ℕ → Tokens
    go = λ len. tokens_from (at + 1) (len - 1) z

    opened : tokens_from at 0 (b ∷ z) ≡ first_and at go (piece (b ∷ z))
    opened = nonblank_step at b z blank

    by : (n : ℕ) → 0 < n → n ≤ suc (length z) → tokens_from (at + 1) (n - 1) z ≡ tokens_from (at + n) 0 (drop n (b ∷ z))
    by zero some within = absurd (omega arith)
    by (suc n) some within =
        let e : suc n - 1 ≡ n = omega arith in
        let f : at + 1 + n ≡ at + suc n = omega arith in
        ap (λ m. tokens_from (at + 1) m z) e ∙ skip (at + 1) n z (omega arith) ∙ ap (λ m. tokens_from m 0 (drop n z)) f

pub at_fault : (at : ℕ) (z : List ℕ) → 0 < length z → is_blank (get_or z 0 0) ≡ false → piece z ≡ None → tokens_from at 0 z ≡ Err (BadText at)
at_fault at [] some blank found = absurd (omega arith)
at_fault at (b ∷ z) some blank found = nonblank_step at b z blank ∙ ap (first_and at (λ len. tokens_from (at + 1) (len - 1) z)) found

-- ---- the first byte of a token

pub spelled_some : (k : TokenKind) (p : List ℕ) → Spells k p → 0 < length p
spelled_some (kind.Name name) p spells = spells.1.some
spelled_some (kind.Keyword k) p spells = spells.0.some
spelled_some (kind.Int value) p spells = spells.2.some
spelled_some (kind.Text text) p spells = rw spells.0 (omega arith)
spelled_some (kind.Symbol s) p spells = rw spells (by s)
  where
    by : (s : Symbol) → 0 < length (symbol_bytes s)
    by symbol.Open = omega arith
    by symbol.Close = omega arith
    by symbol.Comma = omega arith
    by symbol.Dot = omega arith
    by symbol.Star = omega arith
    by symbol.Plus = omega arith
    by symbol.Minus = omega arith
    by symbol.Slash = omega arith
    by symbol.Equal = omega arith
    by symbol.Differ = omega arith
    by symbol.Less = omega arith
    by symbol.LessEqual = omega arith
    by symbol.More = omega arith
    by symbol.MoreEqual = omega arith

word_no_blank : (b : ℕ) → begins_word b ≡ true → is_blank b ≡ false
unfolding begins_word is_blank
word_no_blank b h = grind (arith, nat_tests)

digit_no_blank : (b : ℕ) → is_ascii_digit b ≡ true → is_blank b ≡ false
unfolding is_blank
digit_no_blank b h = grind (arith, nat_tests)

digits_no_blank : (p : List ℕ) → 0 < length p → list_all is_ascii_digit p ≡ true → is_blank (get_or p 0 0) ≡ false
digits_no_blank [] some all = absurd (omega arith)
digits_no_blank (d ∷ p) some all = digit_no_blank d (first_passes is_ascii_digit d p all)

symbol_no_blank : (s : Symbol) → is_blank (get_or (symbol_bytes s) 0 0) ≡ false
unfolding is_blank
symbol_no_blank symbol.Open = refl
symbol_no_blank symbol.Close = refl
symbol_no_blank symbol.Comma = refl
symbol_no_blank symbol.Dot = refl
symbol_no_blank symbol.Star = refl
symbol_no_blank symbol.Plus = refl
symbol_no_blank symbol.Minus = refl
symbol_no_blank symbol.Slash = refl
symbol_no_blank symbol.Equal = refl
symbol_no_blank symbol.Differ = refl
symbol_no_blank symbol.Less = refl
symbol_no_blank symbol.LessEqual = refl
symbol_no_blank symbol.More = refl
symbol_no_blank symbol.MoreEqual = refl

quote_no_blank : is_blank 39 ≡ false
unfolding is_blank
quote_no_blank = refl

spelled_no_blank : (k : TokenKind) (p : List ℕ) → Spells k p → is_blank (get_or p 0 0) ≡ false
spelled_no_blank (kind.Name name) p spells = word_no_blank (get_or p 0 0) spells.1.first
spelled_no_blank (kind.Keyword k) p spells = word_no_blank (get_or p 0 0) spells.0.first
spelled_no_blank (kind.Int value) p spells = digits_no_blank p spells.2.some spells.2.digits
spelled_no_blank (kind.Text text) p spells = ap (λ l. is_blank (get_or l 0 0)) spells.0 ∙ quote_no_blank
spelled_no_blank (kind.Symbol s) p spells = ap (λ l. is_blank (get_or l 0 0)) spells ∙ symbol_no_blank s

-- a spelled token that nothing lengthens is cut off
spelled_step : (at : ℕ) (k : TokenKind) (p more : List ℕ) → Spells k p → EndsAt k more → tokens_from at 0 (p ++ more) ≡ before (token_at at (piece_of k (length p))) (tokens_from (at + length p) 0 more)
spelled_step at k p more spells ends =
    let some : 0 < length p = spelled_some k p spells in
    let blank : is_blank (get_or (p ++ more) 0 0) ≡ false = ap is_blank (first_of_append p more some) ∙ spelled_no_blank k p spells in
    at_token at (p ++ more) (piece_of k (length p)) blank (taken k p more spells ends) some (omega (arith, length-append p more))
    ∙ ap (λ l. before (token_at at (piece_of k (length p))) (tokens_from (at + length p) 0 l)) (drop-append_seam p more)

-- ---- what the answer is

-- the tokens up to a place, counted from another, where no token begins
pub record StopsFrom (at : ℕ) (text : List ℕ) (fault : LexFault) : Type 0 where
  pub stop : ℕ
  pub is : fault ≡ BadText stop
  pub tokens : List Token
  pub rest : List ℕ
  pub cut : AreCutFrom at text tokens rest
  pub place : stop + length rest ≡ at + length text
  pub none : NoTokenBegins rest

abbrev pub IsAnswer : ℕ → List ℕ → Tokens → Type 0
IsAnswer at text (Ok tokens) = AreCutFrom at text tokens []
IsAnswer at text (Err fault) = StopsFrom at text fault

cut_blank : (at b : ℕ) (text : List ℕ) (tokens : List Token) (rest : List ℕ) → is_blank b ≡ true → AreCutFrom (at + 1) text tokens rest → AreCutFrom at (b ∷ text) tokens rest
cut_blank at b text [] rest blank cut = (b ∷ cut.0, ap (λ l. b ∷ l) cut.1, rw blank cut.2)
cut_blank at b text (t ∷ tokens) rest blank cut =
    let first = cut.1 in (
      cut.0,
      record {
        blanks = b ∷ first.blanks;
        piece = first.piece;
        whole = ap (λ l. b ∷ l) first.whole;
        apart = rw blank first.apart;
        spells = first.spells;
        ends = first.ends;
        from = omega (arith, first.from);
        to = first.to;
      },
      cut.2,
    )

answer_blank : (at b : ℕ) (text : List ℕ) (answer : Tokens) → is_blank b ≡ true → IsAnswer (at + 1) text answer → IsAnswer at (b ∷ text) answer
answer_blank at b text (Ok tokens) blank is = cut_blank at b text tokens [] blank is
answer_blank at b text (Err fault) blank is = record {
  stop = is.stop;
  is = is.is;
  tokens = is.tokens;
  rest = is.rest;
  cut = cut_blank at b text is.tokens is.rest blank is.cut;
  place = omega (arith, is.place);
  none = is.none;
}

cut_token : (at : ℕ) (text : List ℕ) (p : Piece) (front : IsAtFront text p) (tokens : List Token) (rest : List ℕ) → AreCutFrom (at + p.len) front.more tokens rest → AreCutFrom at text (token_at at p ∷ tokens) rest
cut_token at text p front tokens rest cut = (
  front.more,
  record {
    blanks = [];
    piece = front.piece;
    whole = front.whole;
    apart = refl;
    spells = front.spells;
    ends = front.ends;
    from = sym (add-zero at);
    to = ap (λ n. at + n) front.len;
  },
  cut,
)

answer_token : (at : ℕ) (text : List ℕ) (p : Piece) (front : IsAtFront text p) (answer : Tokens) → IsAnswer (at + p.len) front.more answer → IsAnswer at text (before (token_at at p) answer)
answer_token at text p front (Ok tokens) is = cut_token at text p front tokens [] is
answer_token at text p front (Err fault) is = record {
  stop = is.stop;
  is = is.is;
  tokens = token_at at p ∷ is.tokens;
  rest = is.rest;
  cut = cut_token at text p front is.tokens is.rest is.cut;
  place = omega (arith, is.place, front.len, ap length front.whole, length-append front.piece front.more);
  none = is.none;
}

none_begins : (text : List ℕ) → 0 < length text → is_blank (get_or text 0 0) ≡ false → piece text ≡ None → NoTokenBegins text
none_begins text some blank none = record {
  some = some;
  no_blank = blank;
  no_token = λ k p more whole spells ends. let found : piece text ≡ Some (piece_of k (length p)) = ap piece whole ∙ taken k p more spells ends in cc;
}

pub answers : (fuel at : ℕ) (text : List ℕ) → length text ≤ fuel → IsAnswer at text (tokens_from at 0 text)
answers fuel at [] few = subst (IsAnswer at []) (sym (at_end at)) ([], refl, refl)
answers zero at (b ∷ text) few = absurd (omega arith)
answers (suc fuel) at (b ∷ text) few = by (is_blank b) refl (piece (b ∷ text)) refl (answers fuel)
  where
    by : (v : Bool) → is_blank b ≡ v → (o : Option Piece) → piece (b ∷ text) ≡ o
        → ((from : ℕ) (rest : List ℕ) → length rest ≤ fuel → IsAnswer from rest (tokens_from from 0 rest)) → IsAnswer at (b ∷ text) (tokens_from at 0 (b ∷ text))
    by true blank o found rest =
        subst (IsAnswer at (b ∷ text)) (sym (at_blank at (b ∷ text) (omega arith) blank)) (answer_blank at b text (tokens_from (at + 1) 0 text) blank (rest (at + 1) text (omega arith)))
    by false blank None found rest =
        subst (IsAnswer at (b ∷ text)) (sym (at_fault at (b ∷ text) (omega arith) blank found)) (record {
          stop = at;
          is = refl;
          tokens = [];
          rest = b ∷ text;
          cut = ([], refl, refl);
          place = refl;
          none = none_begins (b ∷ text) (omega arith) blank found;
        })
    by false blank (Some p) found rest =
        let front = at_front (b ∷ text) p found in
        let some : 0 < length front.piece = spelled_some p.kind front.piece front.spells in
        let lengths : suc (length text) ≡ length front.piece + length front.more = ap length front.whole ∙ length-append front.piece front.more in
        let tail : drop p.len (b ∷ text) ≡ front.more = ap (λ n. drop n (b ∷ text)) front.len ∙ ap (drop (length front.piece)) front.whole ∙ drop-append_seam front.piece front.more in
        let step = at_token at (b ∷ text) p blank found (omega (arith, front.len, some)) (omega (arith, front.len, lengths)) ∙ ap (λ l. before (token_at at p) (tokens_from (at + p.len) 0 l)) tail in
        subst (IsAnswer at (b ∷ text)) (sym step) (answer_token at (b ∷ text) p front (tokens_from (at + p.len) 0 front.more) (rest (at + p.len) front.more (omega (arith, some, lengths))))

-- ---- there is no other

-- these tokens, and then what is answered after them
abbrev pub joined : List Token → Tokens → Tokens
joined tokens (Ok more) = Ok (tokens ++ more)
joined tokens (Err fault) = Err fault

pub joined-nil : (answer : Tokens) → joined [] answer ≡ answer
joined-nil (Ok tokens) = refl
joined-nil (Err fault) = refl

joined-cons : (t : Token) (tokens : List Token) (answer : Tokens) → before t (joined tokens answer) ≡ joined (t ∷ tokens) answer
joined-cons t tokens (Ok more) = refl
joined-cons t tokens (Err fault) = refl

pub joined-push : (tokens : List Token) (t : Token) (answer : Tokens) → joined tokens (before t answer) ≡ joined (tokens ++ t ∷ []) answer
joined-push tokens t (Ok more) = ap Ok (sym (append_assoc tokens (t ∷ []) more))
joined-push tokens t (Err fault) = refl

past_blanks : (at : ℕ) (blanks rest : List ℕ) → list_all is_blank blanks ≡ true → tokens_from at 0 (blanks ++ rest) ≡ tokens_from (at + length blanks) 0 rest
past_blanks at [] rest all = ap (λ n. tokens_from n 0 rest) (sym (add-zero at))
past_blanks at (b ∷ blanks) rest all =
    let e : at + 1 + length blanks ≡ at + suc (length blanks) = omega arith in
    at_blank at (b ∷ (blanks ++ rest)) (omega arith) (first_passes is_blank b blanks all) ∙ past_blanks (at + 1) blanks rest (rest_passes is_blank b blanks all) ∙ ap (λ n. tokens_from n 0 rest) e

-- the tokens of the cut, and then what is answered from the place where the rest begins
cut_answer : (tokens : List Token) (at stop : ℕ) (text rest : List ℕ) → AreCutFrom at text tokens rest → stop + length rest ≡ at + length text → tokens_from at 0 text ≡ joined tokens (tokens_from stop 0 rest)
cut_answer [] at stop text rest cut place =
    let e : at + length cut.0 ≡ stop = omega (arith, ap length cut.1, length-append cut.0 rest) in
    ap (tokens_from at 0) cut.1 ∙ past_blanks at cut.0 rest cut.2 ∙ ap (λ n. tokens_from n 0 rest) e ∙ sym (joined-nil (tokens_from stop 0 rest))
cut_answer (t ∷ tokens) at stop text rest cut place =
    let first = cut.1 in
    let more = cut.0 in
    let from : at + length first.blanks ≡ t.from = sym first.from in
    let to : t.from + length first.piece ≡ t.to = sym first.to in
    let lengths : length text ≡ length first.blanks + (length first.piece + length more) = ap length first.whole ∙ length-append first.blanks (first.piece ++ more) ∙ ap (λ n. length first.blanks + n) (length-append first.piece more) in
    let token : token_at t.from (piece_of t.kind (length first.piece)) ≡ t = λ i. record { kind = t.kind; from = t.from; to = to i } in
    ap (tokens_from at 0) first.whole
    ∙ past_blanks at first.blanks (first.piece ++ more) first.apart
    ∙ ap (λ n. tokens_from n 0 (first.piece ++ more)) from
    ∙ spelled_step t.from t.kind first.piece more first.spells first.ends
    ∙ (λ i. before (token i) (tokens_from (to i) 0 more))
    ∙ ap (before t) (cut_answer tokens t.to stop more rest cut.2 (omega (arith, place, lengths, from, to)))
    ∙ joined-cons t tokens (tokens_from stop 0 rest)

no_piece : (rest : List ℕ) → NoTokenBegins rest → piece rest ≡ None
no_piece rest none = by (piece rest) refl
  where
    by : (o : Option Piece) → piece rest ≡ o → o ≡ None
    by None e = refl
    by (Some p) e = let front = at_front rest p e in absurd (none.no_token p.kind front.piece front.more front.whole front.spells front.ends)

-- ---- the laws

pub tokens_are_cut : (text : List ℕ) (tokens : List Token) → tokens_of text ≡ Ok tokens → AreTokensOf tokens text
unfolding tokens_of
tokens_are_cut text tokens e = subst (IsAnswer 0 text) e (answers (length text) 0 text (omega arith))

pub cut_is_tokens : (text : List ℕ) (tokens : List Token) → AreTokensOf tokens text → tokens_of text ≡ Ok tokens
unfolding tokens_of
cut_is_tokens text tokens cut =
    let place : length text + 0 ≡ 0 + length text = omega arith in
    cut_answer tokens 0 (length text) text [] cut place ∙ ap (joined tokens) (at_end (length text)) ∙ ap Ok (append-nil tokens)

pub fault_stops : (text : List ℕ) (fault : LexFault) → tokens_of text ≡ Err fault → (at : ℕ) × (fault ≡ BadText at) × StopsAt text at
unfolding tokens_of
fault_stops text fault e =
    let stops : StopsFrom 0 text fault = subst (IsAnswer 0 text) e (answers (length text) 0 text (omega arith)) in
    (stops.stop, stops.is, record { tokens = stops.tokens; rest = stops.rest; cut = stops.cut; place = omega (arith, stops.place); none = stops.none })

pub stops_there : (text : List ℕ) (at : ℕ) → tokens_of text ≡ Err (BadText at) → StopsAt text at
stops_there text at e =
    let stops = fault_stops text (BadText at) e in
    let same : at ≡ stops.0 = cc in
    subst (StopsAt text) (sym same) stops.2

pub stop_is_fault : (text : List ℕ) (at : ℕ) → StopsAt text at → tokens_of text ≡ Err (BadText at)
unfolding tokens_of
stop_is_fault text at stops =
    cut_answer stops.tokens 0 at text stops.rest stops.cut (omega (arith, stops.place))
    ∙ ap (joined stops.tokens) (at_fault at stops.rest stops.none.some stops.none.no_blank (no_piece stops.rest stops.none))

-- what cutting a text gives tells its tokens, or the fault that it has
pub tokens_tell : (text : List ℕ) → Tells (Unit {0}) (tokens_of text) (λ tokens. AreTokensOf tokens text) (IsLexFault text)
tokens_tell text = record {
  found = λ _ tokens e. tokens_are_cut text tokens e;
  only = λ tokens cut. cut_is_tokens text tokens cut;
  cause = λ _ fault e. let stops = fault_stops text fault e in subst (IsLexFault text) (sym stops.1) stops.2;
  refused = has_fault;
}
  where
    has_fault : (fault : LexFault) → IsLexFault text fault → tokens_of text ≡ Err fault
    has_fault (BadText at) stops = stop_is_fault text at stops
    has_fault NoMemory none = absurd none
