-- Readers behind a word, and readers that the next token chooses.
use Rattle.std.proofs.Common.{◌≡◌, ◌⊎◌, ℕ, List, [], ◌∷◌, ◌++◌, Bool, true, false, if◌then◌else◌, Option, Some, None, Ok, Err, refl, sym, ap, ◌∙◌, inl, inr}
use Rattle.sql_lex.specs.declared.keyword.Keyword.{Keyword}
use Rattle.sql_lex.specs.declared.symbol.Symbol.{Symbol}
use Rattle.sql_lex.specs.declared.token.TokenKind.{TokenKind}
use Rattle.sql_lex.specs.declared.token.TokenKind.TheVariants as kind
use Rattle.sql_parse.specs.declared.stop.Stop.TheVariants.{Stuck, Deep, NoMemory}
use Rattle.sql_parse.specs.inner.Reading.{Outcome, Parser, ◌>>◌, pure, begins, keyword, symbol}
use Rattle.sql_parse.proofs.ExpressionPhrases.{IsPhrase}
use Rattle.sql_parse.proofs.ExpressionLaws.{Fits}
use Rattle.sql_parse.proofs.ReaderParts.{Part, Word, Phrase, before, Every, Apart, Overruns, SameFirst, same_onto, same_before}
use Rattle.sql_parse.proofs.ReaderLaws.{Answers, Ended, IsReader}
use Rattle.sql_parse.proofs.ReaderSequence.{Leads, never, never_goes, or_goes, ended_left, ended_right, closed_then, formed}
use Rattle.sql_parse.proofs.ReaderTokens.{token_reader, keyword_token, symbol_token}

-- ---- behind a word

abbrev pub behind : {F : Type 0} → TokenKind → (F → List Part) → F → List Part
behind word parts form = Word word ∷ parts form

module _ {F A : Type 0} (parts : F → List Part) (value : F → A) (goes : TokenKind → Bool) (p : Parser A) (reader : IsReader parts value goes p) where
  word_then : (word : TokenKind) (skip : Parser (Unit {0})) → IsReader {F = Unit {0}} (λ a. Word word ∷ []) (λ a. a) never skip → IsReader (behind word parts) value goes (skip >> p)
  word_then word skip first =
      formed _ _ (skip >> p) goes (behind word parts) value (λ form. form.1) (λ form. (tt, form)) (λ form. refl) (λ form. refl) (λ form. refl) (λ form. refl)
      (closed_then (λ (a : Unit {0}). Word word ∷ []) (λ a. a) skip parts (λ a form. value form) (λ a. p) goes first (λ a. refl) (λ a. reader))

  pub keyword_then : (k : Keyword) → IsReader (behind (kind.Keyword k) parts) value goes (keyword k >> p)
  keyword_then k = word_then (kind.Keyword k) (keyword k) (token_reader (λ a. kind.Keyword k) (keyword k) (keyword_token k) tt)

  pub symbol_then : (s : Symbol) → IsReader (behind (kind.Symbol s) parts) value goes (symbol s >> p)
  symbol_then s = word_then (kind.Symbol s) (symbol s) (token_reader (λ a. kind.Symbol s) (symbol s) (symbol_token s) tt)

-- ---- nothing

pub pure_reader : {A : Type 0} (a : A) → IsReader {F = Unit {0}} (λ form. []) (λ form. a) never (pure a)
pure_reader a = record {
  least = tt;
  lawful = tt;
  apart = λ form. tt;
  answers = λ tokens. record { form = tt; lawful = tt; fits = tt; whole = refl; means = refl; again = λ other same. refl };
  complete = λ form rest lawful fits ended. refl;
  deep = λ form tokens left lawful over. absurd over;
}

-- ---- choices

pub same_begins : (test : TokenKind → Bool) (tokens others : List TokenKind) → SameFirst tokens others → begins test others ≡ begins test tokens
unfolding begins
same_begins test [] [] same = refl
same_begins test [] (other ∷ others) same = absurd same
same_begins test (token ∷ tokens) [] same = absurd same
same_begins test (token ∷ tokens) (other ∷ others) same = ap test (sym same)

-- the first part is a word that passes the test
abbrev pub Picks : (TokenKind → Bool) → List Part → Type 0
Picks test [] = ⊥
Picks test (Word kind ∷ parts) = test kind ≡ true
Picks test (Phrase tree ∷ parts) = ⊥

picks_begins : (test : TokenKind → Bool) (parts : List Part) (rest : List TokenKind) → Picks test parts → begins test (before parts rest) ≡ true
unfolding begins
picks_begins test [] rest picks = absurd picks
picks_begins test (Word kind ∷ parts) rest picks = picks
picks_begins test (Phrase tree ∷ parts) rest picks = absurd picks

picks_over : (test : TokenKind → Bool) (parts : List Part) (tokens : List TokenKind) (left : ℕ) → Picks test parts → Overruns parts tokens left → begins test tokens ≡ true
unfolding begins
picks_over test [] tokens left picks over = absurd over
picks_over test (Word kind ∷ parts) tokens left picks over = ap (begins test) over.1 ∙ picks
picks_over test (Phrase tree ∷ parts) tokens left picks over = absurd picks

abbrev pub choice : {A : Type 0} → (TokenKind → Bool) → Parser A → Parser A → Parser A
choice test p q = λ tokens. if begins test tokens then p tokens else q tokens

abbrev pub either : {F G X : Type 0} → (F → X) → (G → X) → F ⊎ G → X
either f g (inl x) = f x
either f g (inr y) = g y

module _ {F G A : Type 0} (parts : F → List Part) (value : F → A) (p : Parser A) (others : G → List Part) (other_value : G → A) (q : Parser A) (test : TokenKind → Bool) where
  pub picked : (tokens : List TokenKind) → begins test tokens ≡ true → choice test p q tokens ≡ p tokens
  picked tokens picks = ap (λ b. if b then p tokens else q tokens) picks

  pub skipped : (tokens : List TokenKind) → begins test tokens ≡ false → choice test p q tokens ≡ q tokens
  skipped tokens skips = ap (λ b. if b then p tokens else q tokens) skips

  picked_answer : (tokens : List TokenKind) → begins test tokens ≡ true → (o : Outcome A) → Answers parts value p tokens o →
      Answers (either parts others) (either value other_value) (choice test p q) tokens o
  picked_answer tokens picks (Ok read) given = record {
    form = inl given.form;
    lawful = given.lawful;
    fits = given.fits;
    whole = given.whole;
    means = given.means;
    again = λ other same. picked (before (parts given.form) other)
        (same_begins test (before (parts given.form) read.1) (before (parts given.form) other) (same_before (parts given.form) read.1 other same)
        ∙ ap (begins test) given.whole ∙ picks)
        ∙ given.again other same;
  }
  picked_answer tokens picks (Err (Stuck left)) held = record {
    front = held.front;
    rest = held.rest;
    whole = held.whole;
    place = held.place;
    form = inl held.form;
    lawful = held.lawful;
    more = held.more;
    shows = held.shows;
    again = λ other same. picked (held.front ++ other)
        (same_begins test (held.front ++ held.rest) (held.front ++ other) (same_onto held.front held.rest other same) ∙ ap (begins test) held.whole ∙ picks)
        ∙ held.again other same;
  }
  picked_answer tokens picks (Err (Deep left)) over = record { form = inl over.form; lawful = over.lawful; over = over.over }
  picked_answer tokens picks (Err NoMemory) none = absurd none

  skipped_answer : (tokens : List TokenKind) → begins test tokens ≡ false → (o : Outcome A) → Answers others other_value q tokens o →
      Answers (either parts others) (either value other_value) (choice test p q) tokens o
  skipped_answer tokens skips (Ok read) given = record {
    form = inr given.form;
    lawful = given.lawful;
    fits = given.fits;
    whole = given.whole;
    means = given.means;
    again = λ other same. skipped (before (others given.form) other)
        (same_begins test (before (others given.form) read.1) (before (others given.form) other) (same_before (others given.form) read.1 other same)
        ∙ ap (begins test) given.whole ∙ skips)
        ∙ given.again other same;
  }
  skipped_answer tokens skips (Err (Stuck left)) held = record {
    front = held.front;
    rest = held.rest;
    whole = held.whole;
    place = held.place;
    form = inr held.form;
    lawful = held.lawful;
    more = held.more;
    shows = held.shows;
    again = λ other same. skipped (held.front ++ other)
        (same_begins test (held.front ++ held.rest) (held.front ++ other) (same_onto held.front held.rest other same) ∙ ap (begins test) held.whole ∙ skips)
        ∙ held.again other same;
  }
  skipped_answer tokens skips (Err (Deep left)) over = record { form = inr over.form; lawful = over.lawful; over = over.over }
  skipped_answer tokens skips (Err NoMemory) none = absurd none

  pub choice_answer : (tokens : List TokenKind) → Answers parts value p tokens (p tokens) → Answers others other_value q tokens (q tokens) →
      Answers (either parts others) (either value other_value) (choice test p q) tokens (choice test p q tokens)
  choice_answer tokens first second = by (begins test tokens) refl
    where
      by : (b : Bool) → begins test tokens ≡ b → Answers (either parts others) (either value other_value) (choice test p q) tokens (if b then p tokens else q tokens)
      by true picks = picked_answer tokens picks (p tokens) first
      by false skips = skipped_answer tokens skips (q tokens) second

  pub chosen : (goes goes_first goes_second : TokenKind → Bool) → IsReader parts value goes_first p → IsReader others other_value goes_second q →
      ((form : F) → Picks test (parts form)) →
      ((form : G) (rest : List TokenKind) → Ended goes rest → Ended test (before (others form) rest)) →
      ((form : G) (tokens : List TokenKind) (left : ℕ) → Overruns (others form) tokens left → Ended test tokens) →
      ((rest : List TokenKind) → Ended goes rest → Ended goes_first rest) →
      ((rest : List TokenKind) → Ended goes rest → Ended goes_second rest) →
      IsReader (either parts others) (either value other_value) goes (choice test p q)
  chosen goes goes_first goes_second first second picks skips over ends_first ends_second = record {
    least = inl first.least;
    lawful = first.lawful;
    apart = apart;
    answers = λ tokens. choice_answer tokens (first.answers tokens) (second.answers tokens);
    complete = complete;
    deep = deep;
  }
    where
      apart : (form : F ⊎ G) → Apart true (either parts others form)
      apart (inl form) = first.apart form
      apart (inr form) = second.apart form

      complete : (form : F ⊎ G) (rest : List TokenKind) → Every IsPhrase (either parts others form) → Every Fits (either parts others form) → Ended goes rest →
          choice test p q (before (either parts others form) rest) ≡ Ok (either value other_value form, rest)
      complete (inl form) rest lawful fits ended = picked (before (parts form) rest) (picks_begins test (parts form) rest (picks form)) ∙ first.complete form rest lawful fits (ends_first rest ended)
      complete (inr form) rest lawful fits ended = skipped (before (others form) rest) (skips form rest ended) ∙ second.complete form rest lawful fits (ends_second rest ended)

      deep : (form : F ⊎ G) (tokens : List TokenKind) (left : ℕ) → Every IsPhrase (either parts others form) → Overruns (either parts others form) tokens left →
          choice test p q tokens ≡ Err (Deep left)
      deep (inl form) tokens left lawful overruns = picked tokens (picks_over test (parts form) tokens left (picks form) overruns) ∙ first.deep form tokens left lawful overruns
      deep (inr form) tokens left lawful overruns = skipped tokens (over form tokens left overruns) ∙ second.deep form tokens left lawful overruns

-- ---- what may be missing

abbrev pub maybe_parts : {F : Type 0} → (F → List Part) → Option F → List Part
maybe_parts parts None = []
maybe_parts parts (Some form) = parts form

abbrev pub maybe_value : {F A : Type 0} → (F → A) → A → Option F → A
maybe_value value missing None = missing
maybe_value value missing (Some form) = value form

pub optional : {F A : Type 0} (parts : F → List Part) (value : F → A) (goes : TokenKind → Bool) (p : Parser A) (test : TokenKind → Bool) (missing : A) →
    IsReader parts value goes p → ((form : F) → Picks test (parts form)) →
    IsReader (maybe_parts parts) (maybe_value value missing) (or_goes goes test) (choice test p (pure missing))
optional {F} {A} parts value goes p test missing reader picks =
    formed (either parts (λ (form : Unit {0}). [])) (either value (λ form. missing)) (choice test p (pure missing)) (or_goes goes test) (maybe_parts parts) (maybe_value value missing)
    to from to_parts to_value from_parts from_value
    (chosen parts value p (λ (form : Unit {0}). []) (λ form. missing) (pure missing) test (or_goes goes test) goes never reader (pure_reader missing) picks
    (λ form rest ended. ended_right goes test rest ended) (λ form tokens left over. absurd over) (λ rest ended. ended_left goes test rest ended) (λ rest ended. never_goes rest))
  where
    to : F ⊎ Unit {0} → Option F
    to (inl form) = Some form
    to (inr none) = None

    from : Option F → F ⊎ Unit {0}
    from None = inr tt
    from (Some form) = inl form

    to_parts : (form : F ⊎ Unit {0}) → maybe_parts parts (to form) ≡ either parts (λ (form : Unit {0}). []) form
    to_parts (inl form) = refl
    to_parts (inr none) = refl

    to_value : (form : F ⊎ Unit {0}) → maybe_value value missing (to form) ≡ either value (λ (form : Unit {0}). missing) form
    to_value (inl form) = refl
    to_value (inr none) = refl

    from_parts : (form : Option F) → either parts (λ (form : Unit {0}). []) (from form) ≡ maybe_parts parts form
    from_parts None = refl
    from_parts (Some form) = refl

    from_value : (form : Option F) → either value (λ (form : Unit {0}). missing) (from form) ≡ maybe_value value missing form
    from_value None = refl
    from_value (Some form) = refl

pub maybe_leads : {F : Type 0} (goes : TokenKind → Bool) (parts : F → List Part) → ((form : F) → Leads goes (parts form)) → (form : Option F) → Leads goes (maybe_parts parts form)
maybe_leads goes parts leads None = tt
maybe_leads goes parts leads (Some form) = leads form
