-- Readers behind one another, and readers of the same parts under other forms.
use Rattle.std.proofs.Common.{◌≡◌, ℕ, List, [], ◌∷◌, ◌++◌, Bool, true, false, ◌||◌, Ok, Err, refl, sym, ap, ◌∙◌, subst}
use Rattle.sql_lex.specs.declared.token.TokenKind.{TokenKind}
use Rattle.sql_parse.specs.declared.stop.Stop.TheVariants.{Stuck, Deep, NoMemory}
use Rattle.sql_parse.specs.inner.Reading.{Outcome, Parser, and_then, ◌>->◌, pure, begins}
use Rattle.sql_parse.proofs.ExpressionPhrases.{IsPhrase}
use Rattle.sql_parse.proofs.ExpressionLaws.{Fits}
use Rattle.sql_parse.proofs.ReaderParts.{Part, Word, Phrase, before, Every, Apart, fresh_after, Overruns, every_append, every_left, every_right, apart_append}
use Rattle.sql_parse.proofs.ReaderLaws.{Answers, Ended, IsReader, both, chained, sequence_answers, sequence_completes, sequence_deepens}

-- ---- what may be next

-- no token goes on
abbrev pub never : TokenKind → Bool
never token = false

abbrev pub or_goes : (TokenKind → Bool) → (TokenKind → Bool) → TokenKind → Bool
or_goes goes others token = goes token || others token

pub never_goes : (rest : List TokenKind) → Ended never rest
unfolding begins
never_goes [] = refl
never_goes (token ∷ rest) = refl

pub or_left : (a b : Bool) → (a || b) ≡ false → a ≡ false
or_left true b none = none
or_left false b none = refl

pub or_right : (a b : Bool) → (a || b) ≡ false → b ≡ false
or_right true true none = none
or_right true false none = refl
or_right false b none = none

pub ended_left : (goes others : TokenKind → Bool) (rest : List TokenKind) → Ended (or_goes goes others) rest → Ended goes rest
unfolding begins
ended_left goes others [] ended = refl
ended_left goes others (token ∷ rest) ended = or_left (goes token) (others token) ended

pub ended_right : (goes others : TokenKind → Bool) (rest : List TokenKind) → Ended (or_goes goes others) rest → Ended others rest
unfolding begins
ended_right goes others [] ended = refl
ended_right goes others (token ∷ rest) ended = or_right (goes token) (others token) ended

-- There is no part, or the first one is a word that doesn't go on.
abbrev pub Leads : (TokenKind → Bool) → List Part → Type 0
Leads goes [] = Unit {0}
Leads goes (Word kind ∷ parts) = goes kind ≡ false
Leads goes (Phrase tree ∷ parts) = ⊥

-- the first part is a word that doesn't go on
abbrev pub Starts : (TokenKind → Bool) → List Part → Type 0
Starts goes [] = ⊥
Starts goes (Word kind ∷ parts) = goes kind ≡ false
Starts goes (Phrase tree ∷ parts) = ⊥

pub starts_leads : (goes : TokenKind → Bool) (parts : List Part) → Starts goes parts → Leads goes parts
starts_leads goes [] starts = absurd starts
starts_leads goes (Word kind ∷ parts) starts = starts
starts_leads goes (Phrase tree ∷ parts) starts = absurd starts

pub leads_append : (goes : TokenKind → Bool) (parts others : List Part) → Leads goes parts → Leads goes others → Leads goes (parts ++ others)
leads_append goes [] others leads more = more
leads_append goes (Word kind ∷ parts) others leads more = leads
leads_append goes (Phrase tree ∷ parts) others leads more = absurd leads

pub leads_ended : (goes : TokenKind → Bool) (parts : List Part) (rest : List TokenKind) → Leads goes parts → Ended goes rest → Ended goes (before parts rest)
unfolding begins
leads_ended goes [] rest leads ended = ended
leads_ended goes (Word kind ∷ parts) rest leads ended = leads
leads_ended goes (Phrase tree ∷ parts) rest leads ended = absurd leads

pub starts_ended : (goes : TokenKind → Bool) (parts : List Part) (rest : List TokenKind) → Starts goes parts → Ended goes (before parts rest)
unfolding begins
starts_ended goes [] rest starts = absurd starts
starts_ended goes (Word kind ∷ parts) rest starts = starts
starts_ended goes (Phrase tree ∷ parts) rest starts = absurd starts

pub leads_over : (goes : TokenKind → Bool) (parts : List Part) (tokens : List TokenKind) (left : ℕ) → Leads goes parts → Overruns parts tokens left → Ended goes tokens
unfolding begins
leads_over goes [] tokens left leads over = absurd over
leads_over goes (Word kind ∷ parts) tokens left leads over = ap (begins goes) over.1 ∙ leads
leads_over goes (Phrase tree ∷ parts) tokens left leads over = absurd leads

leads_apart : (goes : TokenKind → Bool) (fresh : Bool) (parts : List Part) → Leads goes parts → Apart true parts → Apart fresh parts
leads_apart goes fresh [] leads apart = tt
leads_apart goes fresh (Word kind ∷ parts) leads apart = apart
leads_apart goes fresh (Phrase tree ∷ parts) leads apart = absurd leads

-- ---- sequences

module _ {F G A B : Type 0} (parts : F → List Part) (value : F → A) (p : Parser A) (others : G → List Part) (next : A → G → B) (q : A → Parser B)
    (goes goes_first goes_next : TokenKind → Bool) (first : IsReader parts value goes_first p) (second : (a : A) → IsReader others (next a) goes_next (q a)) where
  in_sequence :
      ((f : F) (g : G) → Apart (fresh_after true (parts f)) (others g)) →
      ((g : G) (rest : List TokenKind) → Ended goes rest → Ended goes_first (before (others g) rest)) →
      ((g : G) (tokens : List TokenKind) (left : ℕ) → Overruns (others g) tokens left → Ended goes_first tokens) →
      ((rest : List TokenKind) → Ended goes rest → Ended goes_next rest) →
      IsReader (both parts others) (chained value next) goes (p >-> q)
  in_sequence apart lets over ends = record {
    least = (first.least, (second (value first.least)).least);
    lawful = every_both_parts;
    apart = λ form. apart_append true (parts form.0) (others form.1) (first.apart form.0) (apart form.0 form.1);
    answers = λ tokens. sequence_answers parts value p others next q tokens (second (value first.least)).least (second (value first.least)).lawful
        (first.answers tokens) (λ a rest e. (second a).answers rest);
    complete = λ form rest lawful fits ended. sequence_completes parts value p others next q form.0 form.1 rest
        (first.complete form.0 (before (others form.1) rest) (every_left IsPhrase (parts form.0) (others form.1) lawful) (every_left Fits (parts form.0) (others form.1) fits) (lets form.1 rest ended))
        ((second (value form.0)).complete form.1 rest (every_right IsPhrase (parts form.0) (others form.1) lawful) (every_right Fits (parts form.0) (others form.1) fits) (ends rest ended));
    deep = λ form tokens left lawful overruns. sequence_deepens parts value p others next q form.0 form.1 tokens left overruns
        (λ left here. first.deep form.0 tokens left (every_left IsPhrase (parts form.0) (others form.1) lawful) here)
        (λ rest left fits later. first.complete form.0 rest (every_left IsPhrase (parts form.0) (others form.1) lawful) fits (over form.1 rest left later))
        (λ rest left later. (second (value form.0)).deep form.1 rest left (every_right IsPhrase (parts form.0) (others form.1) lawful) later);
  }
    where
      every_both_parts : Every IsPhrase (parts first.least ++ others (second (value first.least)).least)
      every_both_parts = every_append IsPhrase (parts first.least) (others (second (value first.least)).least) first.lawful (second (value first.least)).lawful

-- Nothing goes on with the first one: it ends with a word.
pub closed_then : {F G A B : Type 0} (parts : F → List Part) (value : F → A) (p : Parser A) (others : G → List Part) (next : A → G → B) (q : A → Parser B) (goes : TokenKind → Bool) →
    IsReader parts value never p → ((f : F) → fresh_after true (parts f) ≡ true) → ((a : A) → IsReader others (next a) goes (q a)) →
    IsReader (both parts others) (chained value next) goes (p >-> q)
closed_then parts value p others next q goes first closed second =
    in_sequence parts value p others next q goes never goes first second
    (λ f g. subst (λ fresh. Apart fresh (others g)) (sym (closed f)) ((second (value f)).apart g))
    (λ g rest ended. never_goes (before (others g) rest)) (λ g tokens left over. never_goes tokens) (λ rest ended. ended)

-- the second one always begins with a word that doesn't go on with the first one
pub open_then : {F G A B : Type 0} (parts : F → List Part) (value : F → A) (p : Parser A) (others : G → List Part) (next : A → G → B) (q : A → Parser B) (goes_first goes : TokenKind → Bool) →
    IsReader parts value goes_first p → ((g : G) → Starts goes_first (others g)) → ((a : A) → IsReader others (next a) goes (q a)) →
    IsReader (both parts others) (chained value next) goes (p >-> q)
open_then parts value p others next q goes_first goes first starts second =
    in_sequence parts value p others next q goes goes_first goes first second
    (λ f g. leads_apart goes_first (fresh_after true (parts f)) (others g) (starts_leads goes_first (others g) (starts g)) ((second (value f)).apart g))
    (λ g rest ended. starts_ended goes_first (others g) rest (starts g))
    (λ g tokens left over. leads_over goes_first (others g) tokens left (starts_leads goes_first (others g) (starts g)) over)
    (λ rest ended. ended)

-- the second one may be missing, and else begins with a word that doesn't go on with the first one
pub open_maybe : {F G A B : Type 0} (parts : F → List Part) (value : F → A) (p : Parser A) (others : G → List Part) (next : A → G → B) (q : A → Parser B) (goes_first goes_next : TokenKind → Bool) →
    IsReader parts value goes_first p → ((g : G) → Leads goes_first (others g)) → ((a : A) → IsReader others (next a) goes_next (q a)) →
    IsReader (both parts others) (chained value next) (or_goes goes_first goes_next) (p >-> q)
open_maybe parts value p others next q goes_first goes_next first leads second =
    in_sequence parts value p others next q (or_goes goes_first goes_next) goes_first goes_next first second
    (λ f g. leads_apart goes_first (fresh_after true (parts f)) (others g) (leads g) ((second (value f)).apart g))
    (λ g rest ended. leads_ended goes_first (others g) rest (leads g) (ended_left goes_first goes_next rest ended))
    (λ g tokens left over. leads_over goes_first (others g) tokens left (leads g) over)
    (λ rest ended. ended_right goes_first goes_next rest ended)

-- ---- other values

module _ {F A B : Type 0} (parts : F → List Part) (value : F → A) (p : Parser A) (f : A → B) where
  pub mapped_answer : (tokens : List TokenKind) (o : Outcome A) → Answers parts value p tokens o →
      Answers parts (λ form. f (value form)) (p >-> (λ x. pure (f x))) tokens (and_then o (λ x. pure (f x)))
  mapped_answer tokens (Ok read) given = record {
    form = given.form;
    lawful = given.lawful;
    fits = given.fits;
    whole = given.whole;
    means = ap f given.means;
    again = λ other same. ap (λ o. and_then o (λ x. pure (f x))) (given.again other same);
  }
  mapped_answer tokens (Err (Stuck left)) held = record {
    front = held.front;
    rest = held.rest;
    whole = held.whole;
    place = held.place;
    form = held.form;
    lawful = held.lawful;
    more = held.more;
    shows = held.shows;
    again = λ other same. ap (λ o. and_then o (λ x. pure (f x))) (held.again other same);
  }
  mapped_answer tokens (Err (Deep left)) over = over
  mapped_answer tokens (Err NoMemory) never = absurd never

  pub mapped : (goes : TokenKind → Bool) → IsReader parts value goes p → IsReader parts (λ form. f (value form)) goes (p >-> (λ x. pure (f x)))
  mapped goes reader = record {
    least = reader.least;
    lawful = reader.lawful;
    apart = reader.apart;
    answers = λ tokens. mapped_answer tokens (p tokens) (reader.answers tokens);
    complete = λ form rest lawful fits ended. ap (λ o. and_then o (λ x. pure (f x))) (reader.complete form rest lawful fits ended);
    deep = λ form tokens left lawful over. ap (λ o. and_then o (λ x. pure (f x))) (reader.deep form tokens left lawful over);
  }

-- ---- other forms

module _ {F G A : Type 0} (parts : F → List Part) (value : F → A) (p : Parser A) (goes : TokenKind → Bool) (others : G → List Part) (other_value : G → A)
    (to : F → G) (from : G → F) (to_parts : (f : F) → others (to f) ≡ parts f) (to_value : (f : F) → other_value (to f) ≡ value f)
    (from_parts : (g : G) → parts (from g) ≡ others g) (from_value : (g : G) → value (from g) ≡ other_value g) where
  pub formed_answer : (tokens : List TokenKind) (o : Outcome A) → Answers parts value p tokens o → Answers others other_value p tokens o
  formed_answer tokens (Ok read) given = record {
    form = to given.form;
    lawful = subst (Every IsPhrase) (sym (to_parts given.form)) given.lawful;
    fits = subst (Every Fits) (sym (to_parts given.form)) given.fits;
    whole = ap (λ l. before l read.1) (to_parts given.form) ∙ given.whole;
    means = to_value given.form ∙ given.means;
    again = λ other same. ap (λ l. p (before l other)) (to_parts given.form) ∙ given.again other same;
  }
  formed_answer tokens (Err (Stuck left)) held = record {
    front = held.front;
    rest = held.rest;
    whole = held.whole;
    place = held.place;
    form = to held.form;
    lawful = subst (Every IsPhrase) (sym (to_parts held.form)) held.lawful;
    more = held.more;
    shows = ap (λ l. before l []) (to_parts held.form) ∙ held.shows;
    again = held.again;
  }
  formed_answer tokens (Err (Deep left)) over = record {
    form = to over.form;
    lawful = subst (Every IsPhrase) (sym (to_parts over.form)) over.lawful;
    over = subst (λ l. Overruns l tokens left) (sym (to_parts over.form)) over.over;
  }
  formed_answer tokens (Err NoMemory) never = absurd never

  pub formed : IsReader parts value goes p → IsReader others other_value goes p
  formed reader = record {
    least = to reader.least;
    lawful = subst (Every IsPhrase) (sym (to_parts reader.least)) reader.lawful;
    apart = λ g. subst (Apart true) (from_parts g) (reader.apart (from g));
    answers = λ tokens. formed_answer tokens (p tokens) (reader.answers tokens);
    complete = λ g rest lawful fits ended.
        ap (λ l. p (before l rest)) (sym (from_parts g))
        ∙ reader.complete (from g) rest (subst (Every IsPhrase) (sym (from_parts g)) lawful) (subst (Every Fits) (sym (from_parts g)) fits) ended
        ∙ ap (λ a. Ok (a, rest)) (from_value g);
    deep = λ g tokens left lawful over.
        reader.deep (from g) tokens left (subst (Every IsPhrase) (sym (from_parts g)) lawful) (subst (λ l. Overruns l tokens left) (sym (from_parts g)) over);
  }
