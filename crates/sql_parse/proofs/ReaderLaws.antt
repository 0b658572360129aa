-- What a reader of parts answers, and readers behind one another.
use Rattle.std.proofs.Common.{◌≡◌, ◌⊎◌, ℕ, List, [], ◌++◌, length, Bool, true, false, Ok, Err, refl, sym, ap, ◌∙◌, append_assoc, inl, inr, subst}
use Rattle.sql_lex.specs.declared.token.TokenKind.{TokenKind}
use Rattle.sql_parse.specs.declared.stop.Stop.TheVariants.{Stuck, Deep, NoMemory}
use Rattle.sql_parse.specs.inner.Reading.{Outcome, Parser, and_then, ◌>->◌, begins}
use Rattle.sql_parse.proofs.ExpressionPhrases.{IsPhrase}
use Rattle.sql_parse.proofs.ExpressionLaws.{Fits}
use Rattle.sql_parse.proofs.ReaderParts.{Part, before, Every, Apart, Overruns, Later, SameFirst, before_append, before_onto, every_append, overruns_left, overruns_right, overruns_split, same_onto, same_before}

-- ---- answers

-- The tokens begin with a form that is read as this; and so it is with others behind the first token that is left.
pub record IsGiven {F A : Type 0} (parts : F → List Part) (value : F → A) (p : Parser A) (tokens : List TokenKind) (a : A) (rest : List TokenKind) : Type 0 where
  pub form : F
  pub lawful : Every IsPhrase (parts form)
  pub fits : Every Fits (parts form)
  pub whole : before (parts form) rest ≡ tokens
  pub means : value form ≡ a
  pub again : (other : List TokenKind) → SameFirst rest other → p (before (parts form) other) ≡ Ok (a, other)

-- A form begins with the tokens up to here, and reading stops here; and so it does with others behind this token.
pub record IsHeld {F A : Type 0} (parts : F → List Part) (p : Parser A) (tokens : List TokenKind) (left : ℕ) : Type 0 where
  pub front : List TokenKind
  pub rest : List TokenKind
  pub whole : front ++ rest ≡ tokens
  pub place : length rest ≡ left
  pub form : F
  pub lawful : Every IsPhrase (parts form)
  pub more : List TokenKind
  pub shows : before (parts form) [] ≡ front ++ more
  pub again : (other : List TokenKind) → SameFirst rest other → p (front ++ other) ≡ Err (Stuck (length other))

-- the tokens are those of a form up to the first mark that is one too many
pub record IsOver {F : Type 0} (parts : F → List Part) (tokens : List TokenKind) (left : ℕ) : Type 0 where
  pub form : F
  pub lawful : Every IsPhrase (parts form)
  pub over : Overruns (parts form) tokens left

abbrev pub Answers : {F A : Type 0} → (F → List Part) → (F → A) → Parser A → List TokenKind → Outcome A → Type 0
Answers parts value p tokens (Ok read) = IsGiven parts value p tokens read.0 read.1
Answers parts value p tokens (Err (Stuck left)) = IsHeld parts p tokens left
Answers parts value p tokens (Err (Deep left)) = IsOver parts tokens left
Answers parts value p tokens (Err NoMemory) = ⊥

-- ---- readers

-- no token that goes on is next
abbrev pub Ended : (TokenKind → Bool) → List TokenKind → Type 0
Ended goes rest = begins goes rest ≡ false

abbrev pub Completes : {F A : Type 0} → (F → List Part) → (F → A) → (TokenKind → Bool) → Parser A → Type 0
Completes {F} parts value goes p =
    (f : F) (rest : List TokenKind) → Every IsPhrase (parts f) → Every Fits (parts f) → Ended goes rest → p (before (parts f) rest) ≡ Ok (value f, rest)

abbrev pub Deepens : {F A : Type 0} → (F → List Part) → Parser A → Type 0
Deepens {F} parts p = (f : F) (tokens : List TokenKind) (left : ℕ) → Every IsPhrase (parts f) → Overruns (parts f) tokens left → p tokens ≡ Err (Deep left)

-- The parser reads forms: each has its parts and its value, and such tokens behind it would go on with it.
pub record IsReader {F A : Type 0} (parts : F → List Part) (value : F → A) (goes : TokenKind → Bool) (p : Parser A) : Type 0 where
  -- a form
  pub least : F
  pub lawful : Every IsPhrase (parts least)
  pub apart : (f : F) → Apart true (parts f)
  pub answers : (tokens : List TokenKind) → Answers parts value p tokens (p tokens)
  pub complete : Completes parts value goes p
  pub deep : Deepens parts p

-- ---- one behind the other

abbrev pub both : {F G : Type 0} → (F → List Part) → (G → List Part) → F × G → List Part
both parts others form = parts form.0 ++ others form.1

abbrev pub chained : {F G A B : Type 0} → (F → A) → (A → G → B) → F × G → B
chained value next form = next (value form.0) form.1

module _ {F G A B : Type 0} (parts : F → List Part) (value : F → A) (p : Parser A) (others : G → List Part) (next : A → G → B) (q : A → Parser B) where
  given_given : (tokens rest end : List TokenKind) (a : A) (b : B) → IsGiven parts value p tokens a rest → IsGiven others (next a) (q a) rest b end →
      IsGiven (both parts others) (chained value next) (p >-> q) tokens b end
  given_given tokens rest end a b first second = record {
    form = (first.form, second.form);
    lawful = every_append IsPhrase (parts first.form) (others second.form) first.lawful second.lawful;
    fits = every_append Fits (parts first.form) (others second.form) first.fits second.fits;
    whole = before_append (parts first.form) (others second.form) end ∙ ap (before (parts first.form)) second.whole ∙ first.whole;
    means = ap (λ x. next x second.form) first.means ∙ second.means;
    again = λ other same. ap (λ l. and_then (p l) q) (before_append (parts first.form) (others second.form) other)
        ∙ ap (λ o. and_then o q) (first.again (before (others second.form) other)
        (subst (λ l. SameFirst l (before (others second.form) other)) second.whole (same_before (others second.form) end other same)))
        ∙ second.again other same;
  }

  given_held : (tokens rest : List TokenKind) (left : ℕ) (a : A) → IsGiven parts value p tokens a rest → IsHeld others (q a) rest left →
      IsHeld (both parts others) (p >-> q) tokens left
  given_held tokens rest left a first second = record {
    front = before (parts first.form) second.front;
    rest = second.rest;
    whole = sym (before_onto (parts first.form) second.front second.rest) ∙ ap (before (parts first.form)) second.whole ∙ first.whole;
    place = second.place;
    form = (first.form, second.form);
    lawful = every_append IsPhrase (parts first.form) (others second.form) first.lawful second.lawful;
    more = second.more;
    shows = before_append (parts first.form) (others second.form) [] ∙ ap (before (parts first.form)) second.shows ∙ before_onto (parts first.form) second.front second.more;
    again = λ other same. ap (λ l. and_then (p l) q) (sym (before_onto (parts first.form) second.front other))
        ∙ ap (λ o. and_then o q) (first.again (second.front ++ other)
        (subst (λ l. SameFirst l (second.front ++ other)) second.whole (same_onto second.front second.rest other same)))
        ∙ second.again other same;
  }

  given_over : (tokens rest : List TokenKind) (left : ℕ) (a : A) → IsGiven parts value p tokens a rest → IsOver others rest left →
      IsOver (both parts others) tokens left
  given_over tokens rest left a first second = record {
    form = (first.form, second.form);
    lawful = every_append IsPhrase (parts first.form) (others second.form) first.lawful second.lawful;
    over = subst (λ l. Overruns (parts first.form ++ others second.form) l left) first.whole
        (overruns_right (parts first.form) (others second.form) rest left first.fits second.over);
  }

  held_first : (tokens : List TokenKind) (left : ℕ) (least : G) → Every IsPhrase (others least) → IsHeld parts p tokens left → IsHeld (both parts others) (p >-> q) tokens left
  held_first tokens left least lawful first = record {
    front = first.front;
    rest = first.rest;
    whole = first.whole;
    place = first.place;
    form = (first.form, least);
    lawful = every_append IsPhrase (parts first.form) (others least) first.lawful lawful;
    more = first.more ++ before (others least) [];
    shows = before_append (parts first.form) (others least) [] ∙ before_onto (parts first.form) [] (before (others least) [])
        ∙ ap (λ l. l ++ before (others least) []) first.shows ∙ append_assoc first.front first.more (before (others least) []);
    again = λ other same. ap (λ o. and_then o q) (first.again other same);
  }

  over_first : (tokens : List TokenKind) (left : ℕ) (least : G) → Every IsPhrase (others least) → IsOver parts tokens left → IsOver (both parts others) tokens left
  over_first tokens left least lawful first = record {
    form = (first.form, least);
    lawful = every_append IsPhrase (parts first.form) (others least) first.lawful lawful;
    over = overruns_left (parts first.form) (others least) tokens left first.over;
  }

  second_answers : (tokens rest : List TokenKind) (a : A) → IsGiven parts value p tokens a rest → (o : Outcome B) → Answers others (next a) (q a) rest o →
      Answers (both parts others) (chained value next) (p >-> q) tokens o
  second_answers tokens rest a first (Ok read) second = given_given tokens rest read.1 a read.0 first second
  second_answers tokens rest a first (Err (Stuck left)) second = given_held tokens rest left a first second
  second_answers tokens rest a first (Err (Deep left)) second = given_over tokens rest left a first second
  second_answers tokens rest a first (Err NoMemory) second = absurd second

  both_answer : (tokens : List TokenKind) (least : G) → Every IsPhrase (others least) → (o : Outcome A) → Answers parts value p tokens o →
      ((a : A) (rest : List TokenKind) → o ≡ Ok (a, rest) → Answers others (next a) (q a) rest (q a rest)) →
      Answers (both parts others) (chained value next) (p >-> q) tokens (and_then o q)
  both_answer tokens least lawful (Ok read) first second = second_answers tokens read.1 read.0 first (q read.0 read.1) (second read.0 read.1 refl)
  both_answer tokens least lawful (Err (Stuck left)) first second = held_first tokens left least lawful first
  both_answer tokens least lawful (Err (Deep left)) first second = over_first tokens left least lawful first
  both_answer tokens least lawful (Err NoMemory) first second = absurd first

  pub sequence_answers : (tokens : List TokenKind) (least : G) → Every IsPhrase (others least) → Answers parts value p tokens (p tokens) →
      ((a : A) (rest : List TokenKind) → p tokens ≡ Ok (a, rest) → Answers others (next a) (q a) rest (q a rest)) →
      Answers (both parts others) (chained value next) (p >-> q) tokens ((p >-> q) tokens)
  sequence_answers tokens least lawful first second = both_answer tokens least lawful (p tokens) first second

  pub sequence_completes : (f : F) (g : G) (rest : List TokenKind) → p (before (parts f) (before (others g) rest)) ≡ Ok (value f, before (others g) rest) →
      q (value f) (before (others g) rest) ≡ Ok (next (value f) g, rest) → (p >-> q) (before (parts f ++ others g) rest) ≡ Ok (next (value f) g, rest)
  sequence_completes f g rest first second =
      ap (λ l. and_then (p l) q) (before_append (parts f) (others g) rest) ∙ ap (λ o. and_then o q) first ∙ second

  pub sequence_deepens : (f : F) (g : G) (tokens : List TokenKind) (left : ℕ) → Overruns (parts f ++ others g) tokens left →
      ((left : ℕ) → Overruns (parts f) tokens left → p tokens ≡ Err (Deep left)) →
      ((rest : List TokenKind) (left : ℕ) → Every Fits (parts f) → Overruns (others g) rest left → p (before (parts f) rest) ≡ Ok (value f, rest)) →
      ((rest : List TokenKind) (left : ℕ) → Overruns (others g) rest left → q (value f) rest ≡ Err (Deep left)) →
      (p >-> q) tokens ≡ Err (Deep left)
  sequence_deepens f g tokens left over first passes second = by (overruns_split (parts f) (others g) tokens left over)
    where
      by : Overruns (parts f) tokens left ⊎ Later (parts f) (others g) tokens left → (p >-> q) tokens ≡ Err (Deep left)
      by (inl here) = ap (λ o. and_then o q) (first left here)
      by (inr later) = ap (λ l. and_then (p l) q) later.1 ∙ ap (λ o. and_then o q) (passes later.0 left later.2 later.3) ∙ second later.0 left later.3
