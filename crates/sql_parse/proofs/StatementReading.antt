-- Statements are read as they are written.
use Rattle.std.proofs.Common.{◌≡◌, ◌≤◌, ◌⊎◌, ℕ, ◌+◌, List, [], ◌∷◌, ◌++◌, length, Ok, Err, refl, sym, ap, ◌∙◌, subst, inl, inr}
use Rattle.sql_ast.specs.declared.statement.Statement.{Statement}
use Rattle.sql_lex.specs.declared.token.TokenKind.{TokenKind}
use Rattle.sql_parse.specs.declared.stop.Stop.{Stop}
use Rattle.sql_parse.specs.declared.stop.Stop.TheVariants.{Stuck, Deep, NoMemory}
use Rattle.sql_parse.specs.Trees.{Tree, kinds}
use Rattle.sql_parse.specs.Forms.{StatementForm, statement_marks, statement_of, Each, IsForm}
use Rattle.sql_parse.specs.Lines.{Expr, Stands}
use Rattle.sql_parse.specs.Grammar.{IsSpelled, IsDeep}
use Rattle.sql_parse.specs.inner.Reading.{Outcome, begins, statement, ended, to_end, whole}
use Rattle.sql_parse.proofs.ExpressionPhrases.{IsPhrase, stands_phrase, phrase_stands}
use Rattle.sql_parse.proofs.ExpressionLaws.{ExpressionLaws, Fits}
use Rattle.sql_parse.proofs.ReaderParts.{before, parts_marks, Every, every_weaker, every_both, Overruns}
use Rattle.sql_parse.proofs.ReaderLaws.{IsGiven, IsHeld, IsOver, Answers, Ended, IsReader}
use Rattle.sql_parse.proofs.ReaderStatements.{always, statement_reader}
use Rattle.sql_parse.proofs.StatementParts.{statement_parts}
use Rattle.sql_parse.proofs.StatementMarks.{kinds_of_parts, statement_shows}
use Rattle.sql_parse.proofs.StatementTrees.{each_every, every_each}
use Rattle.sql_parse.proofs.StatementDepth.{Exceeding, over_exceeds, OverBy, fits_or_over, exceeds_over}

-- ---- forms

-- an expression as the grammar has it, and within the limits
abbrev pub IsFitting : Tree → Type 0
IsFitting tree = IsPhrase tree × Fits tree

-- A way of writing the statement with these tokens, with no expression too deep.
pub record IsWhole (tokens : List TokenKind) (s : Statement) : Type 0 where
  pub form : StatementForm
  pub lawful : Each IsFitting form
  pub shows : kinds (statement_marks form) ≡ tokens
  pub means : statement_of form ≡ s

-- the expressions that stand on the grammar's lines are the phrases
form_phrases : (form : StatementForm) → IsForm form → Every IsPhrase (statement_parts form)
form_phrases form lawful = every_weaker (λ tree. Stands tree Expr) IsPhrase stands_phrase (statement_parts form) (each_every (λ tree. Stands tree Expr) form lawful)

phrases_form : (form : StatementForm) → Every IsPhrase (statement_parts form) → IsForm form
phrases_form form lawful = every_each (λ tree. Stands tree Expr) form (every_weaker IsPhrase (λ tree. Stands tree Expr) phrase_stands (statement_parts form) lawful)

tokens_of_form : (form : StatementForm) → kinds (statement_marks form) ≡ before (statement_parts form) []
tokens_of_form form = ap kinds (sym (statement_shows form)) ∙ kinds_of_parts (statement_parts form)

pub spelled_by : (form : StatementForm) (tokens : List TokenKind) → Every IsPhrase (statement_parts form) → before (statement_parts form) [] ≡ tokens → IsSpelled tokens (statement_of form)
spelled_by form tokens lawful shows = record {
  marks = statement_marks form;
  kinds = tokens_of_form form ∙ shows;
  written = record { form = form; lawful = phrases_form form lawful; shows = refl; means = refl };
}

at_the_end : Ended always []
unfolding begins
at_the_end = refl

over_deep : (form : StatementForm) (tokens : List TokenKind) (left : ℕ) → IsForm form → Exceeding (parts_marks (statement_parts form)) tokens left → IsDeep tokens left
over_deep form tokens left lawful found = record {
  front = found.front;
  here = found.here;
  rest = found.rest;
  more = found.more;
  statement = statement_of form;
  whole = found.whole;
  place = found.place;
  goes_on = found.goes_on;
  written = record { form = form; lawful = lawful; shows = sym (statement_shows form) ∙ found.shows; means = refl };
  exceeds = found.exceeds;
}

-- ---- ends

ended_ok : (a s : Statement) (rest : List TokenKind) → ended a rest ≡ Ok s → (a ≡ s) × (rest ≡ [])
ended_ok a s [] same = (cc, refl)
ended_ok a s (token ∷ rest) same = cc

ended_stuck : (a : Statement) (rest : List TokenKind) (stop : Stop) → ended a rest ≡ Err stop → (token : TokenKind) × (more : List TokenKind) × (rest ≡ token ∷ more) × (stop ≡ Stuck (length (token ∷ more)))
ended_stuck a [] stop same = cc
ended_stuck a (token ∷ rest) stop same = (token, rest, refl, cc)

-- what a whole answer says of the statement's
pub ok_read : (o : Outcome Statement) (s : Statement) → to_end o ≡ Ok s → o ≡ Ok (s, [])
ok_read (Ok read) s same = let e = ended_ok read.0 s read.1 same in ap (λ x. Ok (x, read.1)) e.0 ∙ ap (λ l. Ok (s, l)) e.1
ok_read (Err stop) s same = cc

pub deep_read : (o : Outcome Statement) (left : ℕ) → to_end o ≡ Err (Deep left) → o ≡ Err (Deep left)
deep_read (Ok read) left same = let e = ended_stuck read.0 read.1 (Deep left) same in absurd (apart e.3)
  where
    apart : {n m : ℕ} → Deep n ≡ Stuck m → ⊥
    apart e = cc
deep_read (Err stop) left same = cc

pub memory_read : (o : Outcome Statement) → to_end o ≡ Err NoMemory → o ≡ Err NoMemory
memory_read (Ok read) same = let e = ended_stuck read.0 read.1 NoMemory same in absurd (apart e.3)
  where
    apart : {m : ℕ} → NoMemory ≡ Stuck m → ⊥
    apart e = cc
memory_read (Err stop) same = cc

-- the statement stops here, or ends here before more
abbrev pub StopsAt : Outcome Statement → ℕ → Type 0
StopsAt o left = (o ≡ Err (Stuck left)) ⊎ ((s : Statement) × (token : TokenKind) × (more : List TokenKind) × (o ≡ Ok (s, token ∷ more)) × (left ≡ length (token ∷ more)))

pub stuck_read : (o : Outcome Statement) (left : ℕ) → to_end o ≡ Err (Stuck left) → StopsAt o left
stuck_read (Ok read) left same = let e = ended_stuck read.0 read.1 (Stuck left) same in inr (read.0, e.0, e.1, ap (λ l. Ok (read.0, l)) e.2, number e.3)
  where
    number : {n m : ℕ} → Stuck n ≡ Stuck m → n ≡ m
    number e = cc
stuck_read (Err stop) left same = inl cc

module _ (laws : ExpressionLaws) where
  reader : IsReader statement_parts statement_of always statement
  reader = statement_reader laws

  Answered : List TokenKind → Outcome Statement → Type 0
  Answered tokens o = Answers statement_parts statement_of statement tokens o

  answered : (tokens : List TokenKind) → Answered tokens (statement tokens)
  unfolding Answered
  answered tokens = reader.answers tokens

  pub deep_by : (tokens : List TokenKind) (left : ℕ) → IsOver statement_parts tokens left → IsDeep tokens left
  deep_by tokens left over =
      over_deep over.form tokens left (phrases_form over.form over.lawful) (over_exceeds (statement_parts over.form) tokens left (reader.apart over.form) over.over)

  -- where an expression is too deep, reading stops there or before
  pub deep_found : (tokens : List TokenKind) (at : ℕ) → IsDeep tokens at → (left : ℕ) × (at ≤ left) × (statement tokens ≡ Err (Deep left))
  deep_found tokens at deep = by
      (exceeds_over laws (statement_parts deep.written.form) (reader.apart deep.written.form) deep.front deep.here deep.more deep.rest
      (statement_shows deep.written.form ∙ deep.written.shows) deep.goes_on deep.exceeds)
    where
      by : OverBy (statement_parts deep.written.form) (kinds deep.front ++ deep.here.kind ∷ deep.rest) (length deep.rest + 1) → (left : ℕ) × (at ≤ left) × (statement tokens ≡ Err (Deep left))
      by found = (
        found.0,
        subst (λ n. n ≤ found.0) deep.place found.1,
        ap statement (sym deep.whole)
            ∙ reader.deep deep.written.form (kinds deep.front ++ deep.here.kind ∷ deep.rest) found.0 (form_phrases deep.written.form deep.written.lawful) found.2,
      )

  -- ---- complete

  fitting_read : (form : StatementForm) → Every IsPhrase (statement_parts form) → Every Fits (statement_parts form) → statement (kinds (statement_marks form)) ≡ Ok (statement_of form, [])
  fitting_read form lawful fits = ap statement (tokens_of_form form) ∙ reader.complete form [] lawful fits at_the_end

  pub statement_complete : (form : StatementForm) → Each IsFitting form → whole (kinds (statement_marks form)) ≡ Ok (statement_of form)
  unfolding whole
  statement_complete form each = ap to_end (fitting_read form
      (every_weaker IsFitting IsPhrase (λ tree is. is.0) (statement_parts form) (each_every IsFitting form each))
      (every_weaker IsFitting Fits (λ tree is. is.1) (statement_parts form) (each_every IsFitting form each)))

  -- ---- what a spelled statement is read as

  -- it is read to its end, or an expression is too deep
  abbrev pub Settled : List TokenKind → Statement → Type 0
  Settled tokens s = (statement tokens ≡ Ok (s, [])) ⊎ ((left : ℕ) × (statement tokens ≡ Err (Deep left)) × IsDeep tokens left)

  pub settled : (tokens : List TokenKind) (s : Statement) → IsSpelled tokens s → Settled tokens s
  settled tokens s spelled = by (fits_or_over laws (statement_parts form))
    where
      form : StatementForm
      form = spelled.written.form

      lawful : Every IsPhrase (statement_parts form)
      lawful = form_phrases form spelled.written.lawful

      same : kinds (statement_marks form) ≡ tokens
      same = ap kinds spelled.written.shows ∙ spelled.kinds

      by : Every Fits (statement_parts form) ⊎ ((left : ℕ) × Overruns (statement_parts form) (before (statement_parts form) []) left) → Settled tokens s
      by (inl fits) = inl (ap statement (sym same) ∙ fitting_read form lawful fits ∙ ap (λ x. Ok (x, [])) spelled.written.means)
      by (inr found) = inr (
        found.0,
        ap statement (sym same ∙ tokens_of_form form) ∙ reader.deep form (before (statement_parts form) []) found.0 lawful found.1,
        subst (λ l. IsDeep l found.0) (sym (tokens_of_form form) ∙ same)
            (deep_by (before (statement_parts form) []) found.0 (record { form = form; lawful = lawful; over = found.1 })),
      )

  -- ---- statements

  pub given_of : (tokens : List TokenKind) (s : Statement) (rest : List TokenKind) → statement tokens ≡ Ok (s, rest) → IsGiven statement_parts statement_of statement tokens s rest
  unfolding Answered
  given_of tokens s rest same = subst (Answered tokens) same (answered tokens)

  pub held_of : (tokens : List TokenKind) (left : ℕ) → statement tokens ≡ Err (Stuck left) → IsHeld statement_parts statement tokens left
  unfolding Answered
  held_of tokens left same = subst (Answered tokens) same (answered tokens)

  pub over_of : (tokens : List TokenKind) (left : ℕ) → statement tokens ≡ Err (Deep left) → IsOver statement_parts tokens left
  unfolding Answered
  over_of tokens left same = subst (Answered tokens) same (answered tokens)

  pub never_without_memory : (tokens : List TokenKind) → statement tokens ≡ Err NoMemory → ⊥
  unfolding Answered
  never_without_memory tokens same = subst (Answered tokens) same (answered tokens)

  pub statement_sound : (tokens : List TokenKind) (s : Statement) → whole tokens ≡ Ok s → IsWhole tokens s
  unfolding whole
  statement_sound tokens s same = by (given_of tokens s [] (ok_read (statement tokens) s same))
    where
      by : IsGiven statement_parts statement_of statement tokens s [] → IsWhole tokens s
      by given = record {
        form = given.form;
        lawful = every_each IsFitting given.form (every_both IsPhrase Fits (statement_parts given.form) given.lawful given.fits);
        shows = tokens_of_form given.form ∙ given.whole;
        means = given.means;
      }
