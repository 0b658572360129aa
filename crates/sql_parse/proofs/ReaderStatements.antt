-- The reader of statements.
use mathlib.Core.Path.{fun_ext}
use Rattle.std.proofs.Common.{◌≡◌, ◌⊎◌, ℕ, List, [], ◌∷◌, append-nil, Bool, true, false, Option, Some, None, refl, sym, ap, subst, inl, inr, true≢false}
use Rattle.sql_ast.specs.declared.statement.Statement.{Statement}
use Rattle.sql_ast.specs.declared.statement.Statement.TheVariants as of_statement
use Rattle.sql_lex.specs.declared.keyword.Keyword.{Keyword}
use Rattle.sql_lex.specs.declared.keyword.Keyword.TheVariants.{KSelect, KInsert, KUpdate, KDelete, KBegin, KAs, KOf, KEpoch, KCommit, KRollback, KExplain}
use Rattle.sql_lex.specs.declared.token.TokenKind.{TokenKind}
use Rattle.sql_lex.specs.declared.token.TokenKind.TheVariants as kind
use Rattle.sql_parse.specs.inner.Kinds.{is_keyword}
use Rattle.sql_parse.specs.Forms.{SelectForm, select_of, InsertForm, insert_of, UpdateForm, update_of, DeleteForm, delete_of, StatementForm, statement_of}
use Rattle.sql_parse.specs.Forms.StatementForm.{Select, SelectForUpdate, Insert, Update, Delete, Begin, BeginAsOf, Commit, Rollback, Explain}
use Rattle.sql_parse.specs.inner.Reading.{Parser, ◌>>◌, ◌<$>◌, pure, begins, keyword, number, select, insert, update, delete, begin, query, statement}
use Rattle.sql_parse.proofs.ExpressionLaws.{ExpressionLaws}
use Rattle.sql_parse.proofs.ReaderParts.{Part}
use Rattle.sql_parse.proofs.ReaderLaws.{IsReader, Ended, both, chained}
use Rattle.sql_parse.proofs.ReaderSequence.{never, or_goes, closed_then, mapped, formed}
use Rattle.sql_parse.proofs.ReaderTokens.{keyword_itself}
use Rattle.sql_parse.proofs.ReaderChoices.{behind, keyword_then, pure_reader, choice, either, optional, maybe_parts, maybe_value}
use Rattle.sql_parse.proofs.ReaderItems.{Clear, chosen_clear}
use Rattle.sql_parse.proofs.ReaderNames.{keyword_reader, number_reader}
use Rattle.sql_parse.proofs.ReaderQueries.{select_reader}
use Rattle.sql_parse.proofs.ReaderForUpdate.{Query, query_parts, query_value, query_goes, query_reader}
use Rattle.sql_parse.proofs.ReaderWrites.{insert_reader, update_reader, delete_reader}
use Rattle.sql_parse.proofs.StatementParts.{word_part, number_parts, select_parts, insert_parts, update_parts, delete_parts, as_of_parts, statement_parts}

-- ---- at the end

-- only the end ends it
abbrev pub always : TokenKind → Bool
always token = true

at_end : (goes : TokenKind → Bool) (rest : List TokenKind) → Ended always rest → Ended goes rest
unfolding begins
at_end goes [] ended = refl
at_end goes (token ∷ rest) ended = absurd (true≢false ended)

to_the_end : {F A : Type 0} (parts : F → List Part) (value : F → A) (goes : TokenKind → Bool) (p : Parser A) → IsReader parts value goes p → IsReader parts value always p
to_the_end parts value goes p reader = record {
  least = reader.least;
  lawful = reader.lawful;
  apart = reader.apart;
  answers = reader.answers;
  complete = λ form rest lawful fits ended. reader.complete form rest lawful fits (at_end goes rest ended);
  deep = reader.deep;
}

-- ---- transactions

abbrev no_parts : Unit {0} → List Part
no_parts a = []

abbrev begin_parts : Option ℕ → List Part
begin_parts = maybe_parts as_of_parts

abbrev begin_value : Option ℕ → Statement
begin_value = maybe_value of_statement.BeginAsOf of_statement.Begin

begin_reader : IsReader begin_parts begin_value (or_goes never (is_keyword KAs)) begin
unfolding begin
begin_reader =
    optional as_of_parts of_statement.BeginAsOf never (keyword KAs >> keyword KOf >> keyword KEpoch >> of_statement.BeginAsOf <$> number) (is_keyword KAs) of_statement.Begin
    (formed (both words number_parts) (chained last (λ a n. of_statement.BeginAsOf n)) (keyword KAs >> keyword KOf >> keyword KEpoch >> of_statement.BeginAsOf <$> number) never
    as_of_parts of_statement.BeginAsOf (λ form. form.1) (λ n. ((tt, tt), n)) (λ form. refl) (λ form. refl) (λ n. refl) (λ n. refl)
    (closed_then words last (keyword KAs >> keyword KOf >> keyword KEpoch) number_parts (λ a n. of_statement.BeginAsOf n) (λ a. of_statement.BeginAsOf <$> number) never
    (closed_then first_words (λ a. a) (keyword KAs >> keyword KOf) last_word (λ a b. b) (λ a. keyword KEpoch) never
    (keyword_then (λ a. word_part KOf ∷ []) (λ a. a) never (keyword KOf) (keyword_reader KOf) KAs) (λ a. refl) (λ a. keyword_reader KEpoch))
    (λ a. refl)
    (λ a. mapped number_parts (λ n. n) number of_statement.BeginAsOf never number_reader)))
    (λ n. keyword_itself KAs)
  where
    first_words : Unit {0} → List Part
    first_words a = word_part KAs ∷ word_part KOf ∷ []

    last_word : Unit {0} → List Part
    last_word a = word_part KEpoch ∷ []

    last : Unit {0} × Unit {0} → Unit {0}
    last form = form.1

    words : Unit {0} × Unit {0} → List Part
    words = both first_words last_word

abbrev lone_parts : Keyword → Unit {0} → List Part
lone_parts k = behind (kind.Keyword k) no_parts

lone_reader : (k : Keyword) (s : Statement) → IsReader (lone_parts k) (λ a. s) always (keyword k >> pure s)
lone_reader k s = to_the_end (lone_parts k) (λ a. s) never (keyword k >> pure s) (keyword_then no_parts (λ a. s) never (pure s) (pure_reader s) k)

-- ---- all statements

abbrev Late : Type 0
Late = Option ℕ ⊎ (Unit {0} ⊎ (Unit {0} ⊎ SelectForm))

abbrev Cases : Type 0
Cases = Query ⊎ (InsertForm ⊎ (UpdateForm ⊎ (DeleteForm ⊎ Late)))

abbrev explain_parts : SelectForm → List Part
explain_parts select = word_part KExplain ∷ word_part KSelect ∷ select_parts select

abbrev rollback_parts : Unit {0} ⊎ SelectForm → List Part
rollback_parts = either (lone_parts KRollback) explain_parts

abbrev commit_parts : Unit {0} ⊎ (Unit {0} ⊎ SelectForm) → List Part
commit_parts = either (lone_parts KCommit) rollback_parts

abbrev late_parts : Late → List Part
late_parts = either (behind (kind.Keyword KBegin) begin_parts) commit_parts

abbrev deletes_parts : DeleteForm ⊎ Late → List Part
deletes_parts = either (behind (kind.Keyword KDelete) delete_parts) late_parts

abbrev updates_parts : UpdateForm ⊎ (DeleteForm ⊎ Late) → List Part
updates_parts = either (behind (kind.Keyword KUpdate) update_parts) deletes_parts

abbrev inserts_parts : InsertForm ⊎ (UpdateForm ⊎ (DeleteForm ⊎ Late)) → List Part
inserts_parts = either (behind (kind.Keyword KInsert) insert_parts) updates_parts

abbrev cases_parts : Cases → List Part
cases_parts = either (behind (kind.Keyword KSelect) query_parts) inserts_parts

abbrev rollback_value : Unit {0} ⊎ SelectForm → Statement
rollback_value = either (λ a. of_statement.Rollback) (λ s. of_statement.Explain (select_of s))

abbrev commit_value : Unit {0} ⊎ (Unit {0} ⊎ SelectForm) → Statement
commit_value = either (λ a. of_statement.Commit) rollback_value

abbrev late_value : Late → Statement
late_value = either begin_value commit_value

abbrev deletes_value : DeleteForm ⊎ Late → Statement
deletes_value = either (λ s. of_statement.Delete (delete_of s)) late_value

abbrev updates_value : UpdateForm ⊎ (DeleteForm ⊎ Late) → Statement
updates_value = either (λ s. of_statement.Update (update_of s)) deletes_value

abbrev inserts_value : InsertForm ⊎ (UpdateForm ⊎ (DeleteForm ⊎ Late)) → Statement
inserts_value = either (λ s. of_statement.Insert (insert_of s)) updates_value

abbrev cases_value : Cases → Statement
cases_value = either query_value inserts_value

explains : Parser Statement
explains = keyword KExplain >> keyword KSelect >> of_statement.Explain <$> select

rollbacks : Parser Statement
rollbacks = choice (is_keyword KRollback) (keyword KRollback >> pure of_statement.Rollback) explains

commits : Parser Statement
commits = choice (is_keyword KCommit) (keyword KCommit >> pure of_statement.Commit) rollbacks

lates : Parser Statement
lates = choice (is_keyword KBegin) (keyword KBegin >> begin) commits

deletes : Parser Statement
deletes = choice (is_keyword KDelete) (keyword KDelete >> of_statement.Delete <$> delete) lates

updates : Parser Statement
updates = choice (is_keyword KUpdate) (keyword KUpdate >> of_statement.Update <$> update) deletes

inserts : Parser Statement
inserts = choice (is_keyword KInsert) (keyword KInsert >> of_statement.Insert <$> insert) updates

cases : Parser Statement
cases = choice (is_keyword KSelect) (keyword KSelect >> query) inserts

same_cases : (tokens : List TokenKind) → cases tokens ≡ statement tokens
unfolding cases inserts updates deletes lates commits rollbacks explains statement begins keyword
same_cases [] = refl
same_cases (kind.Keyword KSelect ∷ more) = refl
same_cases (kind.Keyword KInsert ∷ more) = refl
same_cases (kind.Keyword KUpdate ∷ more) = refl
same_cases (kind.Keyword KDelete ∷ more) = refl
same_cases (kind.Keyword KBegin ∷ more) = refl
same_cases (kind.Keyword KCommit ∷ more) = refl
same_cases (kind.Keyword KRollback ∷ more) = refl
same_cases (kind.Keyword KExplain ∷ more) = refl
same_cases (token ∷ more) = refl

cases_are : cases ≡ statement
cases_are = fun_ext same_cases

module _ (laws : ExpressionLaws) where
  led_reader : {F A : Type 0} (parts : F → List Part) (value : F → A) (goes : TokenKind → Bool) (p : Parser A) (k : Keyword) (f : A → Statement) → IsReader parts value goes p →
      IsReader (behind (kind.Keyword k) parts) (λ form. f (value form)) always (keyword k >> f <$> p)
  led_reader parts value goes p k f reader =
      to_the_end (behind (kind.Keyword k) parts) (λ form. f (value form)) goes (keyword k >> f <$> p)
      (keyword_then parts (λ form. f (value form)) goes (f <$> p) (mapped parts value p f goes reader) k)

  explain_reader : IsReader explain_parts (λ s. of_statement.Explain (select_of s)) always explains
  unfolding explains
  explain_reader =
      to_the_end explain_parts (λ s. of_statement.Explain (select_of s)) _ explains
      (formed (both words select_parts) (chained (λ a. a) (λ a s. of_statement.Explain (select_of s))) explains _ explain_parts (λ s. of_statement.Explain (select_of s))
      (λ form. form.1) (λ s. (tt, s)) (λ form. refl) (λ form. refl) (λ s. refl) (λ s. refl)
      (closed_then words (λ a. a) (keyword KExplain >> keyword KSelect) select_parts (λ a s. of_statement.Explain (select_of s)) (λ a. of_statement.Explain <$> select) _
      (keyword_then (λ a. word_part KSelect ∷ []) (λ a. a) never (keyword KSelect) (keyword_reader KSelect) KExplain) (λ a. refl)
      (λ a. mapped select_parts select_of select of_statement.Explain _ (select_reader laws))))
    where
      words : Unit {0} → List Part
      words a = word_part KExplain ∷ word_part KSelect ∷ []

  rollback_reader : IsReader rollback_parts rollback_value always rollbacks
  unfolding rollbacks
  rollback_reader =
      chosen_clear (lone_parts KRollback) (λ a. of_statement.Rollback) (keyword KRollback >> pure of_statement.Rollback) explain_parts (λ s. of_statement.Explain (select_of s)) explains
      (is_keyword KRollback) always (lone_reader KRollback of_statement.Rollback) explain_reader (λ a. keyword_itself KRollback) (λ s. refl)

  commit_reader : IsReader commit_parts commit_value always commits
  unfolding commits
  commit_reader =
      chosen_clear (lone_parts KCommit) (λ a. of_statement.Commit) (keyword KCommit >> pure of_statement.Commit) rollback_parts rollback_value rollbacks
      (is_keyword KCommit) always (lone_reader KCommit of_statement.Commit) rollback_reader (λ a. keyword_itself KCommit) clear
    where
      clear : (form : Unit {0} ⊎ SelectForm) → Clear (is_keyword KCommit) (rollback_parts form)
      clear (inl a) = refl
      clear (inr s) = refl

  late_reader : IsReader late_parts late_value always lates
  unfolding lates
  late_reader =
      chosen_clear (behind (kind.Keyword KBegin) begin_parts) begin_value (keyword KBegin >> begin) commit_parts commit_value commits (is_keyword KBegin) always
      (to_the_end (behind (kind.Keyword KBegin) begin_parts) begin_value (or_goes never (is_keyword KAs)) (keyword KBegin >> begin)
      (keyword_then begin_parts begin_value (or_goes never (is_keyword KAs)) begin begin_reader KBegin))
      commit_reader (λ form. keyword_itself KBegin) clear
    where
      clear : (form : Unit {0} ⊎ (Unit {0} ⊎ SelectForm)) → Clear (is_keyword KBegin) (commit_parts form)
      clear (inl a) = refl
      clear (inr (inl a)) = refl
      clear (inr (inr s)) = refl

  late_clear : (k : Keyword) → is_keyword k (kind.Keyword KBegin) ≡ false → is_keyword k (kind.Keyword KCommit) ≡ false → is_keyword k (kind.Keyword KRollback) ≡ false →
      is_keyword k (kind.Keyword KExplain) ≡ false → (form : Late) → Clear (is_keyword k) (late_parts form)
  late_clear k b c r e (inl form) = b
  late_clear k b c r e (inr (inl a)) = c
  late_clear k b c r e (inr (inr (inl a))) = r
  late_clear k b c r e (inr (inr (inr s))) = e

  delete_case : IsReader deletes_parts deletes_value always deletes
  unfolding deletes
  delete_case =
      chosen_clear (behind (kind.Keyword KDelete) delete_parts) (λ s. of_statement.Delete (delete_of s)) (keyword KDelete >> of_statement.Delete <$> delete) late_parts late_value lates
      (is_keyword KDelete) always (led_reader delete_parts delete_of _ delete KDelete of_statement.Delete (delete_reader laws)) late_reader (λ form. keyword_itself KDelete)
      (late_clear KDelete refl refl refl refl)

  update_case : IsReader updates_parts updates_value always updates
  unfolding updates
  update_case =
      chosen_clear (behind (kind.Keyword KUpdate) update_parts) (λ s. of_statement.Update (update_of s)) (keyword KUpdate >> of_statement.Update <$> update) deletes_parts deletes_value deletes
      (is_keyword KUpdate) always (led_reader update_parts update_of _ update KUpdate of_statement.Update (update_reader laws)) delete_case (λ form. keyword_itself KUpdate) clear
    where
      clear : (form : DeleteForm ⊎ Late) → Clear (is_keyword KUpdate) (deletes_parts form)
      clear (inl form) = refl
      clear (inr form) = late_clear KUpdate refl refl refl refl form

  insert_case : IsReader inserts_parts inserts_value always inserts
  unfolding inserts
  insert_case =
      chosen_clear (behind (kind.Keyword KInsert) insert_parts) (λ s. of_statement.Insert (insert_of s)) (keyword KInsert >> of_statement.Insert <$> insert) updates_parts updates_value updates
      (is_keyword KInsert) always (led_reader insert_parts insert_of _ insert KInsert of_statement.Insert (insert_reader laws)) update_case (λ form. keyword_itself KInsert) clear
    where
      clear : (form : UpdateForm ⊎ (DeleteForm ⊎ Late)) → Clear (is_keyword KInsert) (updates_parts form)
      clear (inl form) = refl
      clear (inr (inl form)) = refl
      clear (inr (inr form)) = late_clear KInsert refl refl refl refl form

  cases_reader : IsReader cases_parts cases_value always cases
  unfolding cases
  cases_reader =
      chosen_clear (behind (kind.Keyword KSelect) query_parts) query_value (keyword KSelect >> query) inserts_parts inserts_value inserts (is_keyword KSelect) always
      (to_the_end (behind (kind.Keyword KSelect) query_parts) query_value query_goes (keyword KSelect >> query) (keyword_then query_parts query_value query_goes query (query_reader laws) KSelect))
      insert_case (λ form. keyword_itself KSelect) clear
    where
      clear : (form : InsertForm ⊎ (UpdateForm ⊎ (DeleteForm ⊎ Late))) → Clear (is_keyword KSelect) (inserts_parts form)
      clear (inl form) = refl
      clear (inr (inl form)) = refl
      clear (inr (inr (inl form))) = refl
      clear (inr (inr (inr form))) = late_clear KSelect refl refl refl refl form

  pub statement_reader : IsReader statement_parts statement_of always statement
  statement_reader =
      subst (λ p. IsReader statement_parts statement_of always p) cases_are
      (formed cases_parts cases_value cases always statement_parts statement_of to from to_parts to_value from_parts from_value cases_reader)
    where
      to : Cases → StatementForm
      to (inl (s, false)) = Select s
      to (inl (s, true)) = SelectForUpdate s
      to (inr (inl s)) = Insert s
      to (inr (inr (inl s))) = Update s
      to (inr (inr (inr (inl s)))) = Delete s
      to (inr (inr (inr (inr (inl None))))) = Begin
      to (inr (inr (inr (inr (inl (Some n)))))) = BeginAsOf n
      to (inr (inr (inr (inr (inr (inl a)))))) = Commit
      to (inr (inr (inr (inr (inr (inr (inl a))))))) = Rollback
      to (inr (inr (inr (inr (inr (inr (inr s))))))) = Explain s

      from : StatementForm → Cases
      from (Select s) = inl (s, false)
      from (SelectForUpdate s) = inl (s, true)
      from (Insert s) = inr (inl s)
      from (Update s) = inr (inr (inl s))
      from (Delete s) = inr (inr (inr (inl s)))
      from Begin = inr (inr (inr (inr (inl None))))
      from (BeginAsOf n) = inr (inr (inr (inr (inl (Some n)))))
      from Commit = inr (inr (inr (inr (inr (inl tt)))))
      from Rollback = inr (inr (inr (inr (inr (inr (inl tt))))))
      from (Explain s) = inr (inr (inr (inr (inr (inr (inr s))))))

      to_parts : (form : Cases) → statement_parts (to form) ≡ cases_parts form
      to_parts (inl (s, false)) = ap (λ l. word_part KSelect ∷ l) (sym (append-nil (select_parts s)))
      to_parts (inl (s, true)) = refl
      to_parts (inr (inl s)) = refl
      to_parts (inr (inr (inl s))) = refl
      to_parts (inr (inr (inr (inl s)))) = refl
      to_parts (inr (inr (inr (inr (inl None))))) = refl
      to_parts (inr (inr (inr (inr (inl (Some n)))))) = refl
      to_parts (inr (inr (inr (inr (inr (inl a)))))) = refl
      to_parts (inr (inr (inr (inr (inr (inr (inl a))))))) = refl
      to_parts (inr (inr (inr (inr (inr (inr (inr s))))))) = refl

      to_value : (form : Cases) → statement_of (to form) ≡ cases_value form
      to_value (inl (s, false)) = refl
      to_value (inl (s, true)) = refl
      to_value (inr (inl s)) = refl
      to_value (inr (inr (inl s))) = refl
      to_value (inr (inr (inr (inl s)))) = refl
      to_value (inr (inr (inr (inr (inl None))))) = refl
      to_value (inr (inr (inr (inr (inl (Some n)))))) = refl
      to_value (inr (inr (inr (inr (inr (inl a)))))) = refl
      to_value (inr (inr (inr (inr (inr (inr (inl a))))))) = refl
      to_value (inr (inr (inr (inr (inr (inr (inr s))))))) = refl

      from_parts : (form : StatementForm) → cases_parts (from form) ≡ statement_parts form
      from_parts (Select s) = ap (λ l. word_part KSelect ∷ l) (append-nil (select_parts s))
      from_parts (SelectForUpdate s) = refl
      from_parts (Insert s) = refl
      from_parts (Update s) = refl
      from_parts (Delete s) = refl
      from_parts Begin = refl
      from_parts (BeginAsOf n) = refl
      from_parts Commit = refl
      from_parts Rollback = refl
      from_parts (Explain s) = refl

      from_value : (form : StatementForm) → cases_value (from form) ≡ statement_of form
      from_value (Select s) = refl
      from_value (SelectForUpdate s) = refl
      from_value (Insert s) = refl
      from_value (Update s) = refl
      from_value (Delete s) = refl
      from_value Begin = refl
      from_value (BeginAsOf n) = refl
      from_value Commit = refl
      from_value Rollback = refl
      from_value (Explain s) = refl
