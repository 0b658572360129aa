-- The readers of statements that write.
use Rattle.std.proofs.Common.{◌≡◌, ℕ, List, [], ◌∷◌, map-id, Bool, false, Option, Some, None, option_map, ◌||◌, refl, sym, ap}
use Rattle.sql_ast.specs.declared.ast.Ast.{Ast}
use Rattle.sql_ast.specs.declared.delete.DeleteStmt.{DeleteStmt}
use Rattle.sql_ast.specs.declared.insert.AstRow.{AstRow}
use Rattle.sql_ast.specs.declared.insert.InsertStmt.{InsertStmt}
use Rattle.sql_ast.specs.declared.update.AstSet.{AstSet}
use Rattle.sql_ast.specs.declared.update.UpdateStmt.{UpdateStmt}
use Rattle.sql_lex.specs.declared.keyword.Keyword.TheVariants.{KInto, KValues, KSet, KFrom, KWhere}
use Rattle.sql_lex.specs.declared.symbol.Symbol.TheVariants.{Open, Close, Equal, Comma}
use Rattle.sql_lex.specs.declared.token.TokenKind.{TokenKind}
use Rattle.sql_lex.specs.declared.token.TokenKind.TheVariants as kind
use Rattle.sql_parse.specs.inner.Kinds.{is_symbol}
use Rattle.sql_parse.specs.Trees.{Tree, value}
use Rattle.sql_parse.specs.Forms.{Several, listed, listed_if, RowForm, row_of, insert_of, SetForm, set_of, update_of, delete_of}
use Rattle.sql_parse.specs.inner.Reading.{Parser, ◌>->◌, ◌>>◌, pure, keyword, symbol, name, separated, expression, filter, row, columns, insert, set, update, delete}
use Rattle.sql_parse.proofs.ExpressionLaws.{ExpressionLaws}
use Rattle.sql_parse.proofs.ReaderParts.{Part}
use Rattle.sql_parse.proofs.ReaderLaws.{IsReader, both, chained}
use Rattle.sql_parse.proofs.ReaderSequence.{never, or_goes, open_then, open_maybe, closed_then, mapped, formed}
use Rattle.sql_parse.proofs.ReaderTokens.{symbol_itself}
use Rattle.sql_parse.proofs.ReaderChoices.{behind, keyword_then, symbol_then, pure_reader, optional, maybe_value, maybe_leads}
use Rattle.sql_parse.proofs.ReaderLists.{several_parts, several_value, several_reader}
use Rattle.sql_parse.proofs.ReaderExpressions.{expression_goes, phrase_parts, expression_reader}
use Rattle.sql_parse.proofs.ReaderNames.{name_reader}
use Rattle.sql_parse.proofs.ReaderQueries.{several_goes, filter_goes, filter_reader}
use Rattle.sql_parse.proofs.StatementParts.{sign_part, name_parts, bracket_parts, filter_parts, row_parts, columns_parts, insert_parts, set_parts, update_parts, delete_parts}

-- ---- lists in parentheses

abbrev closing : Unit {0} → List Part
closing a = sign_part Close ∷ []

bracket_reader : {F A B : Type 0} (parts : F → List Part) (value : F → A) (goes : TokenKind → Bool) (p : Parser A) (f : List A → B) → IsReader parts value goes p →
    goes (kind.Symbol Comma) ≡ false → goes (kind.Symbol Close) ≡ false →
    IsReader (λ forms. bracket_parts (several_parts parts forms)) (λ forms. f (several_value value forms)) never (symbol Open >> separated p >-> (λ l. symbol Close >> pure (f l)))
bracket_reader {F} {A} {B} parts value goes p f reader apart closes =
    formed (both (behind (kind.Symbol Open) (several_parts parts)) closing) (chained (several_value value) (λ l a. f l)) (symbol Open >> separated p >-> (λ l. symbol Close >> pure (f l))) never
    (λ forms. bracket_parts (several_parts parts forms)) (λ forms. f (several_value value forms)) (λ form. form.0) (λ forms. (forms, tt)) (λ form. refl) (λ form. refl) (λ forms. refl) (λ forms. refl)
    (open_then (behind (kind.Symbol Open) (several_parts parts)) (several_value value) (symbol Open >> separated p) closing (λ l a. f l) (λ l. symbol Close >> pure (f l)) (several_goes goes) never
    (symbol_then (several_parts parts) (several_value value) (several_goes goes) (separated p) (several_reader parts value goes p reader apart) Open)
    (λ a. closed closes)
    (λ l. symbol_then (λ a. []) (λ a. f l) never (pure (f l)) (pure_reader (f l)) Close))
  where
    closed : goes (kind.Symbol Close) ≡ false → several_goes goes (kind.Symbol Close) ≡ false
    closed none = ap (λ b. b || (b || false)) none

-- ---- columns of an insert

abbrev pub columns_goes : TokenKind → Bool
columns_goes = or_goes never (is_symbol Open)

abbrev columns_value : Option (Several (List ℕ)) → List (List ℕ)
columns_value = maybe_value (several_value (λ n. n)) []

columns_reader : IsReader columns_parts columns_value columns_goes columns
unfolding columns
columns_reader =
    optional (λ names. bracket_parts (several_parts name_parts names)) (several_value (λ n. n)) never (symbol Open >> separated name >-> (λ names. symbol Close >> pure names)) (is_symbol Open) []
    (bracket_reader name_parts (λ n. n) never name (λ names. names) name_reader refl refl) (λ names. symbol_itself Open)

same_columns : (names : Option (Several (List ℕ))) → listed_if names ≡ columns_value names
same_columns None = refl
same_columns (Some names) = sym (map-id (listed names))

module _ (laws : ExpressionLaws) where
  -- ---- inserts

  row_reader : IsReader row_parts row_of never row
  unfolding row
  row_reader = bracket_reader phrase_parts value expression_goes expression (λ values. record { values = values }) (expression_reader laws) refl refl

  abbrev insert_goes : TokenKind → Bool
  insert_goes = several_goes never

  abbrev Rows : Type 0
  Rows = Option (Several (List ℕ)) × Several RowForm

  abbrev rows_parts : Rows → List Part
  rows_parts = both columns_parts (behind (kind.Keyword KValues) (several_parts row_parts))

  abbrev inserted : List ℕ → List (List ℕ) → List AstRow → InsertStmt
  inserted t c r = record { table = t; columns = c; rows = r }

  rows_reader : (t : List ℕ) → IsReader rows_parts (chained columns_value (λ c forms. inserted t c (several_value row_of forms))) insert_goes
      (columns >-> (λ c. keyword KValues >> separated row >-> (λ r. pure (inserted t c r))))
  rows_reader t =
      open_then columns_parts columns_value columns (behind (kind.Keyword KValues) (several_parts row_parts)) (λ c forms. inserted t c (several_value row_of forms))
      (λ c. keyword KValues >> separated row >-> (λ r. pure (inserted t c r))) columns_goes insert_goes columns_reader (λ forms. refl)
      (λ c. mapped (behind (kind.Keyword KValues) (several_parts row_parts)) (several_value row_of) (keyword KValues >> separated row) (λ r. inserted t c r) insert_goes
      (keyword_then (several_parts row_parts) (several_value row_of) insert_goes (separated row) (several_reader row_parts row_of never row row_reader refl) KValues))

  pub insert_reader : IsReader insert_parts insert_of insert_goes insert
  unfolding insert
  insert_reader =
      formed (both (behind (kind.Keyword KInto) name_parts) rows_parts) (chained (λ n. n) read) insert insert_goes insert_parts insert_of
      (λ form. record { table = form.0; columns = form.1.0; rows = form.1.1 }) (λ form. (form.table, (form.columns, form.rows)))
      (λ form. refl) (λ form. ap (λ c. inserted form.0 c (several_value row_of form.1.1)) (same_columns form.1.0))
      (λ form. refl) (λ form. ap (λ c. inserted form.table c (several_value row_of form.rows)) (sym (same_columns form.columns)))
      (closed_then (behind (kind.Keyword KInto) name_parts) (λ n. n) (keyword KInto >> name) rows_parts read
      (λ t. columns >-> (λ c. keyword KValues >> separated row >-> (λ r. pure (inserted t c r)))) insert_goes
      (keyword_then name_parts (λ n. n) never name name_reader KInto) (λ n. refl) (λ t. rows_reader t))
    where
      read : List ℕ → Rows → InsertStmt
      read t = chained columns_value (λ c forms. inserted t c (several_value row_of forms))

  -- ---- updates and deletes

  set_reader : IsReader set_parts set_of expression_goes set
  unfolding set
  set_reader =
      formed (both name_parts (behind (kind.Symbol Equal) phrase_parts)) (chained (λ n. n) read) set expression_goes set_parts set_of
      (λ form. record { column = form.0; value = form.1 }) (λ form. (form.column, form.value)) (λ form. refl) (λ form. refl) (λ form. refl) (λ form. refl)
      (closed_then name_parts (λ n. n) name (behind (kind.Symbol Equal) phrase_parts) read (λ c. symbol Equal >> expression >-> (λ e. pure (record { column = c; value = e }))) expression_goes
      name_reader (λ n. refl)
      (λ c. mapped (behind (kind.Symbol Equal) phrase_parts) value (symbol Equal >> expression) (λ e. record { column = c; value = e }) expression_goes
      (symbol_then phrase_parts value expression_goes expression (expression_reader laws) Equal)))
    where
      read : List ℕ → Tree → AstSet
      read c e = record { column = c; value = value e }

  abbrev Sets : Type 0
  Sets = Several SetForm × Option Tree

  abbrev sets_parts : Sets → List Part
  sets_parts = both (behind (kind.Keyword KSet) (several_parts set_parts)) filter_parts

  abbrev updated : List ℕ → List AstSet → Option Ast → UpdateStmt
  updated t s f = record { table = t; sets = s; filter = f }

  abbrev update_goes : TokenKind → Bool
  update_goes = or_goes (several_goes expression_goes) filter_goes

  sets_reader : (t : List ℕ) → IsReader sets_parts (chained (several_value set_of) (λ s e. updated t s (option_map value e))) update_goes
      (keyword KSet >> separated set >-> (λ s. filter >-> (λ f. pure (updated t s f))))
  sets_reader t =
      open_maybe (behind (kind.Keyword KSet) (several_parts set_parts)) (several_value set_of) (keyword KSet >> separated set) filter_parts (λ s e. updated t s (option_map value e))
      (λ s. filter >-> (λ f. pure (updated t s f))) (several_goes expression_goes) filter_goes
      (keyword_then (several_parts set_parts) (several_value set_of) (several_goes expression_goes) (separated set) (several_reader set_parts set_of expression_goes set set_reader refl) KSet)
      (maybe_leads (several_goes expression_goes) (behind (kind.Keyword KWhere) phrase_parts) (λ e. refl))
      (λ s. mapped filter_parts (option_map value) filter (λ f. updated t s f) filter_goes (filter_reader laws))

  pub update_reader : IsReader update_parts update_of update_goes update
  unfolding update
  update_reader =
      formed (both name_parts sets_parts) (chained (λ n. n) read) update update_goes update_parts update_of
      (λ form. record { table = form.0; sets = form.1.0; filter = form.1.1 }) (λ form. (form.table, (form.sets, form.filter)))
      (λ form. refl) (λ form. refl) (λ form. refl) (λ form. refl)
      (closed_then name_parts (λ n. n) name sets_parts read (λ t. keyword KSet >> separated set >-> (λ s. filter >-> (λ f. pure (updated t s f)))) update_goes
      name_reader (λ n. refl) (λ t. sets_reader t))
    where
      read : List ℕ → Sets → UpdateStmt
      read t = chained (several_value set_of) (λ s e. updated t s (option_map value e))

  pub delete_reader : IsReader delete_parts delete_of filter_goes delete
  unfolding delete
  delete_reader =
      formed (both (behind (kind.Keyword KFrom) name_parts) filter_parts) (chained (λ n. n) read) delete filter_goes delete_parts delete_of
      (λ form. record { table = form.0; filter = form.1 }) (λ form. (form.table, form.filter)) (λ form. refl) (λ form. refl) (λ form. refl) (λ form. refl)
      (closed_then (behind (kind.Keyword KFrom) name_parts) (λ n. n) (keyword KFrom >> name) filter_parts read (λ t. filter >-> (λ f. pure (record { table = t; filter = f }))) filter_goes
      (keyword_then name_parts (λ n. n) never name name_reader KFrom) (λ n. refl)
      (λ t. mapped filter_parts (option_map value) filter (λ f. record { table = t; filter = f }) filter_goes (filter_reader laws)))
    where
      read : List ℕ → Option Tree → DeleteStmt
      read t e = record { table = t; filter = option_map value e }
