-- The reader of queries with FOR UPDATE behind them or without it.
use Rattle.std.proofs.Common.{◌≡◌, List, [], ◌∷◌, Bool, true, false, Option, Some, None, refl}
use Rattle.sql_ast.specs.declared.statement.Statement.{Statement}
use Rattle.sql_lex.specs.declared.keyword.Keyword.TheVariants.{KFor, KUpdate}
use Rattle.sql_lex.specs.declared.token.TokenKind.{TokenKind}
use Rattle.sql_lex.specs.declared.token.TokenKind.TheVariants as kind
use Rattle.sql_parse.specs.inner.Kinds.{is_keyword}
use Rattle.sql_parse.specs.Forms.{SelectForm, select_of}
use Rattle.sql_parse.specs.inner.Reading.{◌>>◌, ◌<$>◌, pure, keyword, select, for_update, query_statement, query}
use Rattle.sql_parse.proofs.ExpressionLaws.{ExpressionLaws}
use Rattle.sql_parse.proofs.ReaderParts.{Part}
use Rattle.sql_parse.proofs.ReaderLaws.{IsReader, both, chained}
use Rattle.sql_parse.proofs.ReaderSequence.{Leads, never, or_goes, open_maybe, mapped, formed}
use Rattle.sql_parse.proofs.ReaderTokens.{keyword_itself}
use Rattle.sql_parse.proofs.ReaderChoices.{behind, keyword_then, optional, maybe_parts, maybe_value}
use Rattle.sql_parse.proofs.ReaderNames.{keyword_reader}
use Rattle.sql_parse.proofs.ReaderQueries.{select_goes, select_reader}
use Rattle.sql_parse.proofs.StatementParts.{word_part, select_parts, for_update_parts}

abbrev update_words : Unit {0} → List Part
update_words a = word_part KUpdate ∷ []

abbrev for_update_goes : TokenKind → Bool
for_update_goes = or_goes never (is_keyword KFor)

for_update_reader : IsReader for_update_parts (λ b. b) for_update_goes for_update
unfolding for_update
for_update_reader =
    formed (maybe_parts (behind (kind.Keyword KFor) update_words)) (maybe_value (λ (a : Unit {0}). true) false) for_update for_update_goes for_update_parts (λ b. b)
    to from to_parts to_value from_parts from_value
    (optional (behind (kind.Keyword KFor) update_words) (λ a. true) never (keyword KFor >> keyword KUpdate >> pure true) (is_keyword KFor) false
    (mapped (behind (kind.Keyword KFor) update_words) (λ a. a) (keyword KFor >> keyword KUpdate) (λ a. true) never
    (keyword_then update_words (λ a. a) never (keyword KUpdate) (keyword_reader KUpdate) KFor))
    (λ a. keyword_itself KFor))
  where
    to : Option (Unit {0}) → Bool
    to None = false
    to (Some a) = true

    from : Bool → Option (Unit {0})
    from false = None
    from true = Some tt

    to_parts : (form : Option (Unit {0})) → for_update_parts (to form) ≡ maybe_parts (behind (kind.Keyword KFor) update_words) form
    to_parts None = refl
    to_parts (Some a) = refl

    to_value : (form : Option (Unit {0})) → to form ≡ maybe_value (λ (a : Unit {0}). true) false form
    to_value None = refl
    to_value (Some a) = refl

    from_parts : (b : Bool) → maybe_parts (behind (kind.Keyword KFor) update_words) (from b) ≡ for_update_parts b
    from_parts false = refl
    from_parts true = refl

    from_value : (b : Bool) → maybe_value (λ (a : Unit {0}). true) false (from b) ≡ b
    from_value false = refl
    from_value true = refl

abbrev pub Query : Type 0
Query = SelectForm × Bool

abbrev pub query_parts : Query → List Part
query_parts = both select_parts for_update_parts

abbrev pub query_value : Query → Statement
query_value = chained select_of query_statement

abbrev pub query_goes : TokenKind → Bool
query_goes = or_goes select_goes for_update_goes

module _ (laws : ExpressionLaws) where
  pub query_reader : IsReader query_parts query_value query_goes query
  unfolding query
  query_reader =
      open_maybe select_parts select_of select for_update_parts query_statement (λ s. query_statement s <$> for_update) select_goes for_update_goes
      (select_reader laws) leads (λ s. mapped for_update_parts (λ b. b) for_update (query_statement s) for_update_goes for_update_reader)
    where
      leads : (b : Bool) → Leads select_goes (for_update_parts b)
      leads false = tt
      leads true = refl
