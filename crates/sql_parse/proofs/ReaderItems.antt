-- The readers of a query's items.
use Rattle.std.proofs.Common.{◌≡◌, ◌⊎◌, ℕ, List, [], ◌∷◌, ◌++◌, map, Bool, false, Option, Some, None, refl, ap, ◌∙◌, inl, inr}
use Rattle.sql_ast.specs.declared.ast.Ast.{Ast}
use Rattle.sql_ast.specs.declared.select.AstItem.{AstItem}
use Rattle.sql_ast.specs.declared.select.AstValue.{AstValue}
use Rattle.sql_ast.specs.declared.select.AstValue.TheVariants as of_value
use Rattle.sql_ast.specs.declared.select.Items.TheVariants as of_items
use Rattle.sql_lex.specs.declared.keyword.Keyword.{Keyword}
use Rattle.sql_lex.specs.declared.keyword.Keyword.TheVariants.{KCount, KSum, KMin, KMax}
use Rattle.sql_lex.specs.declared.symbol.Symbol.TheVariants.{Close, Open, Comma}
use Rattle.sql_lex.specs.declared.symbol.Symbol.TheVariants as star
use Rattle.sql_lex.specs.declared.token.TokenKind.{TokenKind}
use Rattle.sql_lex.specs.declared.token.TokenKind.TheVariants as kind
use Rattle.sql_parse.specs.inner.Kinds.{is_keyword, is_symbol}
use Rattle.sql_parse.specs.Trees.{Tree, value}
use Rattle.sql_parse.specs.Forms.{Several, ValueForm, ItemForm, ItemsForm, value_of, item_of, items_of, listed}
use Rattle.sql_parse.specs.Forms.ValueForm.{Plain, CountAll, Count, Sum, Min, Max}
use Rattle.sql_parse.specs.Forms.ItemsForm.{Star, Listed}
use Rattle.sql_parse.specs.inner.Reading.{Parser, ◌>->◌, ◌>>◌, ◌<$>◌, pure, begins, keyword, symbol, expression, argument, counted, count, item_value, item, items, alias, separated}
use Rattle.sql_parse.proofs.ExpressionLaws.{ExpressionLaws}
use Rattle.sql_parse.proofs.ReaderParts.{Part, Word, Phrase, before, Overruns}
use Rattle.sql_parse.proofs.ReaderLaws.{IsReader, Ended, both, chained}
use Rattle.sql_parse.proofs.ReaderSequence.{Leads, never, never_goes, or_goes, open_then, open_maybe, mapped, formed}
use Rattle.sql_parse.proofs.ReaderTokens.{keyword_itself, symbol_itself}
use Rattle.sql_parse.proofs.ReaderChoices.{behind, keyword_then, symbol_then, pure_reader, chosen, choice, either, Picks}
use Rattle.sql_parse.proofs.ReaderLists.{several_parts, several_value, several_reader}
use Rattle.sql_parse.proofs.ReaderExpressions.{expression_goes, phrase_parts, expression_reader, Misses, misses, misses_deep}
use Rattle.sql_parse.proofs.ReaderNames.{symbol_reader, alias_goes, alias_reader}
use Rattle.sql_parse.proofs.StatementParts.{sign_part, bracket_parts, alias_parts, value_parts, item_parts, items_parts}

-- ---- parts that begin with nothing that passes a test

abbrev pub Clear : (TokenKind → Bool) → List Part → Type 0
Clear test [] = ⊥
Clear test (Word kind ∷ parts) = test kind ≡ false
Clear test (Phrase tree ∷ parts) = Misses test

pub clear_ended : (test : TokenKind → Bool) (parts : List Part) (rest : List TokenKind) → Clear test parts → Ended test (before parts rest)
unfolding begins
clear_ended test [] rest clear = absurd clear
clear_ended test (Word kind ∷ parts) rest clear = clear
clear_ended test (Phrase tree ∷ parts) rest clear = misses test clear tree (before parts rest)

pub clear_over : (test : TokenKind → Bool) (parts : List Part) (tokens : List TokenKind) (left : ℕ) → Clear test parts → Overruns parts tokens left → Ended test tokens
unfolding begins
clear_over test [] tokens left clear over = absurd clear
clear_over test (Word kind ∷ parts) tokens left clear over = ap (begins test) over.1 ∙ clear
clear_over test (Phrase tree ∷ parts) tokens left clear (inl deep) = misses_deep test clear tree tokens left deep
clear_over test (Phrase tree ∷ parts) tokens left clear (inr later) = ap (begins test) later.1 ∙ misses test clear tree later.0

pub clear_append : (test : TokenKind → Bool) (parts others : List Part) → Clear test parts → Clear test (parts ++ others)
clear_append test [] others clear = absurd clear
clear_append test (Word kind ∷ parts) others clear = clear
clear_append test (Phrase tree ∷ parts) others clear = clear

misses_count : Misses (is_keyword KCount)
misses_count = record { minus = refl; opening = refl; denied = refl; null = refl; truth = refl; untruth = refl; int = λ n. refl; text = λ t. refl; name = λ n. refl }

misses_sum : Misses (is_keyword KSum)
misses_sum = record { minus = refl; opening = refl; denied = refl; null = refl; truth = refl; untruth = refl; int = λ n. refl; text = λ t. refl; name = λ n. refl }

misses_min : Misses (is_keyword KMin)
misses_min = record { minus = refl; opening = refl; denied = refl; null = refl; truth = refl; untruth = refl; int = λ n. refl; text = λ t. refl; name = λ n. refl }

misses_max : Misses (is_keyword KMax)
misses_max = record { minus = refl; opening = refl; denied = refl; null = refl; truth = refl; untruth = refl; int = λ n. refl; text = λ t. refl; name = λ n. refl }

misses_star : Misses (is_symbol star.Star)
misses_star = record { minus = refl; opening = refl; denied = refl; null = refl; truth = refl; untruth = refl; int = λ n. refl; text = λ t. refl; name = λ n. refl }

pub chosen_clear : {F G A : Type 0} (parts : F → List Part) (value : F → A) (p : Parser A) (others : G → List Part) (other_value : G → A) (q : Parser A) (test : TokenKind → Bool) (goes : TokenKind → Bool) →
    IsReader parts value goes p → IsReader others other_value goes q → ((form : F) → Picks test (parts form)) → ((form : G) → Clear test (others form)) →
    IsReader (either parts others) (either value other_value) goes (choice test p q)
chosen_clear parts value p others other_value q test goes first second picks clear =
    chosen parts value p others other_value q test goes goes goes first second picks
    (λ form rest ended. clear_ended test (others form) rest (clear form)) (λ form tokens left over. clear_over test (others form) tokens left (clear form) over)
    (λ rest ended. ended) (λ rest ended. ended)

-- a reader that nothing goes on with is one that such tokens might
pub looser : {F A : Type 0} (parts : F → List Part) (value : F → A) (p : Parser A) (goes : TokenKind → Bool) → IsReader parts value never p → IsReader parts value goes p
looser parts value p goes reader = record {
  least = reader.least;
  lawful = reader.lawful;
  apart = reader.apart;
  answers = reader.answers;
  complete = λ form rest lawful fits ended. reader.complete form rest lawful fits (never_goes rest);
  deep = reader.deep;
}

abbrev pub argument_parts : Tree → List Part
argument_parts e = bracket_parts (phrase_parts e)

abbrev star_parts : Unit {0} → List Part
star_parts a = sign_part star.Star ∷ sign_part Close ∷ []

abbrev count_parts : Unit {0} ⊎ Tree × Unit {0} → List Part
count_parts = behind (kind.Symbol Open) (either star_parts (both phrase_parts (λ (a : Unit {0}). sign_part Close ∷ [])))

abbrev count_value : Unit {0} ⊎ Tree × Unit {0} → AstValue
count_value = either (λ a. of_value.CountAll) (chained value (λ e a. of_value.Count e))

abbrev aggregate_parts : Keyword → Tree → List Part
aggregate_parts k = behind (kind.Keyword k) argument_parts

abbrev max_parts : Tree ⊎ Tree → List Part
max_parts = either (aggregate_parts KMax) phrase_parts

abbrev min_parts : Tree ⊎ (Tree ⊎ Tree) → List Part
min_parts = either (aggregate_parts KMin) max_parts

abbrev sum_parts : Tree ⊎ (Tree ⊎ (Tree ⊎ Tree)) → List Part
sum_parts = either (aggregate_parts KSum) min_parts

abbrev max_value : Tree ⊎ Tree → AstValue
max_value = either (λ e. of_value.Max (value e)) (λ e. of_value.Plain (value e))

abbrev min_value : Tree ⊎ (Tree ⊎ Tree) → AstValue
min_value = either (λ e. of_value.Min (value e)) max_value

abbrev sum_value : Tree ⊎ (Tree ⊎ (Tree ⊎ Tree)) → AstValue
sum_value = either (λ e. of_value.Sum (value e)) min_value

abbrev any_parts : (Unit {0} ⊎ Tree × Unit {0}) ⊎ (Tree ⊎ (Tree ⊎ (Tree ⊎ Tree))) → List Part
any_parts = either (behind (kind.Keyword KCount) count_parts) sum_parts

abbrev any_value : (Unit {0} ⊎ Tree × Unit {0}) ⊎ (Tree ⊎ (Tree ⊎ (Tree ⊎ Tree))) → AstValue
any_value = either count_value sum_value

abbrev pub item_goes : TokenKind → Bool
item_goes = or_goes expression_goes alias_goes

abbrev pub items_goes : TokenKind → Bool
items_goes = or_goes item_goes (or_goes item_goes (is_symbol Comma))

module _ (laws : ExpressionLaws) where
  -- ---- arguments

  closed_expression : {A : Type 0} (f : Ast → A) → IsReader (both phrase_parts (λ (a : Unit {0}). sign_part Close ∷ [])) (chained value (λ e a. f e)) never (expression >-> (λ e. symbol Close >> pure (f e)))
  closed_expression f =
      open_then phrase_parts value expression (λ (a : Unit {0}). sign_part Close ∷ []) (λ e a. f e) (λ e. symbol Close >> pure (f e)) expression_goes never
      (expression_reader laws) (λ a. refl)
      (λ e. symbol_then (λ a. []) (λ a. f e) never (pure (f e)) (pure_reader (f e)) Close)

  pub argument_reader : IsReader argument_parts value never argument
  unfolding argument
  argument_reader =
      formed (both (behind (kind.Symbol Open) phrase_parts) (λ (a : Unit {0}). sign_part Close ∷ [])) (chained value (λ e a. e)) argument never argument_parts value
      (λ form. form.0) (λ e. (e, tt)) (λ form. refl) (λ form. refl) (λ e. refl) (λ e. refl)
      (open_then (behind (kind.Symbol Open) phrase_parts) value (symbol Open >> expression) (λ (a : Unit {0}). sign_part Close ∷ []) (λ e a. e) (λ e. symbol Close >> pure e) expression_goes never
      (symbol_then phrase_parts value expression_goes expression (expression_reader laws) Open) (λ a. refl)
      (λ e. symbol_then (λ a. []) (λ a. e) never (pure e) (pure_reader e) Close))

  count_reader : IsReader count_parts count_value never count
  unfolding count
  count_reader =
      symbol_then (either star_parts (both phrase_parts (λ (a : Unit {0}). sign_part Close ∷ []))) count_value never counted
      (chosen_clear star_parts (λ a. of_value.CountAll) (symbol star.Star >> symbol Close >> pure of_value.CountAll)
      (both phrase_parts (λ (a : Unit {0}). sign_part Close ∷ [])) (chained value (λ e a. of_value.Count e)) (expression >-> (λ e. symbol Close >> pure (of_value.Count e)))
      (is_symbol star.Star) never
      (mapped star_parts (λ a. a) (symbol star.Star >> symbol Close) (λ a. of_value.CountAll) never
      (symbol_then (λ a. sign_part Close ∷ []) (λ a. a) never (symbol Close) (symbol_reader Close) star.Star))
      (closed_expression of_value.Count) (λ a. symbol_itself star.Star) (λ form. misses_star))
      Open

  -- ---- items

  aggregate_reader : (k : Keyword) (f : Ast → AstValue) → IsReader (aggregate_parts k) (λ e. f (value e)) expression_goes (keyword k >> f <$> argument)
  aggregate_reader k f =
      looser (aggregate_parts k) (λ e. f (value e)) (keyword k >> f <$> argument) expression_goes
      (keyword_then argument_parts (λ e. f (value e)) never (f <$> argument) (mapped argument_parts value argument f never argument_reader) k)

  max_or : Parser AstValue
  max_or = choice (is_keyword KMax) (keyword KMax >> of_value.Max <$> argument) (of_value.Plain <$> expression)

  min_or : Parser AstValue
  min_or = choice (is_keyword KMin) (keyword KMin >> of_value.Min <$> argument) max_or

  sum_or : Parser AstValue
  sum_or = choice (is_keyword KSum) (keyword KSum >> of_value.Sum <$> argument) min_or

  max_reader : IsReader max_parts max_value expression_goes max_or
  unfolding max_or
  max_reader =
      chosen_clear (aggregate_parts KMax) (λ e. of_value.Max (value e)) (keyword KMax >> of_value.Max <$> argument) phrase_parts (λ e. of_value.Plain (value e)) (of_value.Plain <$> expression)
      (is_keyword KMax) expression_goes (aggregate_reader KMax of_value.Max) (mapped phrase_parts value expression of_value.Plain expression_goes (expression_reader laws))
      (λ e. keyword_itself KMax) (λ e. misses_max)

  clear_min : (form : Tree ⊎ Tree) → Clear (is_keyword KMin) (max_parts form)
  clear_min (inl e) = refl
  clear_min (inr e) = misses_min

  min_reader : IsReader min_parts min_value expression_goes min_or
  unfolding min_or
  min_reader =
      chosen_clear (aggregate_parts KMin) (λ e. of_value.Min (value e)) (keyword KMin >> of_value.Min <$> argument) max_parts max_value max_or
      (is_keyword KMin) expression_goes (aggregate_reader KMin of_value.Min) max_reader (λ e. keyword_itself KMin) clear_min

  clear_sum : (form : Tree ⊎ (Tree ⊎ Tree)) → Clear (is_keyword KSum) (min_parts form)
  clear_sum (inl e) = refl
  clear_sum (inr (inl e)) = refl
  clear_sum (inr (inr e)) = misses_sum

  sum_reader : IsReader sum_parts sum_value expression_goes sum_or
  unfolding sum_or
  sum_reader =
      chosen_clear (aggregate_parts KSum) (λ e. of_value.Sum (value e)) (keyword KSum >> of_value.Sum <$> argument) min_parts min_value min_or
      (is_keyword KSum) expression_goes (aggregate_reader KSum of_value.Sum) min_reader (λ e. keyword_itself KSum) clear_sum

  clear_count : (form : Tree ⊎ (Tree ⊎ (Tree ⊎ Tree))) → Clear (is_keyword KCount) (sum_parts form)
  clear_count (inl e) = refl
  clear_count (inr (inl e)) = refl
  clear_count (inr (inr (inl e))) = refl
  clear_count (inr (inr (inr e))) = misses_count

  to_form : (Unit {0} ⊎ Tree × Unit {0}) ⊎ (Tree ⊎ (Tree ⊎ (Tree ⊎ Tree))) → ValueForm
  to_form (inl (inl a)) = CountAll
  to_form (inl (inr e)) = Count e.0
  to_form (inr (inl e)) = Sum e
  to_form (inr (inr (inl e))) = Min e
  to_form (inr (inr (inr (inl e)))) = Max e
  to_form (inr (inr (inr (inr e)))) = Plain e

  from_form : ValueForm → (Unit {0} ⊎ Tree × Unit {0}) ⊎ (Tree ⊎ (Tree ⊎ (Tree ⊎ Tree)))
  from_form CountAll = inl (inl tt)
  from_form (Count e) = inl (inr (e, tt))
  from_form (Sum e) = inr (inl e)
  from_form (Min e) = inr (inr (inl e))
  from_form (Max e) = inr (inr (inr (inl e)))
  from_form (Plain e) = inr (inr (inr (inr e)))

  to_parts : (form : (Unit {0} ⊎ Tree × Unit {0}) ⊎ (Tree ⊎ (Tree ⊎ (Tree ⊎ Tree)))) → value_parts (to_form form) ≡ any_parts form
  unfolding to_form
  to_parts (inl (inl a)) = refl
  to_parts (inl (inr e)) = refl
  to_parts (inr (inl e)) = refl
  to_parts (inr (inr (inl e))) = refl
  to_parts (inr (inr (inr (inl e)))) = refl
  to_parts (inr (inr (inr (inr e)))) = refl

  to_value : (form : (Unit {0} ⊎ Tree × Unit {0}) ⊎ (Tree ⊎ (Tree ⊎ (Tree ⊎ Tree)))) → value_of (to_form form) ≡ any_value form
  unfolding to_form
  to_value (inl (inl a)) = refl
  to_value (inl (inr e)) = refl
  to_value (inr (inl e)) = refl
  to_value (inr (inr (inl e))) = refl
  to_value (inr (inr (inr (inl e)))) = refl
  to_value (inr (inr (inr (inr e)))) = refl

  from_parts : (form : ValueForm) → any_parts (from_form form) ≡ value_parts form
  unfolding from_form
  from_parts CountAll = refl
  from_parts (Count e) = refl
  from_parts (Sum e) = refl
  from_parts (Min e) = refl
  from_parts (Max e) = refl
  from_parts (Plain e) = refl

  from_value : (form : ValueForm) → any_value (from_form form) ≡ value_of form
  unfolding from_form
  from_value CountAll = refl
  from_value (Count e) = refl
  from_value (Sum e) = refl
  from_value (Min e) = refl
  from_value (Max e) = refl
  from_value (Plain e) = refl

  value_reader : IsReader value_parts value_of expression_goes item_value
  unfolding item_value sum_or min_or max_or
  value_reader =
      formed any_parts any_value item_value expression_goes value_parts value_of to_form from_form to_parts to_value from_parts from_value
      (chosen_clear (behind (kind.Keyword KCount) count_parts) count_value (keyword KCount >> count) sum_parts sum_value sum_or (is_keyword KCount) expression_goes
      (looser (behind (kind.Keyword KCount) count_parts) count_value (keyword KCount >> count) expression_goes (keyword_then count_parts count_value never count count_reader KCount))
      sum_reader (λ form. keyword_itself KCount) clear_count)

  item_reader : IsReader item_parts item_of item_goes item
  unfolding item
  item_reader =
      formed (both value_parts alias_parts) (chained value_of read) item item_goes item_parts item_of (λ form. record { value = form.0; alias = form.1 }) (λ form. (form.value, form.alias))
      (λ form. refl) (λ form. refl) (λ form. refl) (λ form. refl)
      (open_maybe value_parts value_of item_value alias_parts read (λ v. alias >-> (λ a. pure (record { value = v; alias = a }))) expression_goes alias_goes value_reader
      leads (λ v. mapped alias_parts (λ a. a) alias (λ a. record { value = v; alias = a }) alias_goes alias_reader))
    where
      read : AstValue → Option (List ℕ) → AstItem
      read v a = record { value = v; alias = a }

      leads : (a : Option (List ℕ)) → Leads expression_goes (alias_parts a)
      leads None = tt
      leads (Some n) = refl

  clear_star : (form : ValueForm) → Clear (is_symbol star.Star) (value_parts form)
  clear_star CountAll = refl
  clear_star (Count e) = refl
  clear_star (Sum e) = refl
  clear_star (Min e) = refl
  clear_star (Max e) = refl
  clear_star (Plain e) = misses_star

  pub items_reader : IsReader items_parts items_of items_goes items
  unfolding items
  items_reader =
      formed (either star_only (several_parts item_parts)) (either (λ (a : Unit {0}). of_items.All) (λ forms. of_items.List (map item_of (listed forms)))) items items_goes items_parts items_of
      to from to_items to_items_value from_items from_items_value
      (chosen_clear star_only (λ a. of_items.All) (symbol star.Star >> pure of_items.All) (several_parts item_parts) (λ forms. of_items.List (map item_of (listed forms))) (of_items.List <$> separated item)
      (is_symbol star.Star) items_goes
      (looser star_only (λ a. of_items.All) (symbol star.Star >> pure of_items.All) items_goes
      (symbol_then (λ a. []) (λ a. of_items.All) never (pure of_items.All) (pure_reader of_items.All) star.Star))
      (mapped (several_parts item_parts) (several_value item_of) (separated item) of_items.List items_goes (several_reader item_parts item_of item_goes item item_reader refl))
      (λ a. symbol_itself star.Star)
      (λ forms. clear_append (is_symbol star.Star) (item_parts forms.first) _ (clear_append (is_symbol star.Star) (value_parts forms.first.value) (alias_parts forms.first.alias) (clear_star forms.first.value))))
    where
      star_only : Unit {0} → List Part
      star_only a = sign_part star.Star ∷ []

      to : Unit {0} ⊎ Several ItemForm → ItemsForm
      to (inl a) = Star
      to (inr forms) = Listed forms

      from : ItemsForm → Unit {0} ⊎ Several ItemForm
      from Star = inl tt
      from (Listed forms) = inr forms

      to_items : (form : Unit {0} ⊎ Several ItemForm) → items_parts (to form) ≡ either star_only (several_parts item_parts) form
      to_items (inl a) = refl
      to_items (inr forms) = refl

      to_items_value : (form : Unit {0} ⊎ Several ItemForm) → items_of (to form) ≡ either (λ (a : Unit {0}). of_items.All) (λ forms. of_items.List (map item_of (listed forms))) form
      to_items_value (inl a) = refl
      to_items_value (inr forms) = refl

      from_items : (form : ItemsForm) → either star_only (several_parts item_parts) (from form) ≡ items_parts form
      from_items Star = refl
      from_items (Listed forms) = refl

      from_items_value : (form : ItemsForm) → either (λ (a : Unit {0}). of_items.All) (λ forms. of_items.List (map item_of (listed forms))) (from form) ≡ items_of form
      from_items_value Star = refl
      from_items_value (Listed forms) = refl
