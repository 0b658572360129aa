-- The readers of queries.
use Rattle.std.proofs.Common.{◌≡◌, ◌⊎◌, ℕ, List, [], ◌∷◌, map, map-id, Bool, true, false, Option, Some, None, option_map, unwrap_or, refl, sym, ap, ◌∙◌, inl, inr}
use Rattle.sql_ast.specs.declared.ast.Ast.{Ast}
use Rattle.sql_ast.specs.declared.ast.ColRef.{ColRef}
use Rattle.sql_ast.specs.declared.select.JoinRef.{JoinRef}
use Rattle.sql_ast.specs.declared.select.Items.{Items}
use Rattle.sql_ast.specs.declared.select.OrderRef.{OrderRef}
use Rattle.sql_ast.specs.declared.select.SelectStmt.{SelectStmt}
use Rattle.sql_ast.specs.declared.select.TableRef.{TableRef}
use Rattle.sql_lex.specs.declared.keyword.Keyword.{Keyword}
use Rattle.sql_lex.specs.declared.keyword.Keyword.TheVariants.{KFrom, KWhere, KJoin, KOn, KGroup, KBy, KOrder, KAsc, KDesc, KLimit}
use Rattle.sql_lex.specs.declared.symbol.Symbol.TheVariants.{Comma}
use Rattle.sql_lex.specs.declared.token.TokenKind.{TokenKind}
use Rattle.sql_lex.specs.declared.token.TokenKind.TheVariants as kind
use Rattle.sql_parse.specs.inner.Kinds.{is_keyword, is_symbol}
use Rattle.sql_parse.specs.Trees.{Tree, value}
use Rattle.sql_parse.specs.Forms.{Several, listed, listed_if, ItemsForm, items_of, JoinForm, join_of, OrderForm, ordered_of, SelectForm, select_of}
use Rattle.sql_parse.specs.inner.Reading.{Parser, ◌>->◌, ◌>>◌, pure, keyword, number, separated, clause, expression, column, table, items, joined, join, filter, group, descending, ordered, order, limit, select}
use Rattle.sql_parse.proofs.ExpressionLaws.{ExpressionLaws}
use Rattle.sql_parse.proofs.ReaderParts.{Part, before, Overruns}
use Rattle.sql_parse.proofs.ReaderLaws.{IsReader, Ended, both, chained}
use Rattle.sql_parse.proofs.ReaderSequence.{Leads, leads_append, leads_ended, leads_over, never, never_goes, or_goes, ended_left, ended_right, open_then, open_maybe, closed_then, mapped, formed}
use Rattle.sql_parse.proofs.ReaderTokens.{keyword_itself}
use Rattle.sql_parse.proofs.ReaderChoices.{behind, keyword_then, pure_reader, chosen, choice, optional, either, maybe_parts, maybe_value, maybe_leads}
use Rattle.sql_parse.proofs.ReaderLists.{several_parts, several_value, several_reader}
use Rattle.sql_parse.proofs.ReaderExpressions.{expression_goes, phrase_parts, expression_reader}
use Rattle.sql_parse.proofs.ReaderNames.{keyword_reader, number_reader, after_reader, column_goes, column_reader, alias_goes, table_reader}
use Rattle.sql_parse.proofs.ReaderItems.{items_goes, items_reader}
use Rattle.sql_parse.proofs.StatementParts.{word_part, number_parts, column_parts, table_parts, items_parts, joined_parts, join_parts, filter_parts, by_parts, clause_parts, direction_parts, ordered_parts, limit_parts, select_parts}

-- ---- what two keywords introduce

abbrev pub several_goes : (TokenKind → Bool) → TokenKind → Bool
several_goes goes = or_goes goes (or_goes goes (is_symbol Comma))

abbrev pub clause_goes : Keyword → (TokenKind → Bool) → TokenKind → Bool
clause_goes k goes = or_goes (several_goes goes) (is_keyword k)

abbrev pub clause_value : {F A : Type 0} → (F → A) → Option (Several F) → List A
clause_value value = maybe_value (several_value value) []

clause_reader : {F A : Type 0} (parts : F → List Part) (value : F → A) (goes : TokenKind → Bool) (p : Parser A) (k : Keyword) → IsReader parts value goes p →
    goes (kind.Symbol Comma) ≡ false → IsReader (clause_parts k parts) (clause_value value) (clause_goes k goes) (clause k p)
clause_reader {F} {A} parts value goes p k reader apart =
    optional (by_parts k parts) (several_value value) (several_goes goes) (keyword k >> keyword KBy >> separated p) (is_keyword k) []
    (formed (both by_words (several_parts parts)) (chained (λ a. a) (λ a forms. several_value value forms)) (keyword k >> keyword KBy >> separated p) (several_goes goes)
    (by_parts k parts) (several_value value) (λ form. form.1) (λ forms. (tt, forms)) (λ form. refl) (λ form. refl) (λ forms. refl) (λ forms. refl)
    (closed_then by_words (λ a. a) (keyword k >> keyword KBy) (several_parts parts) (λ a forms. several_value value forms) (λ a. separated p) (several_goes goes)
    (keyword_then (λ a. word_part KBy ∷ []) (λ a. a) never (keyword KBy) (keyword_reader KBy) k) (λ a. refl)
    (λ a. several_reader parts value goes p reader apart)))
    (λ forms. keyword_itself k)
  where
    by_words : Unit {0} → List Part
    by_words a = word_part k ∷ word_part KBy ∷ []

-- ---- columns to group and to sort by

abbrev pub group_goes : TokenKind → Bool
group_goes = clause_goes KGroup column_goes

pub group_reader : IsReader (clause_parts KGroup column_parts) (clause_value (λ c. c)) group_goes group
unfolding group
group_reader = clause_reader column_parts (λ c. c) column_goes column KGroup column_reader refl

abbrev pub direction_value : Option Bool → Bool
direction_value direction = unwrap_or direction false

abbrev pub direction_goes : TokenKind → Bool
direction_goes = or_goes (or_goes never (is_keyword KAsc)) (is_keyword KDesc)

direction_reader : IsReader direction_parts direction_value direction_goes descending
unfolding descending
direction_reader =
    formed (either (behind (kind.Keyword KDesc) none_parts) asc_parts) (either (λ (a : Unit {0}). true) (maybe_value (λ (a : Unit {0}). false) false)) descending direction_goes direction_parts direction_value
    to from to_parts to_value from_parts from_value
    (chosen (behind (kind.Keyword KDesc) none_parts) (λ a. true) (keyword KDesc >> pure true) asc_parts (maybe_value (λ (a : Unit {0}). false) false)
    (choice (is_keyword KAsc) (keyword KAsc >> pure false) (pure false)) (is_keyword KDesc) direction_goes never (or_goes never (is_keyword KAsc))
    (keyword_then none_parts (λ a. true) never (pure true) (pure_reader true) KDesc)
    (optional (behind (kind.Keyword KAsc) none_parts) (λ a. false) never (keyword KAsc >> pure false) (is_keyword KAsc) false
    (keyword_then none_parts (λ a. false) never (pure false) (pure_reader false) KAsc) (λ a. keyword_itself KAsc))
    (λ a. keyword_itself KDesc)
    skips over
    (λ rest ended. never_goes rest)
    (λ rest ended. ended_left (or_goes never (is_keyword KAsc)) (is_keyword KDesc) rest ended))
  where
    none_parts : Unit {0} → List Part
    none_parts a = []

    asc_parts : Option (Unit {0}) → List Part
    asc_parts = maybe_parts (behind (kind.Keyword KAsc) none_parts)

    asc_leads : (form : Option (Unit {0})) → Leads (is_keyword KDesc) (asc_parts form)
    asc_leads None = tt
    asc_leads (Some a) = refl

    skips : (form : Option (Unit {0})) (rest : List TokenKind) → Ended direction_goes rest → Ended (is_keyword KDesc) (before (asc_parts form) rest)
    skips form rest ended = leads_ended (is_keyword KDesc) (asc_parts form) rest (asc_leads form) (ended_right (or_goes never (is_keyword KAsc)) (is_keyword KDesc) rest ended)

    over : (form : Option (Unit {0})) (tokens : List TokenKind) (left : ℕ) → Overruns (asc_parts form) tokens left → Ended (is_keyword KDesc) tokens
    over form tokens left overruns = leads_over (is_keyword KDesc) (asc_parts form) tokens left (asc_leads form) overruns

    to : Unit {0} ⊎ Option (Unit {0}) → Option Bool
    to (inl a) = Some true
    to (inr (Some a)) = Some false
    to (inr None) = None

    from : Option Bool → Unit {0} ⊎ Option (Unit {0})
    from (Some true) = inl tt
    from (Some false) = inr (Some tt)
    from None = inr None

    to_parts : (form : Unit {0} ⊎ Option (Unit {0})) → direction_parts (to form) ≡ either (behind (kind.Keyword KDesc) none_parts) asc_parts form
    to_parts (inl a) = refl
    to_parts (inr (Some a)) = refl
    to_parts (inr None) = refl

    to_value : (form : Unit {0} ⊎ Option (Unit {0})) → direction_value (to form) ≡ either (λ (a : Unit {0}). true) (maybe_value (λ (a : Unit {0}). false) false) form
    to_value (inl a) = refl
    to_value (inr (Some a)) = refl
    to_value (inr None) = refl

    from_parts : (form : Option Bool) → either (behind (kind.Keyword KDesc) none_parts) asc_parts (from form) ≡ direction_parts form
    from_parts (Some true) = refl
    from_parts (Some false) = refl
    from_parts None = refl

    from_value : (form : Option Bool) → either (λ (a : Unit {0}). true) (maybe_value (λ (a : Unit {0}). false) false) (from form) ≡ direction_value form
    from_value (Some true) = refl
    from_value (Some false) = refl
    from_value None = refl

abbrev pub ordered_goes : TokenKind → Bool
ordered_goes = or_goes column_goes direction_goes

ordered_reader : IsReader ordered_parts ordered_of ordered_goes ordered
unfolding ordered
ordered_reader =
    formed (both column_parts direction_parts) (chained (λ c. c) read) ordered ordered_goes ordered_parts ordered_of
    (λ form. record { column = form.0; direction = form.1 }) (λ form. (form.column, form.direction)) (λ form. refl) (λ form. refl) (λ form. refl) (λ form. refl)
    (open_maybe column_parts (λ c. c) column direction_parts read (λ c. descending >-> (λ d. pure (record { column = c; descending = d }))) column_goes direction_goes column_reader leads
    (λ c. mapped direction_parts direction_value descending (λ d. record { column = c; descending = d }) direction_goes direction_reader))
  where
    read : ColRef → Option Bool → OrderRef
    read c d = record { column = c; descending = direction_value d }

    leads : (d : Option Bool) → Leads column_goes (direction_parts d)
    leads None = tt
    leads (Some true) = refl
    leads (Some false) = refl

abbrev pub order_goes : TokenKind → Bool
order_goes = clause_goes KOrder ordered_goes

pub order_reader : IsReader (clause_parts KOrder ordered_parts) (clause_value ordered_of) order_goes order
unfolding order
order_reader = clause_reader ordered_parts ordered_of ordered_goes ordered KOrder ordered_reader refl

abbrev pub limit_goes : TokenKind → Bool
limit_goes = or_goes never (is_keyword KLimit)

pub limit_reader : IsReader limit_parts (option_map (λ n. n)) limit_goes limit
unfolding limit
limit_reader = after_reader number_parts (λ n. n) never number KLimit number_reader

abbrev pub filter_goes : TokenKind → Bool
filter_goes = or_goes expression_goes (is_keyword KWhere)

abbrev pub join_goes : TokenKind → Bool
join_goes = or_goes expression_goes (is_keyword KJoin)

abbrev built : Items → TableRef → Option JoinRef → Option Ast → List ColRef → List OrderRef → Option ℕ → SelectStmt
built i t j f g o l = record { items = i; left = t; right = j; filter = f; group = g; order = o; limit = l }

abbrev Sorted : Type 0
Sorted = Option (Several OrderForm) × Option ℕ

abbrev Grouped : Type 0
Grouped = Option (Several ColRef) × Sorted

abbrev Filtered : Type 0
Filtered = Option Tree × Grouped

abbrev Joined : Type 0
Joined = Option JoinForm × Filtered

abbrev From : Type 0
From = TableRef × Joined

abbrev sorted_parts : Sorted → List Part
sorted_parts = both (clause_parts KOrder ordered_parts) limit_parts

abbrev grouped_parts : Grouped → List Part
grouped_parts = both (clause_parts KGroup column_parts) sorted_parts

abbrev filtered_parts : Filtered → List Part
filtered_parts = both filter_parts grouped_parts

abbrev joins_parts : Joined → List Part
joins_parts = both join_parts filtered_parts

abbrev from_parts : From → List Part
from_parts = both (behind (kind.Keyword KFrom) table_parts) joins_parts

abbrev sorted_value : Items → TableRef → Option JoinRef → Option Ast → List ColRef → Sorted → SelectStmt
sorted_value i t j f g = chained (clause_value ordered_of) (λ o l. built i t j f g o (option_map (λ n. n) l))

abbrev grouped_value : Items → TableRef → Option JoinRef → Option Ast → Grouped → SelectStmt
grouped_value i t j f = chained (clause_value (λ c. c)) (λ g. sorted_value i t j f g)

abbrev filtered_value : Items → TableRef → Option JoinRef → Filtered → SelectStmt
filtered_value i t j = chained (option_map value) (λ f. grouped_value i t j f)

abbrev joins_value : Items → TableRef → Joined → SelectStmt
joins_value i t = chained (option_map join_of) (λ j. filtered_value i t j)

abbrev from_value : Items → From → SelectStmt
from_value i = chained (λ t. t) (λ t. joins_value i t)

abbrev sorted_goes : TokenKind → Bool
sorted_goes = or_goes order_goes limit_goes

abbrev grouped_goes : TokenKind → Bool
grouped_goes = or_goes group_goes sorted_goes

abbrev filtered_goes : TokenKind → Bool
filtered_goes = or_goes filter_goes grouped_goes

abbrev joins_goes : TokenKind → Bool
joins_goes = or_goes join_goes filtered_goes

abbrev pub select_goes : TokenKind → Bool
select_goes = or_goes alias_goes joins_goes

abbrev limit_by : Items → TableRef → Option JoinRef → Option Ast → List ColRef → List OrderRef → Parser SelectStmt
limit_by i t j f g o = limit >-> (λ l. pure (built i t j f g o l))

abbrev order_by : Items → TableRef → Option JoinRef → Option Ast → List ColRef → Parser SelectStmt
order_by i t j f g = order >-> (λ o. limit_by i t j f g o)

abbrev group_by : Items → TableRef → Option JoinRef → Option Ast → Parser SelectStmt
group_by i t j f = group >-> (λ g. order_by i t j f g)

abbrev filter_by : Items → TableRef → Option JoinRef → Parser SelectStmt
filter_by i t j = filter >-> (λ f. group_by i t j f)

abbrev join_by : Items → TableRef → Parser SelectStmt
join_by i t = join >-> (λ j. filter_by i t j)

abbrev from_by : Items → Parser SelectStmt
from_by i = keyword KFrom >> table >-> (λ t. join_by i t)

module _ (laws : ExpressionLaws) where
  -- ---- joins and conditions

  pub filter_reader : IsReader filter_parts (option_map value) filter_goes filter
  unfolding filter
  filter_reader = after_reader phrase_parts value expression_goes expression KWhere (expression_reader laws)

  joined_reader : IsReader joined_parts join_of expression_goes joined
  unfolding joined
  joined_reader =
      formed (both table_parts (behind (kind.Keyword KOn) phrase_parts)) (chained (λ t. t) read) joined expression_goes joined_parts join_of
      (λ form. record { table = form.0; on = form.1 }) (λ form. (form.table, form.on)) (λ form. refl) (λ form. refl) (λ form. refl) (λ form. refl)
      (open_then table_parts (λ t. t) table (behind (kind.Keyword KOn) phrase_parts) read (λ t. keyword KOn >> expression >-> (λ e. pure (record { table = t; on = e }))) alias_goes expression_goes
      table_reader (λ e. refl)
      (λ t. mapped (behind (kind.Keyword KOn) phrase_parts) value (keyword KOn >> expression) (λ e. record { table = t; on = e }) expression_goes
      (keyword_then phrase_parts value expression_goes expression (expression_reader laws) KOn)))
    where
      read : TableRef → Tree → JoinRef
      read t e = record { table = t; on = value e }

  join_reader : IsReader join_parts (option_map join_of) join_goes join
  unfolding join
  join_reader = after_reader joined_parts join_of expression_goes joined KJoin joined_reader

  -- ---- queries

  sorted_reader : (i : Items) (t : TableRef) (j : Option JoinRef) (f : Option Ast) (g : List ColRef) → IsReader sorted_parts (sorted_value i t j f g) sorted_goes (order_by i t j f g)
  sorted_reader i t j f g =
      open_maybe (clause_parts KOrder ordered_parts) (clause_value ordered_of) order limit_parts (λ o l. built i t j f g o (option_map (λ n. n) l)) (λ o. limit_by i t j f g o) order_goes limit_goes
      order_reader (maybe_leads order_goes (behind (kind.Keyword KLimit) number_parts) (λ n. refl))
      (λ o. mapped limit_parts (option_map (λ n. n)) limit (λ l. built i t j f g o l) limit_goes limit_reader)

  grouped_reader : (i : Items) (t : TableRef) (j : Option JoinRef) (f : Option Ast) → IsReader grouped_parts (grouped_value i t j f) grouped_goes (group_by i t j f)
  grouped_reader i t j f =
      open_maybe (clause_parts KGroup column_parts) (clause_value (λ c. c)) group sorted_parts (λ g. sorted_value i t j f g) (λ g. order_by i t j f g) group_goes sorted_goes
      group_reader
      (λ form. leads_append group_goes (clause_parts KOrder ordered_parts form.0) (limit_parts form.1)
      (maybe_leads group_goes (by_parts KOrder ordered_parts) (λ o. refl) form.0) (maybe_leads group_goes (behind (kind.Keyword KLimit) number_parts) (λ n. refl) form.1))
      (λ g. sorted_reader i t j f g)

  sorted_leads : (goes : TokenKind → Bool) → goes (kind.Keyword KOrder) ≡ false → goes (kind.Keyword KLimit) ≡ false → (form : Sorted) → Leads goes (sorted_parts form)
  sorted_leads goes o l form =
      leads_append goes (clause_parts KOrder ordered_parts form.0) (limit_parts form.1)
      (maybe_leads goes (by_parts KOrder ordered_parts) (λ forms. o) form.0) (maybe_leads goes (behind (kind.Keyword KLimit) number_parts) (λ n. l) form.1)

  grouped_leads : (goes : TokenKind → Bool) → goes (kind.Keyword KGroup) ≡ false → goes (kind.Keyword KOrder) ≡ false → goes (kind.Keyword KLimit) ≡ false → (form : Grouped) → Leads goes (grouped_parts form)
  grouped_leads goes g o l form =
      leads_append goes (clause_parts KGroup column_parts form.0) (sorted_parts form.1) (maybe_leads goes (by_parts KGroup column_parts) (λ forms. g) form.0) (sorted_leads goes o l form.1)

  filtered_leads : (goes : TokenKind → Bool) → goes (kind.Keyword KWhere) ≡ false → goes (kind.Keyword KGroup) ≡ false → goes (kind.Keyword KOrder) ≡ false → goes (kind.Keyword KLimit) ≡ false →
      (form : Filtered) → Leads goes (filtered_parts form)
  filtered_leads goes f g o l form =
      leads_append goes (filter_parts form.0) (grouped_parts form.1) (maybe_leads goes (behind (kind.Keyword KWhere) phrase_parts) (λ e. f) form.0) (grouped_leads goes g o l form.1)

  filtered_reader : (i : Items) (t : TableRef) (j : Option JoinRef) → IsReader filtered_parts (filtered_value i t j) filtered_goes (filter_by i t j)
  filtered_reader i t j =
      open_maybe filter_parts (option_map value) filter grouped_parts (λ f. grouped_value i t j f) (λ f. group_by i t j f) filter_goes grouped_goes
      filter_reader (grouped_leads filter_goes refl refl refl) (λ f. grouped_reader i t j f)

  joins_reader : (i : Items) (t : TableRef) → IsReader joins_parts (joins_value i t) joins_goes (join_by i t)
  joins_reader i t =
      open_maybe join_parts (option_map join_of) join filtered_parts (λ j. filtered_value i t j) (λ j. filter_by i t j) join_goes filtered_goes
      join_reader (filtered_leads join_goes refl refl refl refl) (λ j. filtered_reader i t j)

  from_reader : (i : Items) → IsReader from_parts (from_value i) select_goes (from_by i)
  from_reader i =
      open_maybe (behind (kind.Keyword KFrom) table_parts) (λ t. t) (keyword KFrom >> table) joins_parts (λ t. joins_value i t) (λ t. join_by i t) alias_goes joins_goes
      (keyword_then table_parts (λ t. t) alias_goes table table_reader KFrom)
      (λ form. leads_append alias_goes (join_parts form.0) (filtered_parts form.1)
      (maybe_leads alias_goes (behind (kind.Keyword KJoin) joined_parts) (λ j. refl) form.0) (filtered_leads alias_goes refl refl refl refl form.1))
      (λ t. joins_reader i t)

  to : ItemsForm × From → SelectForm
  to form = record {
    items = form.0;
    left = form.1.0;
    right = form.1.1.0;
    filter = form.1.1.1.0;
    group = form.1.1.1.1.0;
    order = form.1.1.1.1.1.0;
    limit = form.1.1.1.1.1.1;
  }

  from : SelectForm → ItemsForm × From
  from s = (s.items, (s.left, (s.right, (s.filter, (s.group, (s.order, s.limit))))))

  same_group : (g : Option (Several ColRef)) → listed_if g ≡ clause_value (λ c. c) g
  same_group None = refl
  same_group (Some columns) = sym (map-id (listed columns))

  same_order : (o : Option (Several OrderForm)) → map ordered_of (listed_if o) ≡ clause_value ordered_of o
  same_order None = refl
  same_order (Some orders) = refl

  same_limit : (l : Option ℕ) → l ≡ option_map (λ n. n) l
  same_limit None = refl
  same_limit (Some n) = refl

  same_select : (s : SelectForm) → select_of s ≡ chained items_of (λ i. from_value i) (from s)
  unfolding from
  same_select s =
      ap (λ g. built (items_of s.items) s.left (option_map join_of s.right) (option_map value s.filter) g (map ordered_of (listed_if s.order)) s.limit) (same_group s.group)
      ∙ ap (λ o. built (items_of s.items) s.left (option_map join_of s.right) (option_map value s.filter) (clause_value (λ c. c) s.group) o s.limit) (same_order s.order)
      ∙ ap (λ l. built (items_of s.items) s.left (option_map join_of s.right) (option_map value s.filter) (clause_value (λ c. c) s.group) (clause_value ordered_of s.order) l) (same_limit s.limit)

  pub select_reader : IsReader select_parts select_of select_goes select
  unfolding select to from
  select_reader =
      formed (both items_parts from_parts) (chained items_of (λ i. from_value i)) select select_goes select_parts select_of to from
      (λ form. refl) (λ form. same_select (to form)) (λ s. refl) (λ s. sym (same_select s))
      (open_then items_parts items_of items from_parts (λ i. from_value i) (λ i. from_by i) items_goes select_goes (items_reader laws) (λ form. refl) (λ i. from_reader i))
