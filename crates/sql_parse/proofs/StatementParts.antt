-- Statements as they are written, in parts.
use Rattle.std.proofs.Common.{ℕ, pos, List, [], ◌∷◌, ◌++◌, Bool, true, false, Option, Some, None}
use Rattle.sql_ast.specs.declared.ast.ColRef.{ColRef}
use Rattle.sql_ast.specs.declared.select.TableRef.{TableRef}
use Rattle.sql_lex.specs.declared.keyword.Keyword.{Keyword}
use Rattle.sql_lex.specs.declared.keyword.Keyword.TheVariants.{KSelect, KInsert, KInto, KValues, KUpdate, KSet, KDelete, KFrom, KWhere, KJoin, KOn, KGroup, KBy, KOrder, KAsc, KDesc, KLimit, KAs, KBegin, KOf, KEpoch, KCommit, KRollback, KExplain, KCount, KSum, KMin, KMax, KFor}
use Rattle.sql_lex.specs.declared.symbol.Symbol.{Symbol}
use Rattle.sql_lex.specs.declared.symbol.Symbol.TheVariants.{Open, Close, Dot, Equal}
use Rattle.sql_lex.specs.declared.symbol.Symbol.TheVariants as star
use Rattle.sql_lex.specs.declared.token.TokenKind.TheVariants as kind
use Rattle.sql_parse.specs.Trees.{Tree}
use Rattle.sql_parse.specs.Forms.{Several, ValueForm, ItemForm, ItemsForm, JoinForm, OrderForm, SelectForm, RowForm, InsertForm, SetForm, UpdateForm, DeleteForm, StatementForm}
use Rattle.sql_parse.specs.Forms.ValueForm.{Plain, CountAll, Count, Sum, Min, Max}
use Rattle.sql_parse.specs.Forms.ItemsForm.{Star, Listed}
use Rattle.sql_parse.specs.Forms.StatementForm.{Select, SelectForUpdate, Insert, Update, Delete, Begin, BeginAsOf, Commit, Rollback, Explain}
use Rattle.sql_parse.proofs.ReaderParts.{Part, Word}
use Rattle.sql_parse.proofs.ReaderChoices.{behind, maybe_parts}
use Rattle.sql_parse.proofs.ReaderLists.{several_parts}
use Rattle.sql_parse.proofs.ReaderExpressions.{phrase_parts}

-- ---- queries

abbrev pub word_part : Keyword → Part
word_part k = Word (kind.Keyword k)

abbrev pub sign_part : Symbol → Part
sign_part s = Word (kind.Symbol s)

abbrev pub name_parts : List ℕ → List Part
name_parts name = Word (kind.Name name) ∷ []

abbrev pub number_parts : ℕ → List Part
number_parts n = Word (kind.Int (pos n)) ∷ []

abbrev pub qualified_parts : Option (List ℕ) → List ℕ → List Part
qualified_parts None name = name_parts name
qualified_parts (Some table) name = Word (kind.Name table) ∷ sign_part Dot ∷ name_parts name

abbrev pub column_parts : ColRef → List Part
column_parts column = qualified_parts column.table column.name

abbrev pub alias_parts : Option (List ℕ) → List Part
alias_parts = maybe_parts (behind (kind.Keyword KAs) name_parts)

abbrev pub table_parts : TableRef → List Part
table_parts table = name_parts table.name ++ alias_parts table.alias

abbrev pub bracket_parts : List Part → List Part
bracket_parts parts = sign_part Open ∷ parts ++ sign_part Close ∷ []

abbrev pub value_parts : ValueForm → List Part
value_parts (Plain e) = phrase_parts e
value_parts CountAll = word_part KCount ∷ bracket_parts (sign_part star.Star ∷ [])
value_parts (Count e) = word_part KCount ∷ bracket_parts (phrase_parts e)
value_parts (Sum e) = word_part KSum ∷ bracket_parts (phrase_parts e)
value_parts (Min e) = word_part KMin ∷ bracket_parts (phrase_parts e)
value_parts (Max e) = word_part KMax ∷ bracket_parts (phrase_parts e)

abbrev pub item_parts : ItemForm → List Part
item_parts item = value_parts item.value ++ alias_parts item.alias

abbrev pub items_parts : ItemsForm → List Part
items_parts Star = sign_part star.Star ∷ []
items_parts (Listed items) = several_parts item_parts items

abbrev pub joined_parts : JoinForm → List Part
joined_parts join = table_parts join.table ++ word_part KOn ∷ phrase_parts join.on

abbrev pub join_parts : Option JoinForm → List Part
join_parts = maybe_parts (behind (kind.Keyword KJoin) joined_parts)

abbrev pub filter_parts : Option Tree → List Part
filter_parts = maybe_parts (behind (kind.Keyword KWhere) phrase_parts)

abbrev pub by_parts : {F : Type 0} → Keyword → (F → List Part) → Several F → List Part
by_parts k parts forms = word_part k ∷ word_part KBy ∷ several_parts parts forms

abbrev pub clause_parts : {F : Type 0} → Keyword → (F → List Part) → Option (Several F) → List Part
clause_parts k parts = maybe_parts (by_parts k parts)

abbrev pub direction_parts : Option Bool → List Part
direction_parts None = []
direction_parts (Some true) = word_part KDesc ∷ []
direction_parts (Some false) = word_part KAsc ∷ []

abbrev pub ordered_parts : OrderForm → List Part
ordered_parts order = column_parts order.column ++ direction_parts order.direction

abbrev pub limit_parts : Option ℕ → List Part
limit_parts = maybe_parts (behind (kind.Keyword KLimit) number_parts)

abbrev pub select_parts : SelectForm → List Part
select_parts select =
    items_parts select.items ++ ((word_part KFrom ∷ table_parts select.left) ++ (join_parts select.right ++ (filter_parts select.filter
    ++ (clause_parts KGroup column_parts select.group ++ (clause_parts KOrder ordered_parts select.order ++ limit_parts select.limit)))))

-- ---- statements that write

abbrev pub row_parts : RowForm → List Part
row_parts row = bracket_parts (several_parts phrase_parts row)

abbrev pub columns_parts : Option (Several (List ℕ)) → List Part
columns_parts = maybe_parts (λ names. bracket_parts (several_parts name_parts names))

abbrev pub insert_parts : InsertForm → List Part
insert_parts insert = (word_part KInto ∷ name_parts insert.table) ++ (columns_parts insert.columns ++ word_part KValues ∷ several_parts row_parts insert.rows)

abbrev pub set_parts : SetForm → List Part
set_parts set = name_parts set.column ++ sign_part Equal ∷ phrase_parts set.value

abbrev pub update_parts : UpdateForm → List Part
update_parts update = name_parts update.table ++ ((word_part KSet ∷ several_parts set_parts update.sets) ++ filter_parts update.filter)

abbrev pub delete_parts : DeleteForm → List Part
delete_parts delete = (word_part KFrom ∷ name_parts delete.table) ++ filter_parts delete.filter

-- ---- all statements

abbrev pub as_of_parts : ℕ → List Part
as_of_parts epoch = word_part KAs ∷ word_part KOf ∷ word_part KEpoch ∷ number_parts epoch

-- whether FOR UPDATE stands behind a query
abbrev pub for_update_parts : Bool → List Part
for_update_parts false = []
for_update_parts true = word_part KFor ∷ word_part KUpdate ∷ []

abbrev pub statement_parts : StatementForm → List Part
statement_parts (Select select) = word_part KSelect ∷ select_parts select
statement_parts (SelectForUpdate select) = word_part KSelect ∷ (select_parts select ++ for_update_parts true)
statement_parts (Insert insert) = word_part KInsert ∷ insert_parts insert
statement_parts (Update update) = word_part KUpdate ∷ update_parts update
statement_parts (Delete delete) = word_part KDelete ∷ delete_parts delete
statement_parts Begin = word_part KBegin ∷ []
statement_parts (BeginAsOf epoch) = word_part KBegin ∷ as_of_parts epoch
statement_parts Commit = word_part KCommit ∷ []
statement_parts Rollback = word_part KRollback ∷ []
statement_parts (Explain select) = word_part KExplain ∷ word_part KSelect ∷ select_parts select
