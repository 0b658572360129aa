-- The parts of a statement have its tokens and its expressions.
use Rattle.std.proofs.Common.{◌≡◌, ℕ, List, [], ◌∷◌, ◌++◌, true, false, Option, Some, None, refl, sym, ap, ◌∙◌, append_assoc, append-nil}
use Rattle.std.specs.List.{flat_map}
use Rattle.std.proofs.lemmas.List.{map-append}
use Rattle.sql_lex.specs.declared.keyword.Keyword.{Keyword}
use Rattle.sql_lex.specs.declared.keyword.Keyword.TheVariants.{KSelect, KInto, KInsert, KUpdate, KValues, KSet, KFrom, KDelete, KWhere, KJoin, KOn, KGroup, KBy, KOrder, KLimit, KExplain}
use Rattle.sql_lex.specs.declared.symbol.Symbol.TheVariants.{Comma, Open, Close, Equal}
use Rattle.sql_lex.specs.declared.token.TokenKind.TheVariants as kind
use Rattle.sql_parse.specs.Trees.{Outside, Mark, mark, marks, kinds}
use Rattle.sql_parse.specs.Forms.{word, sign, name_marks, number_marks, column_marks, maybe, several_marks, alias_marks, table_marks, value_marks, item_marks, items_marks, join_marks, filter_marks, direction_marks, ordered_marks, query_marks, for_update_marks, row_marks, InsertForm, insert_marks, set_marks, UpdateForm, update_marks, DeleteForm, delete_marks, statement_marks}
use Rattle.sql_parse.specs.Forms.ValueForm.{Plain, CountAll, Count, Sum, Min, Max}
use Rattle.sql_parse.specs.Forms.ItemsForm.{Star, Listed}
use Rattle.sql_parse.specs.Forms.StatementForm.{Select, SelectForUpdate, Insert, Update, Delete, Begin, BeginAsOf, Commit, Rollback, Explain}
use Rattle.sql_parse.proofs.ReaderParts.{Part, Word, Phrase, before, parts_marks}
use Rattle.sql_parse.proofs.ReaderChoices.{behind, maybe_parts}
use Rattle.sql_parse.proofs.ReaderLists.{list_parts, several_parts}
use Rattle.sql_parse.proofs.ReaderExpressions.{phrase_parts}
use Rattle.sql_parse.proofs.StatementParts.{word_part, sign_part, name_parts, qualified_parts, column_parts, alias_parts, table_parts, bracket_parts, value_parts, item_parts, items_parts, joined_parts, join_parts, filter_parts, by_parts, clause_parts, direction_parts, ordered_parts, limit_parts, select_parts, for_update_parts, row_parts, columns_parts, insert_parts, set_parts, update_parts, delete_parts, statement_parts}

-- ---- parts

pub marks_append : (parts others : List Part) → parts_marks (parts ++ others) ≡ parts_marks parts ++ parts_marks others
marks_append [] others = refl
marks_append (Word kind ∷ parts) others = ap (λ l. mark Outside kind ∷ l) (marks_append parts others)
marks_append (Phrase tree ∷ parts) others = ap (λ l. marks tree ++ l) (marks_append parts others) ∙ sym (append_assoc (marks tree) (parts_marks parts) (parts_marks others))

pub kinds_of_parts : (parts : List Part) → kinds (parts_marks parts) ≡ before parts []
kinds_of_parts [] = refl
kinds_of_parts (Word kind ∷ parts) = ap (λ l. kind ∷ l) (kinds_of_parts parts)
kinds_of_parts (Phrase tree ∷ parts) = map-append (λ (m : Mark). m.kind) (marks tree) (parts_marks parts) ∙ ap (λ l. kinds (marks tree) ++ l) (kinds_of_parts parts)

-- the parts have these marks
abbrev Shows : {F : Type 0} → (F → List Part) → (F → List Mark) → Type 0
Shows {F} parts written = (form : F) → parts_marks (parts form) ≡ written form

behind_append : (parts others : List Part) (left right : List Mark) → parts_marks parts ≡ left → parts_marks others ≡ right → parts_marks (parts ++ others) ≡ left ++ right
behind_append parts others left right first second = marks_append parts others ∙ ap (λ l. l ++ parts_marks others) first ∙ ap (λ l. left ++ l) second

phrase_shows : Shows phrase_parts marks
phrase_shows e = append-nil (marks e)

maybe_shows : {F : Type 0} (parts : F → List Part) (written : F → List Mark) → Shows parts written → Shows (maybe_parts parts) (maybe written)
maybe_shows parts written shows None = refl
maybe_shows parts written shows (Some form) = shows form

list_shows : {F : Type 0} (parts : F → List Part) (written : F → List Mark) → Shows parts written → Shows (list_parts parts) (flat_map (λ other. sign Comma ++ written other))
list_shows parts written shows [] = refl
list_shows parts written shows (form ∷ forms) =
    ap (λ l. mark Outside (kind.Symbol Comma) ∷ l) (behind_append (parts form) (list_parts parts forms) (written form) _ (shows form) (list_shows parts written shows forms))

several_shows : {F : Type 0} (parts : F → List Part) (written : F → List Mark) → Shows parts written → Shows (several_parts parts) (several_marks written)
several_shows parts written shows forms = behind_append (parts forms.first) (list_parts parts forms.others) _ _ (shows forms.first) (list_shows parts written shows forms.others)

-- ---- queries

column_shows : Shows column_parts column_marks
column_shows column = by column.table column.name
  where
    by : (table : Option (List ℕ)) (name : List ℕ) → parts_marks (qualified_parts table name) ≡ column_marks (record { table = table; name = name })
    by None name = refl
    by (Some table) name = refl

name_shows : Shows name_parts name_marks
name_shows name = refl

alias_shows : Shows alias_parts alias_marks
alias_shows None = refl
alias_shows (Some name) = refl

table_shows : Shows table_parts table_marks
table_shows table = ap (λ l. mark Outside (kind.Name table.name) ∷ l) (alias_shows table.alias)

value_shows : Shows value_parts value_marks
value_shows (Plain e) = phrase_shows e
value_shows CountAll = refl
value_shows (Count e) = refl
value_shows (Sum e) = refl
value_shows (Min e) = refl
value_shows (Max e) = refl

item_shows : Shows item_parts item_marks
item_shows item = behind_append (value_parts item.value) (alias_parts item.alias) _ _ (value_shows item.value) (alias_shows item.alias)

items_shows : Shows items_parts items_marks
items_shows Star = refl
items_shows (Listed items) = several_shows item_parts item_marks item_shows items

join_shows : Shows (behind (kind.Keyword KJoin) joined_parts) join_marks
join_shows join =
    ap (λ l. mark Outside (kind.Keyword KJoin) ∷ l)
    (behind_append (table_parts join.table) (word_part KOn ∷ phrase_parts join.on) (table_marks join.table) (word KOn ++ marks join.on) (table_shows join.table)
    (ap (λ l. mark Outside (kind.Keyword KOn) ∷ l) (phrase_shows join.on))
    ∙ sym (append_assoc (table_marks join.table) (word KOn) (marks join.on)))

filter_shows : Shows filter_parts filter_marks
filter_shows = maybe_shows (behind (kind.Keyword KWhere) phrase_parts) (λ e. word KWhere ++ marks e) (λ e. ap (λ l. mark Outside (kind.Keyword KWhere) ∷ l) (phrase_shows e))

by_shows : {F : Type 0} (k : Keyword) (parts : F → List Part) (written : F → List Mark) → Shows parts written → Shows (by_parts k parts) (λ forms. word k ++ word KBy ++ several_marks written forms)
by_shows k parts written shows forms = ap (λ l. mark Outside (kind.Keyword k) ∷ mark Outside (kind.Keyword KBy) ∷ l) (several_shows parts written shows forms)

direction_shows : Shows direction_parts (maybe direction_marks)
direction_shows None = refl
direction_shows (Some true) = refl
direction_shows (Some false) = refl

ordered_shows : Shows ordered_parts ordered_marks
ordered_shows order = behind_append (column_parts order.column) (direction_parts order.direction) _ _ (column_shows order.column) (direction_shows order.direction)

limit_shows : Shows limit_parts (maybe (λ n. word KLimit ++ number_marks n))
limit_shows None = refl
limit_shows (Some n) = refl

regroup : (a b c d e f g h : List Mark) → a ++ ((b ++ c) ++ (d ++ (e ++ (f ++ (g ++ h))))) ≡ a ++ b ++ c ++ d ++ e ++ f ++ g ++ h
regroup a b c d e f g h = simp append_assoc

query_shows : Shows select_parts query_marks
query_shows select =
    behind_append (items_parts select.items) from_on (items_marks select.items) _ (items_shows select.items)
    (behind_append from (join_parts select.right ++ filter_on) (word KFrom ++ table_marks select.left) _ (ap (λ l. mark Outside (kind.Keyword KFrom) ∷ l) (table_shows select.left))
    (behind_append (join_parts select.right) filter_on (maybe join_marks select.right) _ (maybe_shows (behind (kind.Keyword KJoin) joined_parts) join_marks join_shows select.right)
    (behind_append (filter_parts select.filter) group_on (filter_marks select.filter) _ (filter_shows select.filter)
    (behind_append (clause_parts KGroup column_parts select.group) order_on group_written _ (maybe_shows (by_parts KGroup column_parts) _ (by_shows KGroup column_parts column_marks column_shows) select.group)
    (behind_append (clause_parts KOrder ordered_parts select.order) (limit_parts select.limit) order_written _
    (maybe_shows (by_parts KOrder ordered_parts) _ (by_shows KOrder ordered_parts ordered_marks ordered_shows) select.order) (limit_shows select.limit))))))
    ∙ regroup (items_marks select.items) (word KFrom) (table_marks select.left) (maybe join_marks select.right) (filter_marks select.filter) group_written order_written
    (maybe (λ n. word KLimit ++ number_marks n) select.limit)
  where
    from : List Part
    from = word_part KFrom ∷ table_parts select.left

    order_on : List Part
    order_on = clause_parts KOrder ordered_parts select.order ++ limit_parts select.limit

    group_on : List Part
    group_on = clause_parts KGroup column_parts select.group ++ order_on

    filter_on : List Part
    filter_on = filter_parts select.filter ++ group_on

    from_on : List Part
    from_on = from ++ (join_parts select.right ++ filter_on)

    group_written : List Mark
    group_written = maybe (λ columns. word KGroup ++ word KBy ++ several_marks column_marks columns) select.group

    order_written : List Mark
    order_written = maybe (λ columns. word KOrder ++ word KBy ++ several_marks ordered_marks columns) select.order

-- ---- statements that write

bracket_shows : (parts : List Part) (written : List Mark) → parts_marks parts ≡ written → parts_marks (bracket_parts parts) ≡ sign Open ++ written ++ sign Close
bracket_shows parts written shows = ap (λ l. mark Outside (kind.Symbol Open) ∷ l) (behind_append parts (sign_part Close ∷ []) written (sign Close) shows refl)

row_shows : Shows row_parts row_marks
row_shows row = bracket_shows (several_parts phrase_parts row) (several_marks marks row) (several_shows phrase_parts marks phrase_shows row)

columns_shows : Shows columns_parts (maybe (λ names. sign Open ++ several_marks name_marks names ++ sign Close))
columns_shows = maybe_shows (λ names. bracket_parts (several_parts name_parts names)) _ (λ names. bracket_shows (several_parts name_parts names) (several_marks name_marks names) (several_shows name_parts name_marks name_shows names))

insert_shows : (insert : InsertForm) → parts_marks (word_part KInsert ∷ insert_parts insert) ≡ insert_marks insert
insert_shows insert =
    ap (λ l. mark Outside (kind.Keyword KInsert) ∷ mark Outside (kind.Keyword KInto) ∷ mark Outside (kind.Name insert.table) ∷ l)
    (behind_append (columns_parts insert.columns) (word_part KValues ∷ several_parts row_parts insert.rows) columns_written (word KValues ++ several_marks row_marks insert.rows)
    (columns_shows insert.columns) (ap (λ l. mark Outside (kind.Keyword KValues) ∷ l) (several_shows row_parts row_marks row_shows insert.rows))
    ∙ sym (append_assoc columns_written (word KValues) (several_marks row_marks insert.rows)))
  where
    columns_written : List Mark
    columns_written = maybe (λ names. sign Open ++ several_marks name_marks names ++ sign Close) insert.columns

set_shows : Shows set_parts set_marks
set_shows set = ap (λ l. mark Outside (kind.Name set.column) ∷ mark Outside (kind.Symbol Equal) ∷ l) (phrase_shows set.value)

update_shows : (update : UpdateForm) → parts_marks (word_part KUpdate ∷ update_parts update) ≡ update_marks update
update_shows update =
    ap (λ l. mark Outside (kind.Keyword KUpdate) ∷ mark Outside (kind.Name update.table) ∷ mark Outside (kind.Keyword KSet) ∷ l)
    (behind_append (several_parts set_parts update.sets) (filter_parts update.filter) _ _ (several_shows set_parts set_marks set_shows update.sets) (filter_shows update.filter))

delete_shows : (delete : DeleteForm) → parts_marks (word_part KDelete ∷ delete_parts delete) ≡ delete_marks delete
delete_shows delete =
    ap (λ l. mark Outside (kind.Keyword KDelete) ∷ mark Outside (kind.Keyword KFrom) ∷ mark Outside (kind.Name delete.table) ∷ l) (filter_shows delete.filter)

pub statement_shows : Shows statement_parts statement_marks
statement_shows (Select select) = ap (λ l. mark Outside (kind.Keyword KSelect) ∷ l) (query_shows select)
statement_shows (SelectForUpdate select) =
    ap (λ l. mark Outside (kind.Keyword KSelect) ∷ l) (behind_append (select_parts select) (for_update_parts true) (query_marks select) for_update_marks (query_shows select) refl)
statement_shows (Insert insert) = insert_shows insert
statement_shows (Update update) = update_shows update
statement_shows (Delete delete) = delete_shows delete
statement_shows Begin = refl
statement_shows (BeginAsOf epoch) = refl
statement_shows Commit = refl
statement_shows Rollback = refl
statement_shows (Explain select) = ap (λ l. mark Outside (kind.Keyword KExplain) ∷ mark Outside (kind.Keyword KSelect) ∷ l) (query_shows select)
