-- The parts of a statement have its expressions.
use Rattle.std.proofs.Common.{ℕ, List, [], ◌∷◌, ◌++◌, Bool, true, false, Option, Some, None}
use Rattle.std.specs.List.{All}
use Rattle.std.proofs.lemmas.List.Elements.{All-head, All-tail, All-cons, All-nil}
use Rattle.sql_ast.specs.declared.ast.ColRef.{ColRef}
use Rattle.sql_lex.specs.declared.keyword.Keyword.TheVariants.{KOn, KGroup, KOrder, KFrom, KValues}
use Rattle.sql_lex.specs.declared.symbol.Symbol.TheVariants.{Close}
use Rattle.sql_parse.specs.Trees.{Tree}
use Rattle.sql_parse.specs.Forms.{Several, listed, ValueForm, IsValue, ItemForm, IsItem, ItemsForm, AreItems, JoinForm, IsJoin, IfThere, OrderForm, SelectForm, IsSelect, RowForm, IsRow, InsertForm, IsSet, UpdateForm, StatementForm, Each}
use Rattle.sql_parse.specs.Forms.ValueForm.{Plain, CountAll, Count, Sum, Min, Max}
use Rattle.sql_parse.specs.Forms.ItemsForm.{Star, Listed}
use Rattle.sql_parse.specs.Forms.StatementForm.{Select, SelectForUpdate, Insert, Update, Delete, Begin, BeginAsOf, Commit, Rollback, Explain}
use Rattle.sql_parse.proofs.ReaderParts.{Part, Every, every_append, every_left, every_right}
use Rattle.sql_parse.proofs.ReaderChoices.{maybe_parts}
use Rattle.sql_parse.proofs.ReaderLists.{list_parts, several_parts}
use Rattle.sql_parse.proofs.ReaderExpressions.{phrase_parts}
use Rattle.sql_parse.proofs.StatementParts.{word_part, sign_part, name_parts, qualified_parts, column_parts, alias_parts, table_parts, value_parts, item_parts, items_parts, join_parts, filter_parts, by_parts, clause_parts, direction_parts, ordered_parts, limit_parts, select_parts, for_update_parts, row_parts, columns_parts, insert_parts, set_parts, update_parts, statement_parts}

module _ (P : Tree → Type 0) where
  -- ---- lists and options

  list_every : {F : Type 0} (Is : F → Type 0) (parts : F → List Part) → ((form : F) → Is form → Every P (parts form)) → (forms : List F) → All Is forms → Every P (list_parts parts forms)
  list_every Is parts each [] all = tt
  list_every Is parts each (form ∷ forms) all =
      every_append P (parts form) (list_parts parts forms) (each form (All-head Is form forms all)) (list_every Is parts each forms (All-tail Is form forms all))

  several_every : {F : Type 0} (Is : F → Type 0) (parts : F → List Part) → ((form : F) → Is form → Every P (parts form)) → (forms : Several F) → All Is (listed forms) → Every P (several_parts parts forms)
  several_every Is parts each forms all =
      every_append P (parts forms.first) (list_parts parts forms.others) (each forms.first (All-head Is forms.first forms.others all))
      (list_every Is parts each forms.others (All-tail Is forms.first forms.others all))

  list_all : {F : Type 0} (Is : F → Type 0) (parts : F → List Part) → ((form : F) → Every P (parts form) → Is form) → (forms : List F) → Every P (list_parts parts forms) → All Is forms
  list_all Is parts each [] every = All-nil Is
  list_all Is parts each (form ∷ forms) every =
      All-cons Is form forms (each form (every_left P (parts form) (list_parts parts forms) every)) (list_all Is parts each forms (every_right P (parts form) (list_parts parts forms) every))

  several_all : {F : Type 0} (Is : F → Type 0) (parts : F → List Part) → ((form : F) → Every P (parts form) → Is form) → (forms : Several F) → Every P (several_parts parts forms) → All Is (listed forms)
  several_all Is parts each forms every =
      All-cons Is forms.first forms.others (each forms.first (every_left P (parts forms.first) (list_parts parts forms.others) every))
      (list_all Is parts each forms.others (every_right P (parts forms.first) (list_parts parts forms.others) every))

  maybe_every : {F : Type 0} (parts : F → List Part) → ((form : F) → Every P (parts form)) → (form : Option F) → Every P (maybe_parts parts form)
  maybe_every parts each None = tt
  maybe_every parts each (Some form) = each form

  several_none : {F : Type 0} (parts : F → List Part) → ((form : F) → Every P (parts form)) → (forms : Several F) → Every P (several_parts parts forms)
  several_none {F} parts each forms = several_every (λ (form : F). Unit {0}) parts (λ form nothing. each form) forms (λ k d within. tt)

  -- ---- parts with no expression

  column_every : (column : ColRef) → Every P (column_parts column)
  column_every column = by column.table column.name
    where
      by : (table : Option (List ℕ)) (name : List ℕ) → Every P (qualified_parts table name)
      by None name = tt
      by (Some table) name = tt

  alias_every : (alias : Option (List ℕ)) → Every P (alias_parts alias)
  alias_every None = tt
  alias_every (Some name) = tt

  ordered_every : (order : OrderForm) → Every P (ordered_parts order)
  ordered_every order = every_append P (column_parts order.column) (direction_parts order.direction) (column_every order.column) (by order.direction)
    where
      by : (direction : Option Bool) → Every P (direction_parts direction)
      by None = tt
      by (Some true) = tt
      by (Some false) = tt

  -- ---- from forms to parts

  value_every : (form : ValueForm) → IsValue P form → Every P (value_parts form)
  value_every (Plain e) is = (is, tt)
  value_every CountAll is = tt
  value_every (Count e) is = (is, tt)
  value_every (Sum e) is = (is, tt)
  value_every (Min e) is = (is, tt)
  value_every (Max e) is = (is, tt)

  item_every : (item : ItemForm) → IsItem P item → Every P (item_parts item)
  item_every item is = every_append P (value_parts item.value) (alias_parts item.alias) (value_every item.value is) (alias_every item.alias)

  items_every : (items : ItemsForm) → AreItems P items → Every P (items_parts items)
  items_every Star are = tt
  items_every (Listed items) are = several_every (IsItem P) item_parts item_every items are

  join_every : (join : Option JoinForm) → IfThere (IsJoin P) join → Every P (join_parts join)
  join_every None is = tt
  join_every (Some join) is = every_append P (table_parts join.table) (word_part KOn ∷ phrase_parts join.on) (alias_every join.table.alias) (is, tt)

  filter_every : (filter : Option Tree) → IfThere P filter → Every P (filter_parts filter)
  filter_every None is = tt
  filter_every (Some e) is = (is, tt)

  select_every : (select : SelectForm) → IsSelect P select → Every P (select_parts select)
  select_every select is =
      every_append P (items_parts select.items) _ (items_every select.items is.items)
      (every_append P (word_part KFrom ∷ table_parts select.left) _ (alias_every select.left.alias)
      (every_append P (join_parts select.right) _ (join_every select.right is.right)
      (every_append P (filter_parts select.filter) _ (filter_every select.filter is.filter)
      (every_append P (clause_parts KGroup column_parts select.group) _ (maybe_every (by_parts KGroup column_parts) (several_none column_parts column_every) select.group)
      (every_append P (clause_parts KOrder ordered_parts select.order) (limit_parts select.limit)
      (maybe_every (by_parts KOrder ordered_parts) (several_none ordered_parts ordered_every) select.order)
      (maybe_every _ (λ n. tt) select.limit))))))

  row_every : (row : RowForm) → IsRow P row → Every P (row_parts row)
  row_every row is = every_append P (several_parts phrase_parts row) (sign_part Close ∷ []) (several_every P phrase_parts (λ e is. (is, tt)) row is) tt

  columns_every : (columns : Option (Several (List ℕ))) → Every P (columns_parts columns)
  columns_every None = tt
  columns_every (Some names) = every_append P (several_parts name_parts names) (sign_part Close ∷ []) (several_none name_parts (λ n. tt) names) tt

  insert_every : (insert : InsertForm) → All (IsRow P) (listed insert.rows) → Every P (insert_parts insert)
  insert_every insert are =
      every_append P (columns_parts insert.columns) (word_part KValues ∷ several_parts row_parts insert.rows) (columns_every insert.columns)
      (several_every (IsRow P) row_parts row_every insert.rows are)

  update_every : (update : UpdateForm) → All (IsSet P) (listed update.sets) × IfThere P update.filter → Every P (update_parts update)
  update_every update are =
      every_append P (several_parts set_parts update.sets) (filter_parts update.filter) (several_every (IsSet P) set_parts (λ set is. (is, tt)) update.sets are.0) (filter_every update.filter are.1)

  pub each_every : (form : StatementForm) → Each P form → Every P (statement_parts form)
  each_every (Select select) each = select_every select each
  each_every (SelectForUpdate select) each = every_append P (select_parts select) (for_update_parts true) (select_every select each) tt
  each_every (Insert insert) each = insert_every insert each
  each_every (Update update) each = update_every update each
  each_every (Delete delete) each = filter_every delete.filter each
  each_every Begin each = tt
  each_every (BeginAsOf epoch) each = tt
  each_every Commit each = tt
  each_every Rollback each = tt
  each_every (Explain select) each = select_every select each

  -- ---- from parts to forms

  value_each : (form : ValueForm) → Every P (value_parts form) → IsValue P form
  value_each (Plain e) every = every.0
  value_each CountAll every = tt
  value_each (Count e) every = every.0
  value_each (Sum e) every = every.0
  value_each (Min e) every = every.0
  value_each (Max e) every = every.0

  item_each : (item : ItemForm) → Every P (item_parts item) → IsItem P item
  item_each item every = value_each item.value (every_left P (value_parts item.value) (alias_parts item.alias) every)

  items_each : (items : ItemsForm) → Every P (items_parts items) → AreItems P items
  items_each Star every = tt
  items_each (Listed items) every = several_all (IsItem P) item_parts item_each items every

  join_each : (join : Option JoinForm) → Every P (join_parts join) → IfThere (IsJoin P) join
  join_each None every = tt
  join_each (Some join) every = (every_right P (table_parts join.table) (word_part KOn ∷ phrase_parts join.on) every).0

  filter_each : (filter : Option Tree) → Every P (filter_parts filter) → IfThere P filter
  filter_each None every = tt
  filter_each (Some e) every = every.0

  select_each : (select : SelectForm) → Every P (select_parts select) → IsSelect P select
  select_each select every = record {
    items = items_each select.items (every_left P (items_parts select.items) from_on every);
    right = join_each select.right (every_left P (join_parts select.right) filter_on joins);
    filter = filter_each select.filter (every_left P (filter_parts select.filter) group_on (every_right P (join_parts select.right) filter_on joins));
  }
    where
      group_on : List Part
      group_on = clause_parts KGroup column_parts select.group ++ (clause_parts KOrder ordered_parts select.order ++ limit_parts select.limit)

      filter_on : List Part
      filter_on = filter_parts select.filter ++ group_on

      from_on : List Part
      from_on = (word_part KFrom ∷ table_parts select.left) ++ (join_parts select.right ++ filter_on)

      joins : Every P (join_parts select.right ++ filter_on)
      joins = every_right P (word_part KFrom ∷ table_parts select.left) (join_parts select.right ++ filter_on) (every_right P (items_parts select.items) from_on every)

  row_each : (row : RowForm) → Every P (row_parts row) → IsRow P row
  row_each row every = several_all P phrase_parts (λ e every. every.0) row (every_left P (several_parts phrase_parts row) (sign_part Close ∷ []) every)

  pub every_each : (form : StatementForm) → Every P (statement_parts form) → Each P form
  every_each (Select select) every = select_each select every
  every_each (SelectForUpdate select) every = select_each select (every_left P (select_parts select) (for_update_parts true) every)
  every_each (Insert insert) every =
      several_all (IsRow P) row_parts row_each insert.rows (every_right P (columns_parts insert.columns) (word_part KValues ∷ several_parts row_parts insert.rows) every)
  every_each (Update update) every = (
    several_all (IsSet P) set_parts (λ set every. every.0) update.sets (every_left P (several_parts set_parts update.sets) (filter_parts update.filter) every),
    filter_each update.filter (every_right P (several_parts set_parts update.sets) (filter_parts update.filter) every),
  )
  every_each (Delete delete) every = filter_each delete.filter every
  every_each Begin every = tt
  every_each (BeginAsOf epoch) every = tt
  every_each Commit every = tt
  every_each Rollback every = tt
  every_each (Explain select) every = select_each select every
