-- The way of writing a statement that its canonical text spells: it means the same, and its expressions are canonical.
use Rattle.std.proofs.Common.{◌≡◌, Bool, true, false, List, [], ◌∷◌, map, Option, Some, None, option_map, unwrap_or, refl, ap}
use Rattle.std.specs.List.{All}
use Rattle.std.proofs.lemmas.List.Elements.{All-nil, All-cons, All-head, All-tail}
use Rattle.sql_ast.specs.declared.select.AstValue.TheVariants as of_value
use Rattle.sql_ast.specs.declared.select.Items.TheVariants as of_items
use Rattle.sql_ast.specs.declared.statement.Statement.TheVariants as of_statement
use Rattle.sql_parse.specs.Trees.{Tree, value}
use Rattle.sql_parse.specs.Forms.{Several, listed, ValueForm, Plain, CountAll, Count, Sum, Min, Max, value_of, IsValue, ItemForm, item_of, IsItem, ItemsForm, Star, Listed, items_of, AreItems, JoinForm, join_of, IsJoin, IfThere, listed_if, OrderForm, ordered_of, SelectForm, select_of, IsSelect, RowForm, row_of, IsRow, InsertForm, insert_of, SetForm, set_of, IsSet, UpdateForm, update_of, DeleteForm, delete_of, StatementForm, Select, SelectForUpdate, Insert, Update, Delete, Begin, BeginAsOf, Commit, Rollback, Explain, statement_of, Each}
use Rattle.sql_parse.proofs.PrintedTrees.{canonical, same_value}

-- ---- canonical forms

abbrev pub several : {T : Type 0} → (T → T) → Several T → Several T
several f s = record { first = f s.first; others = map f s.others }

abbrev pub canonical_value : ValueForm → ValueForm
canonical_value (Plain e) = Plain (canonical e)
canonical_value CountAll = CountAll
canonical_value (Count e) = Count (canonical e)
canonical_value (Sum e) = Sum (canonical e)
canonical_value (Min e) = Min (canonical e)
canonical_value (Max e) = Max (canonical e)

abbrev pub canonical_item : ItemForm → ItemForm
canonical_item item = record { value = canonical_value item.value; alias = item.alias }

abbrev pub canonical_items : ItemsForm → ItemsForm
canonical_items Star = Star
canonical_items (Listed items) = Listed (several canonical_item items)

abbrev pub canonical_join : JoinForm → JoinForm
canonical_join join = record { table = join.table; on = canonical join.on }

-- DESC is written, and ASC is not
abbrev pub direction_by : Bool → Option Bool
direction_by true = Some true
direction_by false = None

abbrev pub canonical_order : OrderForm → OrderForm
canonical_order order = record { column = order.column; direction = direction_by (unwrap_or order.direction false) }

abbrev pub canonical_select : SelectForm → SelectForm
canonical_select select = record {
  items = canonical_items select.items;
  left = select.left;
  right = option_map canonical_join select.right;
  filter = option_map canonical select.filter;
  group = select.group;
  order = option_map (several canonical_order) select.order;
  limit = select.limit;
}

abbrev pub canonical_row : RowForm → RowForm
canonical_row row = several canonical row

abbrev pub canonical_insert : InsertForm → InsertForm
canonical_insert insert = record { table = insert.table; columns = insert.columns; rows = several canonical_row insert.rows }

abbrev pub canonical_set : SetForm → SetForm
canonical_set set = record { column = set.column; value = canonical set.value }

abbrev pub canonical_update : UpdateForm → UpdateForm
canonical_update update = record { table = update.table; sets = several canonical_set update.sets; filter = option_map canonical update.filter }

abbrev pub canonical_delete : DeleteForm → DeleteForm
canonical_delete delete = record { table = delete.table; filter = option_map canonical delete.filter }

abbrev pub canonical_form : StatementForm → StatementForm
canonical_form (Select select) = Select (canonical_select select)
canonical_form (SelectForUpdate select) = SelectForUpdate (canonical_select select)
canonical_form (Insert insert) = Insert (canonical_insert insert)
canonical_form (Update update) = Update (canonical_update update)
canonical_form (Delete delete) = Delete (canonical_delete delete)
canonical_form Begin = Begin
canonical_form (BeginAsOf epoch) = BeginAsOf epoch
canonical_form Commit = Commit
canonical_form Rollback = Rollback
canonical_form (Explain select) = Explain (canonical_select select)

-- ---- they mean the same

same_map : {T S : Type 0} (of : T → S) (f : T → T) → ((x : T) → of (f x) ≡ of x) → (xs : List T) → map of (map f xs) ≡ map of xs
same_map of f each [] = refl
same_map of f each (x ∷ xs) = λ i. each x i ∷ same_map of f each xs i

same_several : {T S : Type 0} (of : T → S) (f : T → T) → ((x : T) → of (f x) ≡ of x) → (s : Several T) → map of (listed (several f s)) ≡ map of (listed s)
same_several of f each s = same_map of f each (listed s)

same_option : {T S : Type 0} (of : T → S) (f : T → T) → ((x : T) → of (f x) ≡ of x) → (o : Option T) → option_map of (option_map f o) ≡ option_map of o
same_option of f each None = refl
same_option of f each (Some x) = ap Some (each x)

same_value_of : (v : ValueForm) → value_of (canonical_value v) ≡ value_of v
same_value_of (Plain e) = ap of_value.Plain (same_value e)
same_value_of CountAll = refl
same_value_of (Count e) = ap of_value.Count (same_value e)
same_value_of (Sum e) = ap of_value.Sum (same_value e)
same_value_of (Min e) = ap of_value.Min (same_value e)
same_value_of (Max e) = ap of_value.Max (same_value e)

same_item : (item : ItemForm) → item_of (canonical_item item) ≡ item_of item
same_item item = λ i. record { value = same_value_of item.value i; alias = item.alias }

same_items : (items : ItemsForm) → items_of (canonical_items items) ≡ items_of items
same_items Star = refl
same_items (Listed items) = ap of_items.List (same_several item_of canonical_item same_item items)

same_join : (join : JoinForm) → join_of (canonical_join join) ≡ join_of join
same_join join = λ i. record { table = join.table; on = same_value join.on i }

same_direction : (d : Option Bool) → unwrap_or (direction_by (unwrap_or d false)) false ≡ unwrap_or d false
same_direction None = refl
same_direction (Some true) = refl
same_direction (Some false) = refl

same_ordered : (order : OrderForm) → ordered_of (canonical_order order) ≡ ordered_of order
same_ordered order = λ i. record { column = order.column; descending = same_direction order.direction i }

same_order : (order : Option (Several OrderForm)) → map ordered_of (listed_if (option_map (several canonical_order) order)) ≡ map ordered_of (listed_if order)
same_order None = refl
same_order (Some several) = same_several ordered_of canonical_order same_ordered several

same_select : (select : SelectForm) → select_of (canonical_select select) ≡ select_of select
same_select select = λ i. record {
  items = same_items select.items i;
  left = select.left;
  right = same_option join_of canonical_join same_join select.right i;
  filter = same_option value canonical same_value select.filter i;
  group = listed_if select.group;
  order = same_order select.order i;
  limit = select.limit;
}

same_row : (row : RowForm) → row_of (canonical_row row) ≡ row_of row
same_row row = λ i. record { values = same_several value canonical same_value row i }

same_insert : (insert : InsertForm) → insert_of (canonical_insert insert) ≡ insert_of insert
same_insert insert = λ i. record { table = insert.table; columns = listed_if insert.columns; rows = same_several row_of canonical_row same_row insert.rows i }

same_set : (set : SetForm) → set_of (canonical_set set) ≡ set_of set
same_set set = λ i. record { column = set.column; value = same_value set.value i }

same_update : (update : UpdateForm) → update_of (canonical_update update) ≡ update_of update
same_update update = λ i. record {
  table = update.table;
  sets = same_several set_of canonical_set same_set update.sets i;
  filter = same_option value canonical same_value update.filter i;
}

same_delete : (delete : DeleteForm) → delete_of (canonical_delete delete) ≡ delete_of delete
same_delete delete = λ i. record { table = delete.table; filter = same_option value canonical same_value delete.filter i }

pub same_statement : (form : StatementForm) → statement_of (canonical_form form) ≡ statement_of form
same_statement (Select select) = ap of_statement.Select (same_select select)
same_statement (SelectForUpdate select) = ap of_statement.SelectForUpdate (same_select select)
same_statement (Insert insert) = ap of_statement.Insert (same_insert insert)
same_statement (Update update) = ap of_statement.Update (same_update update)
same_statement (Delete delete) = ap of_statement.Delete (same_delete delete)
same_statement Begin = refl
same_statement (BeginAsOf epoch) = refl
same_statement Commit = refl
same_statement Rollback = refl
same_statement (Explain select) = ap of_statement.Explain (same_select select)

-- ---- what canonical trees keep, each of their expressions keeps

all_map : {T : Type 0} (P : T → Type 0) (f : T → T) → ((x : T) → P x → P (f x)) → (xs : List T) → All P xs → All P (map f xs)
all_map P f keeps [] all = All-nil P
all_map P f keeps (x ∷ xs) all = All-cons P (f x) (map f xs) (keeps x (All-head P x xs all)) (all_map P f keeps xs (All-tail P x xs all))

if_there_map : {T : Type 0} (P : T → Type 0) (f : T → T) → ((x : T) → P x → P (f x)) → (o : Option T) → IfThere P o → IfThere P (option_map f o)
if_there_map P f keeps None is = tt
if_there_map P f keeps (Some x) is = keeps x is

module _ (P : Tree → Type 0) (keeps : (t : Tree) → P t → P (canonical t)) where
  kept_value : (v : ValueForm) → IsValue P v → IsValue P (canonical_value v)
  kept_value (Plain e) is = keeps e is
  kept_value CountAll is = tt
  kept_value (Count e) is = keeps e is
  kept_value (Sum e) is = keeps e is
  kept_value (Min e) is = keeps e is
  kept_value (Max e) is = keeps e is

  kept_items : (items : ItemsForm) → AreItems P items → AreItems P (canonical_items items)
  kept_items Star are = tt
  kept_items (Listed items) are = all_map (IsItem P) canonical_item (λ item. kept_value item.value) (listed items) are

  kept_select : (select : SelectForm) → IsSelect P select → IsSelect P (canonical_select select)
  kept_select select is = record {
    items = kept_items select.items is.items;
    right = if_there_map (IsJoin P) canonical_join (λ join. keeps join.on) select.right is.right;
    filter = if_there_map P canonical keeps select.filter is.filter;
  }

  kept_row : (row : RowForm) → IsRow P row → IsRow P (canonical_row row)
  kept_row row is = all_map P canonical keeps (listed row) is

  pub kept : (form : StatementForm) → Each P form → Each P (canonical_form form)
  kept (Select select) each = kept_select select each
  kept (SelectForUpdate select) each = kept_select select each
  kept (Insert insert) each = all_map (IsRow P) canonical_row kept_row (listed insert.rows) each
  kept (Update update) each = (
    all_map (IsSet P) canonical_set (λ set. keeps set.value) (listed update.sets) each.0,
    if_there_map P canonical keeps update.filter each.1,
  )
  kept (Delete delete) each = if_there_map P canonical keeps delete.filter each
  kept Begin each = tt
  kept (BeginAsOf epoch) each = tt
  kept Commit each = tt
  kept Rollback each = tt
  kept (Explain select) each = kept_select select each
