-- No statement of tables is refused for want of memory.
use Rattle.std.proofs.Common.{◌≡◌, ◌≢◌, ℕ, ◌+◌, Bool, true, false, ◌&&◌, ◌||◌, ◌==◌, Option, Some, None, List, [], ◌∷◌, ◌++◌, length, drop, map, Result, Ok, Err, sym, subst}
use Rattle.std.specs.Prelude.{⊤, position, ok_or, is_some, nat_le, IfErr, slice_index_or}
use Rattle.std.specs.List.{list_any}
use Rattle.geo_base.specs.declared.limits.TheConstants.{MAX_LINE_CELLS}
use Rattle.geo_base.specs.Order.{text_eq}
use Rattle.geo_base.specs.Results.{◌>>=◌}
use Rattle.geo_schema.specs.declared.column.ColumnDef.{ColumnDef}
use Rattle.geo_schema.specs.declared.table.TableDef.{TableDef}
use Rattle.geo_schema.specs.Rows.{is_in}
use Rattle.geo_schema.specs.Schemas.{Tables, number_of, table_at}
use Rattle.sql_ast.specs.declared.ast.Ast.{Ast}
use Rattle.sql_ast.specs.declared.ast.Ast.TheFolds.{map-Ast, ind-Ast}
use Rattle.sql_ast.specs.declared.ast.Ast.TheOpen.{Ast-F}
use Rattle.sql_ast.specs.declared.ast.Ast.TheVariants as ast
use Rattle.sql_ast.specs.declared.ast.Ast.TheViews.{roll-Ast}
use Rattle.sql_ast.specs.declared.ast.AstOp.{AstOp}
use Rattle.sql_ast.specs.declared.ast.AstOp.TheVariants as written
use Rattle.sql_ast.specs.declared.ast.ColRef.{ColRef}
use Rattle.sql_ast.specs.declared.delete.DeleteStmt.{DeleteStmt}
use Rattle.sql_ast.specs.declared.insert.AstRow.{AstRow}
use Rattle.sql_ast.specs.declared.insert.InsertStmt.{InsertStmt}
use Rattle.sql_ast.specs.declared.select.AstItem.{AstItem}
use Rattle.sql_ast.specs.declared.select.AstValue.{AstValue}
use Rattle.sql_ast.specs.declared.select.AstValue.TheVariants as value
use Rattle.sql_ast.specs.declared.select.Items.{Items}
use Rattle.sql_ast.specs.declared.select.Items.TheVariants as items
use Rattle.sql_ast.specs.declared.select.JoinRef.{JoinRef}
use Rattle.sql_ast.specs.declared.select.OrderRef.{OrderRef}
use Rattle.sql_ast.specs.declared.select.SelectStmt.{SelectStmt}
use Rattle.sql_ast.specs.declared.select.TableRef.{TableRef}
use Rattle.sql_ast.specs.declared.statement.Statement.{Statement}
use Rattle.sql_ast.specs.declared.statement.Statement.TheVariants as statement
use Rattle.sql_ast.specs.declared.update.AstSet.{AstSet}
use Rattle.sql_ast.specs.declared.update.UpdateStmt.{UpdateStmt}
use Rattle.sql_expr.specs.declared.expr.Expr.{Expr}
use Rattle.sql_expr.specs.declared.value_type.ValueType.{ValueType}
use Rattle.sql_expr.specs.declared.value_type.ValueType.TheVariants as type
use Rattle.sql_expr.specs.Types.{takes}
use Rattle.sql_bind.specs.declared.bound.SetTo.{SetTo}
use Rattle.sql_bind.specs.declared.expressions.Typed.{Typed}
use Rattle.sql_bind.specs.declared.fault.BindFault.{BindFault}
use Rattle.sql_bind.specs.declared.fault.BindFault.TheVariants as fault
use Rattle.sql_bind.specs.declared.names.Found.{Found}
use Rattle.sql_bind.specs.declared.scope.Known.{Known}
use Rattle.sql_bind.specs.declared.scope.Scope.{Scope}
use Rattle.sql_bind.specs.Conditions.{conjuncts, condition_of, filter_of}
use Rattle.sql_bind.specs.Deletes.{delete_of}
use Rattle.sql_bind.specs.Expressions.{operator, joined, negated, denied, expression_of, taken_by, of_any_type}
use Rattle.sql_bind.specs.Inserts.{listed_column, listed_columns, next_value, row_of, rows_of, insert_of}
use Rattle.sql_bind.specs.Items.{item_of, star_item, next_star, listed, items_of}
use Rattle.sql_bind.specs.Names.{table_named, known_of, columns_of, known_columns, type_at, place_named, column_named, found_in, only_one, found_of, is_allowed, column_meant, alone, nowhere}
use Rattle.sql_bind.specs.Orders.{has_alias, written_items, only_item, item_meant, item_or_column, sort_of, order_of}
use Rattle.sql_bind.specs.Selects.{second_of, different, from_of, on_of, once, group_behind, is_grouped, plain_scope, tests_of, lines_in, lines_of, query_in, select_of, lock_of}
use Rattle.sql_bind.specs.Statements.{is_of_tables, bound_of}
use Rattle.sql_bind.specs.Steps.{◌>>◌, refused_if, refused_unless, each_behind}
use Rattle.sql_bind.specs.Updates.{update_in, is_set, column_behind, set_behind, update_of}
use Rattle.sql_bind.proofs.Levels as levels

-- a fault that isn't want of memory
abbrev IsRefusal : BindFault → Type 0
IsRefusal fault.NoMemory = ⊥
IsRefusal _ = ⊤

-- what is answered is no want of memory
abbrev Clean : {A : Type 0} → Result A BindFault → Type 0
Clean (Ok x) = ⊤
Clean (Err e) = IsRefusal e

-- ---- steps

then : {A B : Type 0} (r : Result A BindFault) (f : A → Result B BindFault) → Clean r → ((x : A) → Clean (f x)) → Clean (r >>= f)
then (Ok x) f p q = q x
then (Err e) f p q = p

behind : {A B : Type 0} (r : Result A BindFault) (s : Result B BindFault) → Clean r → Clean s → Clean (r >> s)
behind (Ok x) s p q = q
behind (Err e) s p q = p

if_clean : (b : Bool) (e : BindFault) → IsRefusal e → Clean (refused_if b e)
if_clean true e r = r
if_clean false e r = tt

unless_clean : (b : Bool) (e : BindFault) → IsRefusal e → Clean (refused_unless b e)
unless_clean true e r = tt
unless_clean false e r = r

or_clean : {A : Type 0} (o : Option A) (e : BindFault) → IsRefusal e → Clean (ok_or o e)
or_clean None e r = r
or_clean (Some x) e r = tt

each_clean : {A B : Type 0} (step : List B → A → Result B BindFault) → ((done : List B) (x : A) → Clean (step done x)) → (done : List B) (list : List A) → Clean (each_behind step done list)
each_clean step c done [] = tt
each_clean step c done (x ∷ list) = then (step done x) (λ next. each_behind step (done ++ next ∷ []) list) (c done x) (λ next. each_clean step c (done ++ next ∷ []) list)

-- ---- names

module _ (tables : Tables) where
  named_clean : (name : List ℕ) → Clean (table_named tables name)
  named_clean name = or_clean (number_of tables.shown name) (fault.NoTable name) tt

  known_clean : (table : TableRef) → Clean (known_of tables table)
  unfolding known_of
  known_clean table = then (table_named tables table.name) _ (named_clean table.name) (λ _. tt)

  only_clean : (name : ColRef) (a b : Option Found) → Clean (only_one name a b)
  only_clean name None None = tt
  only_clean name (Some x) None = tt
  only_clean name None (Some x) = tt
  only_clean name (Some x) (Some y) = tt

  column_clean : (scope : Scope) (name : ColRef) → Clean (column_meant tables scope name)
  unfolding column_meant found_of
  column_clean scope name =
      then (found_of tables scope name) _ (only_clean name (found_in tables 0 name scope.left) (found_in tables (length (known_columns tables scope.left)) name scope.right))
      (λ found. behind (refused_unless (is_allowed scope.group found.place) (fault.NotGrouped _)) (Ok found) (unless_clean (is_allowed scope.group found.place) (fault.NotGrouped _) tt) tt)

  column_named_clean : (columns : List ColumnDef) (name : List ℕ) → Clean (column_named columns name)
  column_named_clean columns name = or_clean (place_named columns name) (fault.NoColumn name) tt

  -- ---- expressions

  operator_clean : (o : Option ValueType) (e : Expr) → Clean (operator o e)
  operator_clean None e = tt
  operator_clean (Some t) e = tt

  joined_clean : (o : AstOp) (x y : Typed) → Clean (joined o x y)
  joined_clean written.Plus x y = operator_clean _ _
  joined_clean written.Minus x y = operator_clean _ _
  joined_clean written.Times x y = operator_clean _ _
  joined_clean written.Divide x y = operator_clean _ _
  joined_clean written.Equal x y = operator_clean _ _
  joined_clean written.Differ x y = operator_clean _ _
  joined_clean written.Less x y = operator_clean _ _
  joined_clean written.LessEqual x y = operator_clean _ _
  joined_clean written.More x y = operator_clean _ _
  joined_clean written.MoreEqual x y = operator_clean _ _
  joined_clean written.And x y = operator_clean _ _
  joined_clean written.Or x y = operator_clean _ _

  module _ (scope : Scope) where
    abbrev IsClean : Ast → Type 0
    IsClean a = Clean (expression_of tables scope a)

    clean_level : (y : Ast-F ((a : Ast) × IsClean a)) → IsClean (roll-Ast (map-Ast ((a : Ast) × IsClean a) Ast (λ e. e.0) y))
    clean_level (Ast-F.Lit c) = subst IsClean (sym (ast.rolls-Lit c)) (subst Clean (sym (levels.of_literal tables scope c)) tt)
    clean_level (Ast-F.Column name) = subst IsClean (sym (ast.rolls-Column name)) (subst Clean (sym (levels.of_column tables scope name)) (then (column_meant tables scope name) _ (column_clean scope name) (λ _. tt)))
    clean_level (Ast-F.Neg a) = subst IsClean (sym (ast.rolls-Neg a.0)) (subst Clean (sym (levels.of_neg tables scope a.0)) (then (expression_of tables scope a.0) (λ x. negated x) a.1 (λ x. operator_clean _ _)))
    clean_level (Ast-F.Not a) = subst IsClean (sym (ast.rolls-Not a.0)) (subst Clean (sym (levels.of_not tables scope a.0)) (then (expression_of tables scope a.0) (λ x. denied x) a.1 (λ x. operator_clean _ _)))
    clean_level (Ast-F.Binary o a b) = subst IsClean (sym (ast.rolls-Binary o a.0 b.0)) (subst Clean (sym (levels.of_binary tables scope o a.0 b.0))
        (then (expression_of tables scope a.0) (λ x. expression_of tables scope b.0 >>= λ y. joined o x y) a.1 (λ x. then (expression_of tables scope b.0) (λ y. joined o x y) b.1 (λ y. joined_clean o x y))))
    clean_level (Ast-F.IsNull a is_not) = subst IsClean (sym (ast.rolls-IsNull a.0 is_not)) (subst Clean (sym (levels.of_null_test tables scope a.0 is_not)) (then (expression_of tables scope a.0) _ a.1 (λ _. tt)))

    expression_clean : (a : Ast) → IsClean a
    expression_clean = ind-Ast IsClean (λ x y is. subst (λ (z : Ast-F Ast). IsClean (roll-Ast z)) is (clean_level y))

    taken_clean : (wanted : ValueType) (a : Ast) → Clean (taken_by wanted tables scope a)
    unfolding taken_by
    taken_clean wanted a =
        then (expression_of tables scope a) _ (expression_clean a)
        (λ x. behind (refused_unless (takes wanted x.value_type) fault.TypeClash) (Ok x.expr) (unless_clean (takes wanted x.value_type) fault.TypeClash tt) tt)

    any_clean : (a : Ast) → Clean (of_any_type tables scope a)
    unfolding of_any_type
    any_clean a = then (expression_of tables scope a) _ (expression_clean a) (λ _. tt)

    condition_clean : (test : Ast) → Clean (condition_of tables scope test)
    unfolding condition_of
    condition_clean test = then (taken_by type.Truth tables scope test) (λ whole. Ok (conjuncts whole)) (taken_clean type.Truth test) (λ _. tt)

    filter_clean : (filter : Option Ast) → Clean (filter_of tables scope filter)
    filter_clean None = tt
    filter_clean (Some test) = condition_clean test

    on_clean : (join : Option JoinRef) → Clean (on_of tables scope join)
    on_clean None = tt
    on_clean (Some join) = condition_clean join.on

  -- ---- queries

  joined_table_clean : (join : Option JoinRef) → Clean (second_of tables join)
  joined_table_clean None = tt
  joined_table_clean (Some join) = then (known_of tables join.table) _ (known_clean join.table) (λ _. tt)

  different_clean : (left : Known) (right : Option Known) → Clean (different left right)
  different_clean left None = tt
  different_clean left (Some right) = if_clean (text_eq left.name right.name) (fault.Ambiguous left.name) tt

  from_clean : (select : SelectStmt) → Clean (from_of tables select)
  unfolding from_of
  from_clean select =
      then (known_of tables select.left) _ (known_clean select.left)
      (λ left. then (second_of tables select.right) _ (joined_table_clean select.right) (λ right. behind (different left right) _ (different_clean left right) tt))

  tests_clean : (scope : Scope) (select : SelectStmt) → Clean (tests_of tables scope select)
  unfolding tests_of
  tests_clean scope select = then (on_of tables scope select.right) _ (on_clean scope select.right) (λ on. then (filter_of tables scope select.filter) _ (filter_clean scope select.filter) (λ _. tt))

  group_clean : (scope : Scope) (group : List ℕ) (columns : List ColRef) → Clean (group_behind tables scope group columns)
  group_clean scope group [] = tt
  group_clean scope group (c ∷ columns) =
      then (column_meant tables scope c) (λ found. group_behind tables scope (once group found.place) columns) (column_clean scope c) (λ found. group_clean scope (once group found.place) columns)

  item_clean : (scope plain : Scope) (v : AstValue) → Clean (item_of tables scope plain v)
  item_clean scope plain (value.Plain e) = then (of_any_type tables plain e) _ (any_clean plain e) (λ _. tt)
  item_clean scope plain value.CountAll = tt
  item_clean scope plain (value.Count e) = then (of_any_type tables scope e) _ (any_clean scope e) (λ _. tt)
  item_clean scope plain (value.Sum e) = then (taken_by type.Int tables scope e) _ (taken_clean scope type.Int e) (λ _. tt)
  item_clean scope plain (value.Min e) = then (of_any_type tables scope e) _ (any_clean scope e) (λ _. tt)
  item_clean scope plain (value.Max e) = then (of_any_type tables scope e) _ (any_clean scope e) (λ _. tt)

  star_clean : (plain : Scope) (place : ℕ) (c : ColumnDef) → Clean (star_item plain place c)
  star_clean plain place c = behind (refused_unless (is_allowed plain.group place) (fault.NotGrouped c.name)) _ (unless_clean (is_allowed plain.group place) (fault.NotGrouped c.name) tt) tt

  listed_clean : (scope plain : Scope) (list : Items) → Clean (listed tables scope plain list)
  listed_clean scope plain items.All =
      then (each_behind (next_star plain) [] (known_columns tables plain.left)) _ (each_clean (next_star plain) (λ done c. star_clean plain (length done) c) [] (known_columns tables plain.left))
      (λ left. each_clean (next_star plain) (λ done c. star_clean plain (length done) c) left (known_columns tables plain.right))
  listed_clean scope plain (items.List list) = each_clean (λ _ i. item_of tables scope plain i.value) (λ _ i. item_clean scope plain i.value) [] list

  items_clean : (scope plain : Scope) (list : Items) → Clean (items_of tables scope plain list)
  unfolding items_of
  items_clean scope plain list =
      then (listed tables scope plain list) _ (listed_clean scope plain list)
      (λ bound. behind (refused_unless (nat_le 1 (length bound) && nat_le (length bound) MAX_LINE_CELLS) fault.WrongCount) (Ok bound) (unless_clean (nat_le 1 (length bound) && nat_le (length bound) MAX_LINE_CELLS) fault.WrongCount tt) tt)

  only_item_clean : (list : List AstItem) (name : List ℕ) (o : Option ℕ) → Clean (only_item list name o)
  only_item_clean list name None = tt
  only_item_clean list name (Some place) =
      behind (refused_if (list_any (has_alias name) (drop (place + 1) list)) (fault.Ambiguous name)) (Ok (Some place)) (if_clean (list_any (has_alias name) (drop (place + 1) list)) (fault.Ambiguous name) tt) tt

  meant_clean : (list : List AstItem) (table : Option (List ℕ)) (name : List ℕ) → Clean (item_meant list table name)
  meant_clean list (Some t) name = tt
  meant_clean list None name = only_item_clean list name (position (has_alias name) list)

  by_clean : (plain : Scope) (name : ColRef) (o : Option ℕ) → Clean (item_or_column tables plain name o)
  by_clean plain name (Some place) = tt
  by_clean plain name None = then (column_meant tables plain name) _ (column_clean plain name) (λ _. tt)

  sort_clean : (plain : Scope) (list : List AstItem) (order : OrderRef) → Clean (sort_of tables plain list order)
  unfolding sort_of
  sort_clean plain list order =
      then (item_meant list order.column.table order.column.name) _ (meant_clean list order.column.table order.column.name)
      (λ item. then (item_or_column tables plain order.column item) _ (by_clean plain order.column item) (λ _. tt))

  lines_clean : (scope plain : Scope) (select : SelectStmt) → Clean (lines_in tables scope plain select)
  unfolding lines_in
  lines_clean scope plain select =
      then (items_of tables scope plain select.items) _ (items_clean scope plain select.items) (λ _.
      then (order_of tables plain (written_items select.items) select.order) _
      (each_clean (λ _. sort_of tables plain (written_items select.items)) (λ _ o. sort_clean plain (written_items select.items) o) [] select.order) (λ _. tt))

  query_clean : (scope : Scope) (select : SelectStmt) → Clean (query_in tables scope select)
  unfolding query_in lines_of
  query_clean scope select =
      then (tests_of tables scope select) _ (tests_clean scope select) (λ _.
      then (group_behind tables scope [] select.group) _ (group_clean scope [] select.group) (λ group.
      then (lines_of tables scope group select) _ (lines_clean scope (plain_scope (is_grouped select) group scope) select) (λ _. tt)))

  select_clean : (select : SelectStmt) → Clean (select_of tables select)
  unfolding select_of
  select_clean select = then (from_of tables select) _ (from_clean select) (λ scope. query_clean scope select)

  lock_clean : (select : SelectStmt) → Clean (lock_of tables select)
  unfolding lock_of
  lock_clean select =
      then (select_of tables select) _ (select_clean select)
      (λ bound. behind (refused_if (is_some select.right || bound.grouped) fault.NotLockable) (Ok bound) (if_clean (is_some select.right || bound.grouped) fault.NotLockable tt) tt)

  -- ---- statements that write

  listed_column_clean : (columns : List ColumnDef) (before name : List ℕ) → Clean (listed_column columns before name)
  unfolding listed_column
  listed_column_clean columns before name =
      then (column_named columns name) _ (column_named_clean columns name)
      (λ place. behind (refused_if (is_in before place) (fault.Ambiguous name)) (Ok place) (if_clean (is_in before place) (fault.Ambiguous name) tt) tt)

  columns_clean : (columns : List ColumnDef) (names : List (List ℕ)) → Clean (listed_columns columns names)
  unfolding listed_columns
  columns_clean columns [] = tt
  columns_clean columns (name ∷ names) = each_clean (listed_column columns) (listed_column_clean columns) [] (name ∷ names)

  row_clean : (scope : Scope) (types : List ValueType) (row : AstRow) → Clean (row_of tables scope types row)
  unfolding row_of
  row_clean scope types row =
      behind (refused_unless (length row.values == length types) fault.WrongCount) _ (unless_clean (length row.values == length types) fault.WrongCount tt)
      (then (each_behind (next_value tables scope types) [] row.values) _ (each_clean (next_value tables scope types) (λ done v. taken_clean scope (slice_index_or types (length done) type.Any) v) [] row.values) (λ _. tt))

  rows_clean : (columns : List ColumnDef) (places : List ℕ) (rows : List AstRow) → Clean (rows_of tables columns places rows)
  unfolding rows_of
  rows_clean columns places rows = each_clean (λ _. row_of tables nowhere (map (type_at columns) places)) (λ _ row. row_clean nowhere (map (type_at columns) places) row) [] rows

  insert_clean : (insert : InsertStmt) → Clean (insert_of tables insert)
  unfolding insert_of
  insert_clean insert =
      then (table_named tables insert.table) _ (named_clean insert.table) (λ table.
      then (listed_columns (columns_of tables table) insert.columns) _ (columns_clean (columns_of tables table) insert.columns) (λ places.
      then (rows_of tables (columns_of tables table) places insert.rows) _ (rows_clean (columns_of tables table) places insert.rows) (λ _. tt)))

  set_column_clean : (columns : List ColumnDef) (key : List ℕ) (before : List SetTo) (name : List ℕ) → Clean (column_behind columns key before name)
  unfolding column_behind
  set_column_clean columns key before name =
      then (column_named columns name) _ (column_named_clean columns name) (λ place.
      behind (refused_if (is_in key place) (fault.KeyColumn name)) _ (if_clean (is_in key place) (fault.KeyColumn name) tt)
      (behind (refused_if (is_set before place) (fault.Ambiguous name)) (Ok place) (if_clean (is_set before place) (fault.Ambiguous name) tt) tt))

  set_clean : (scope : Scope) (table : TableDef) (before : List SetTo) (set : AstSet) → Clean (set_behind tables scope table before set)
  unfolding set_behind
  set_clean scope table before set =
      then (column_behind table.columns table.key before set.column) _ (set_column_clean table.columns table.key before set.column)
      (λ place. then (taken_by (type_at table.columns place) tables scope set.value) _ (taken_clean scope (type_at table.columns place) set.value) (λ _. tt))

  update_in_clean : (scope : Scope) (table : ℕ) (update : UpdateStmt) → Clean (update_in tables scope table update)
  unfolding update_in
  update_in_clean scope table update =
      then (each_behind (set_behind tables scope (table_at tables table)) [] update.sets) _ (each_clean (set_behind tables scope (table_at tables table)) (set_clean scope (table_at tables table)) [] update.sets) (λ _.
      then (filter_of tables scope update.filter) _ (filter_clean scope update.filter) (λ _. tt))

  update_clean : (update : UpdateStmt) → Clean (update_of tables update)
  unfolding update_of
  update_clean update =
      then (table_named tables update.table) _ (named_clean update.table) (λ table. update_in_clean (alone update.table table) table update)

  delete_clean : (delete : DeleteStmt) → Clean (delete_of tables delete)
  unfolding delete_of
  delete_clean delete =
      then (table_named tables delete.table) _ (named_clean delete.table) (λ table.
      then (filter_of tables (alone delete.table table) delete.filter) _ (filter_clean (alone delete.table table) delete.filter) (λ _. tt))

  statement_clean : (s : Statement) → is_of_tables s ≡ true → Clean (bound_of tables s)
  statement_clean (statement.Select select) h = then (select_of tables select) _ (select_clean select) (λ _. tt)
  statement_clean (statement.SelectForUpdate select) h = then (lock_of tables select) _ (lock_clean select) (λ _. tt)
  statement_clean (statement.Insert insert) h = then (insert_of tables insert) _ (insert_clean insert) (λ _. tt)
  statement_clean (statement.Update update) h = then (update_of tables update) _ (update_clean update) (λ _. tt)
  statement_clean (statement.Delete delete) h = then (delete_of tables delete) _ (delete_clean delete) (λ _. tt)
  statement_clean statement.Begin h = absurd cc
  statement_clean (statement.BeginAsOf epoch) h = absurd cc
  statement_clean statement.Commit h = absurd cc
  statement_clean statement.Rollback h = absurd cc
  statement_clean (statement.Explain select) h = then (select_of tables select) _ (select_clean select) (λ _. tt)

clean_tells : {A : Type 0} (r : Result A BindFault) → Clean r → IfErr r (λ e. e ≢ fault.NoMemory)
clean_tells (Ok x) c = tt
clean_tells (Err e) c = λ h. subst IsRefusal h c

pub never_no_memory : (tables : Tables) (s : Statement) → is_of_tables s ≡ true → IfErr (bound_of tables s) (λ e. e ≢ fault.NoMemory)
never_no_memory tables s h = clean_tells (bound_of tables s) (statement_clean tables s h)
