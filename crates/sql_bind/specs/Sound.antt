-- What a bound statement is over the tables that it is bound to: each number is one of a table or a column that there
-- is, each expression has its type, and the plain items of a grouped query, and the columns that it is ordered by, are of
-- columns of GROUP BY.
use Rattle.std.specs.Prelude.{◌≡◌, ◌≢◌, ⊤, ℕ, ◌≤◌, ◌<◌, Bool, true, false, ◌&&◌, nat_eq, List, [], ◌∷◌, length, slice_index_or, slice_get, Some}
use Rattle.std.specs.List.{All, flat_map}
use Rattle.geo_base.specs.declared.limits.TheConstants.{MAX_LINE_CELLS}
use Rattle.geo_schema.specs.declared.column.ColumnDef.{ColumnDef}
use Rattle.geo_schema.specs.Repeats.{AreApart}
use Rattle.geo_schema.specs.Rows.{is_in}
use Rattle.geo_schema.specs.Schemas.{Tables, table_at}
use Rattle.sql_expr.specs.declared.expr.Expr.{Expr}
use Rattle.sql_expr.specs.declared.expr.Expr.TheFolds.{fold-Expr}
use Rattle.sql_expr.specs.declared.expr.Expr.TheOpen.{Expr-F}
use Rattle.sql_expr.specs.declared.expr.Expr.TheVariants as expr
use Rattle.sql_expr.specs.declared.value_type.ValueType.{ValueType}
use Rattle.sql_expr.specs.declared.value_type.ValueType.TheVariants as type
use Rattle.sql_expr.specs.Types.{takes, type_of}
use Rattle.sql_bind.specs.declared.bound.Bound.{Bound}
use Rattle.sql_bind.specs.declared.bound.Bound.TheVariants as bound
use Rattle.sql_bind.specs.declared.bound.BoundDelete.{BoundDelete}
use Rattle.sql_bind.specs.declared.bound.BoundInsert.{BoundInsert}
use Rattle.sql_bind.specs.declared.bound.BoundSelect.{BoundSelect}
use Rattle.sql_bind.specs.declared.bound.BoundUpdate.{BoundUpdate}
use Rattle.sql_bind.specs.declared.bound.ExprRow.{ExprRow}
use Rattle.sql_bind.specs.declared.bound.Item.{Item}
use Rattle.sql_bind.specs.declared.bound.Item.TheVariants as item
use Rattle.sql_bind.specs.declared.bound.SetTo.{SetTo}
use Rattle.sql_bind.specs.declared.bound.SortBy.{SortBy}
use Rattle.sql_bind.specs.declared.bound.SortBy.TheVariants as by
use Rattle.sql_bind.specs.Names.{columns_of, column_types, type_at, is_allowed}

-- ---- expressions

-- the types of the columns of some tables, one table behind another
abbrev pub types_of : Tables → List ℕ → List ValueType
types_of tables numbers = flat_map (λ table. column_types (columns_of tables table)) numbers

-- the expression has a type over columns of these types, so each column in it is one of them; and it may stand where the
-- wanted type is asked for
pub record IsTypedFor (wanted : ValueType) (columns : List ValueType) (e : Expr) : Type 0 where
  pub type : ValueType
  pub is : type_of columns e ≡ Some type
  pub taken : takes wanted type ≡ true

-- the expression has a type, whichever it is
pub record HasType (columns : List ValueType) (e : Expr) : Type 0 where
  pub type : ValueType
  pub is : type_of columns e ≡ Some type

-- a test is a condition, and no AND of two
pub record IsTest (columns : List ValueType) (e : Expr) : Type 0 where
  pub truth : IsTypedFor type.Truth columns e
  pub whole : (a b : Expr) → e ≢ expr.And a b

-- one level of an expression, with whether its operands have columns of the list alone
abbrev pub level_of_columns : List ℕ → Expr-F Bool → Bool
level_of_columns group (Expr-F.Lit _) = true
level_of_columns group (Expr-F.Col place) = is_allowed (Some group) place
level_of_columns group (Expr-F.Neg a) = a
level_of_columns group (Expr-F.Not a) = a
level_of_columns group (Expr-F.Arith _ a b) = a && b
level_of_columns group (Expr-F.Cmp _ a b) = a && b
level_of_columns group (Expr-F.And a b) = a && b
level_of_columns group (Expr-F.Or a b) = a && b
level_of_columns group (Expr-F.IsNull a _) = a

-- each column of the expression is one of the list
unfoldable pub is_of_columns : List ℕ → Expr → Bool
is_of_columns group = fold-Expr Bool (level_of_columns group)

-- ---- queries

-- an item has a type, and the sum is one of numbers
abbrev pub IsItem : List ValueType → Item → Type 0
IsItem columns (item.Plain e) = HasType columns e
IsItem columns item.CountAll = ⊤
IsItem columns (item.Count e) = HasType columns e
IsItem columns (item.Sum e) = IsTypedFor type.Int columns e
IsItem columns (item.Min e) = HasType columns e
IsItem columns (item.Max e) = HasType columns e

-- the item is no aggregate
abbrev pub is_plain : Item → Bool
is_plain (item.Plain _) = true
is_plain _ = false

-- a plain item has columns of the list alone
abbrev pub IsItemWithin : List ℕ → Item → Type 0
IsItemWithin group (item.Plain e) = is_of_columns group e ≡ true
IsItemWithin group _ = ⊤

-- what is sorted by is one of so many items, or one of so many columns
abbrev pub IsSortOf : ℕ → ℕ → SortBy → Type 0
IsSortOf items columns (by.Item place) = place < items
IsSortOf items columns (by.Column place) = place < columns

-- a column that is sorted by is one of the list
abbrev pub IsSortWithin : List ℕ → SortBy → Type 0
IsSortWithin group (by.Item _) = ⊤
IsSortWithin group (by.Column place) = is_allowed (Some group) place ≡ true

-- a query over one table or two that are shown
pub record IsSoundSelect (tables : Tables) (query : BoundSelect) : Type 0 where
  pub some : 1 ≤ length query.tables
  pub few : length query.tables ≤ 2
  pub shown : All (λ table. table < length tables.shown) query.tables
  pub tests : All (IsTest (types_of tables query.tables)) query.tests
  pub group : All (λ place. place < length (types_of tables query.tables)) query.group
  pub apart : AreApart nat_eq query.group
  pub some_items : 1 ≤ length query.items
  pub few_items : length query.items ≤ MAX_LINE_CELLS
  pub items : All (IsItem (types_of tables query.tables)) query.items
  pub order : All (λ sort. IsSortOf (length query.items) (length (types_of tables query.tables)) sort.by) query.order
  pub not_grouped : query.grouped ≡ false → (query.group ≡ []) × All (λ i. is_plain i ≡ true) query.items
  pub grouped : query.grouped ≡ true → All (IsItemWithin query.group) query.items × All (λ sort. IsSortWithin query.group sort.by) query.order

-- a query that locks: of one table, and not grouped
pub record IsSoundLock (tables : Tables) (query : BoundSelect) : Type 0 where
  pub sound : IsSoundSelect tables query
  pub one : length query.tables ≡ 1
  pub not_grouped : query.grouped ≡ false

-- ---- statements that write

-- a row has one value for each column, and each is of its column's type
pub record IsSoundRow (columns : List ColumnDef) (places : List ℕ) (row : ExprRow) : Type 0 where
  pub count : length row.values ≡ length places
  pub values : (k : ℕ) (e : Expr) → slice_get row.values k ≡ Some e → IsTypedFor (type_at columns (slice_index_or places k 0)) [] e

-- the columns of an INSERT are some of the table's, none of them twice
pub record IsSoundInsert (tables : Tables) (insert : BoundInsert) : Type 0 where
  pub shown : insert.table < length tables.shown
  pub columns : All (λ place. place < length (columns_of tables insert.table)) insert.columns
  pub apart : AreApart nat_eq insert.columns
  pub rows : All (IsSoundRow (columns_of tables insert.table) insert.columns) insert.rows

-- what is set is a column that isn't of the key, to a value of its type
pub record IsSoundSet (tables : Tables) (table : ℕ) (set : SetTo) : Type 0 where
  pub column : set.column < length (columns_of tables table)
  pub not_key : is_in (table_at tables table).key set.column ≡ false
  pub value : IsTypedFor (type_at (columns_of tables table) set.column) (types_of tables (table ∷ [])) set.value

-- two sets are of one column
abbrev pub same_set : SetTo → SetTo → Bool
same_set a b = nat_eq a.column b.column

-- an UPDATE sets no column twice
pub record IsSoundUpdate (tables : Tables) (update : BoundUpdate) : Type 0 where
  pub shown : update.table < length tables.shown
  pub sets : All (IsSoundSet tables update.table) update.sets
  pub apart : AreApart same_set update.sets
  pub tests : All (IsTest (types_of tables (update.table ∷ []))) update.tests

-- a DELETE
pub record IsSoundDelete (tables : Tables) (delete : BoundDelete) : Type 0 where
  pub shown : delete.table < length tables.shown
  pub tests : All (IsTest (types_of tables (delete.table ∷ []))) delete.tests

-- a bound statement
abbrev pub IsSound : Tables → Bound → Type 0
IsSound tables (bound.Select query) = IsSoundSelect tables query
IsSound tables (bound.Lock query) = IsSoundLock tables query
IsSound tables (bound.Insert insert) = IsSoundInsert tables insert
IsSound tables (bound.Update update) = IsSoundUpdate tables update
IsSound tables (bound.Delete delete) = IsSoundDelete tables delete
IsSound tables (bound.Explain query) = IsSoundSelect tables query
