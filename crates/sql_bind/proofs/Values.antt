-- The values of bound expressions are of the types that are asked for where they stand.
use Rattle.std.proofs.Common.{◌≡◌, ℕ, zero, suc, true, Some, List, [], ◌∷◌, Result, Ok, Err, refl, sym, ap, subst}
use Rattle.std.specs.Prelude.{IfOk, slice_get, slice_index_or}
use Rattle.geo_base.specs.Cells as cells
use Rattle.geo_base.specs.Cells.{is_null}
use Rattle.geo_base.specs.declared.cell.Cell.{Cell}
use Rattle.geo_base.specs.declared.cell.Cell.TheVariants as cell
use Rattle.geo_schema.specs.declared.column.ColumnDef.{ColumnDef}
use Rattle.geo_schema.specs.declared.column.Kind.{Kind}
use Rattle.geo_schema.specs.declared.column.Kind.TheVariants as kind
use Rattle.geo_schema.specs.Rows as kinds
use Rattle.geo_schema.specs.Rows.{IsRow}
use Rattle.geo_schema.specs.Schemas.{Tables, table_at}
use Rattle.geo_schema.specs.Tables.{no_column}
use Rattle.sql_expr.specs.declared.expr.Expr.{Expr}
use Rattle.sql_expr.specs.declared.value_type.ValueType.{ValueType}
use Rattle.sql_expr.specs.declared.value_type.ValueType.TheVariants as type
use Rattle.sql_expr.specs.Rows.{HasTypes}
use Rattle.sql_expr.specs.Types.{has_type, takes, type_of}
use Rattle.sql_expr.specs.Values.{value_of}
use Rattle.sql_bind.specs.declared.bound.ExprRow.{ExprRow}
use Rattle.sql_bind.specs.declared.bound.SetTo.{SetTo}
use Rattle.sql_bind.specs.Names.{columns_of, kind_type, type_at}
use Rattle.sql_bind.specs.Sound.{types_of, IsTypedFor, IsSoundRow, IsSoundSet}
use Rattle.sql_bind.proofs.Lists.{some_is}
use Rattle.sql_bind.proofs.Rows.{one_table}

-- ---- types

is_cell_null : (c : Cell) → is_null c ≡ true → c ≡ cell.Null
is_cell_null cell.Null h = refl
is_cell_null (cell.Int x) h = absurd cc
is_cell_null (cell.Text x) h = absurd cc
is_cell_null (cell.Truth x) h = absurd cc

null_typed : (t : ValueType) → has_type t cell.Null ≡ true
null_typed type.Int = refl
null_typed type.Text = refl
null_typed type.Truth = refl
null_typed type.Any = refl

-- a cell of type Any is NULL, and so of each type
of_any : (wanted : ValueType) (c : Cell) → has_type type.Any c ≡ true → has_type wanted c ≡ true
of_any wanted c h = subst (λ (x : Cell). has_type wanted x ≡ true) (sym (is_cell_null c h)) (null_typed wanted)

-- a cell of a type is of the one that is wanted, where that takes it
wider : (wanted t : ValueType) (c : Cell) → takes wanted t ≡ true → has_type t c ≡ true → has_type wanted c ≡ true
wider type.Int type.Int c h is = is
wider type.Int type.Text c h is = absurd cc
wider type.Int type.Truth c h is = absurd cc
wider type.Int type.Any c h is = of_any type.Int c is
wider type.Text type.Int c h is = absurd cc
wider type.Text type.Text c h is = is
wider type.Text type.Truth c h is = absurd cc
wider type.Text type.Any c h is = of_any type.Text c is
wider type.Truth type.Int c h is = absurd cc
wider type.Truth type.Text c h is = absurd cc
wider type.Truth type.Truth c h is = is
wider type.Truth type.Any c h is = of_any type.Truth c is
wider type.Any type.Int c h is = absurd cc
wider type.Any type.Text c h is = absurd cc
wider type.Any type.Truth c h is = absurd cc
wider type.Any type.Any c h is = is

-- the type of a column is that of its cells
column_cell : (k : Kind) (c : Cell) → has_type (kind_type k) c ≡ true → cells.has_type (kinds.type_of k) c ≡ true
column_cell kind.Int c h = h
column_cell (kind.Text max) c h = h
column_cell kind.Truth c h = h

-- ---- places

at_place : {A : Type 0} (xs : List A) (k : ℕ) (x d : A) → slice_get xs k ≡ Some x → slice_index_or xs k d ≡ x
at_place [] k x d h = absurd cc
at_place (y ∷ xs) zero x d h = some_is y x h
at_place (y ∷ xs) (suc k) x d h = at_place xs k x d h

type_is : (columns : List ColumnDef) (place : ℕ) (column : ColumnDef) → slice_get columns place ≡ Some column → type_at columns place ≡ kind_type column.kind
type_is columns place column h = ap (λ (c : ColumnDef). kind_type c.kind) (at_place columns place column no_column h)

no_types : HasTypes [] []
no_types = record { count = refl; types = λ place t c h k. absurd cc }

-- ---- values

if_ok : {A E : Type 0} (r : Result A E) (P Q : A → Type 0) → ((x : A) → P x → Q x) → IfOk r P → IfOk r Q
if_ok (Ok x) P Q f p = f x p
if_ok (Err e) P Q f p = tt

module _ (typed : (columns : List ValueType) (row : List Cell) (e : Expr) (t : ValueType) → HasTypes columns row → type_of columns e ≡ Some t → IfOk (value_of row e) (λ c. has_type t c ≡ true)) where
  pub wanted_value : (wanted : ValueType) (columns : List ValueType) (row : List Cell) (e : Expr) → IsTypedFor wanted columns e → HasTypes columns row →
      IfOk (value_of row e) (λ c. has_type wanted c ≡ true)
  wanted_value wanted columns row e is fits =
      if_ok (value_of row e) (λ c. has_type is.type c ≡ true) (λ c. has_type wanted c ≡ true) (λ c h. wider wanted is.type c is.taken h) (typed columns row e is.type fits is.is)

  -- a value of a column's type
  column_value : (columns : List ColumnDef) (place : ℕ) (column : ColumnDef) (types : List ValueType) (row : List Cell) (e : Expr) → slice_get columns place ≡ Some column →
      IsTypedFor (type_at columns place) types e → HasTypes types row → IfOk (value_of row e) (λ c. cells.has_type (kinds.type_of column.kind) c ≡ true)
  column_value columns place column types row e at is fits =
      let wanted : IsTypedFor (kind_type column.kind) types e = subst (λ (t : ValueType). IsTypedFor t types e) (type_is columns place column at) is in
      if_ok (value_of row e) (λ c. has_type (kind_type column.kind) c ≡ true) (λ c. cells.has_type (kinds.type_of column.kind) c ≡ true) (λ c h. column_cell column.kind c h)
      (wanted_value (kind_type column.kind) types row e wanted fits)

  pub inserted_value : (columns : List ColumnDef) (places : List ℕ) (row : ExprRow) (k place : ℕ) (column : ColumnDef) (e : Expr) → IsSoundRow columns places row →
      slice_get row.values k ≡ Some e → slice_get places k ≡ Some place → slice_get columns place ≡ Some column →
      IfOk (value_of [] e) (λ c. cells.has_type (kinds.type_of column.kind) c ≡ true)
  inserted_value columns places row k place column e sound here at is =
      let typed_here : IsTypedFor (type_at columns place) [] e = subst (λ (n : ℕ). IsTypedFor (type_at columns n) [] e) (at_place places k place 0 at) (sound.values k e here) in
      column_value columns place column [] [] e is typed_here no_types

  pub set_value : (tables : Tables) (table : ℕ) (set : SetTo) (row : List Cell) (column : ColumnDef) → IsSoundSet tables table set → IsRow (table_at tables table) row →
      slice_get (columns_of tables table) set.column ≡ Some column → IfOk (value_of row set.value) (λ c. cells.has_type (kinds.type_of column.kind) c ≡ true)
  set_value tables table set row column sound fits at =
      column_value (columns_of tables table) set.column column (types_of tables (table ∷ [])) row set.value at sound.value (one_table tables table row fits)
