-- Rows of tables have the types of their columns, and so have pairs of rows.
use Rattle.std.proofs.Common.{◌≡◌, ℕ, zero, suc, true, Option, Some, None, List, [], ◌∷◌, ◌++◌, length, length-append, refl, sym, ◌∙◌, subst, append-nil, arith}
use Rattle.std.specs.Prelude.{slice_get}
use Rattle.std.specs.Option.{option_map}
use Rattle.std.proofs.lemmas.Option.{slice_get-map}
use Rattle.geo_base.specs.Cells as cells
use Rattle.geo_base.specs.declared.cell.Cell.{Cell}
use Rattle.geo_schema.specs.declared.column.ColumnDef.{ColumnDef}
use Rattle.geo_schema.specs.declared.column.Kind.{Kind}
use Rattle.geo_schema.specs.declared.column.Kind.TheVariants as kind
use Rattle.geo_schema.specs.declared.table.TableDef.{TableDef}
use Rattle.geo_schema.specs.Rows.{type_of, IsRow}
use Rattle.geo_schema.specs.Schemas.{Tables, table_at}
use Rattle.sql_expr.specs.declared.value_type.ValueType.{ValueType}
use Rattle.sql_expr.specs.Rows.{HasTypes}
use Rattle.sql_expr.specs.Types.{has_type}
use Rattle.sql_bind.specs.Names.{kind_type, columns_of, column_types}
use Rattle.sql_bind.specs.Sound.{types_of}
use Rattle.sql_bind.proofs.Typing.{types_count}

same_type : (k : Kind) (cell : Cell) → cells.has_type (type_of k) cell ≡ true → has_type (kind_type k) cell ≡ true
same_type kind.Int cell h = h
same_type (kind.Text max) cell h = h
same_type kind.Truth cell h = h

row_types : (table : TableDef) (row : List Cell) → IsRow table row → HasTypes (column_types table.columns) row
row_types table row fits = record {
  count = fits.count ∙ sym (types_count table.columns);
  types = λ place t c h here. at place t c (slice_get table.columns place) refl (sym (slice_get-map (λ (column : ColumnDef). kind_type column.kind) table.columns place) ∙ h) here;
}
  where
    some_is : (a b : ValueType) → (let o : Option ValueType = Some a in o ≡ Some b) → a ≡ b
    some_is a b e = cc

    at : (place : ℕ) (t : ValueType) (c : Cell) (o : Option ColumnDef) → slice_get table.columns place ≡ o → option_map (λ (column : ColumnDef). kind_type column.kind) o ≡ Some t → slice_get row place ≡ Some c → has_type t c ≡ true
    at place t c None is h here = absurd cc
    at place t c (Some column) is h here =
        subst (λ (u : ValueType). has_type u c ≡ true) (some_is (kind_type column.kind) t h) (same_type column.kind c (fits.suits place column c is here).type)

together : (left right : List ValueType) (a b : List Cell) → length a ≡ length left →
    ((p : ℕ) (t : ValueType) (c : Cell) → slice_get left p ≡ Some t → slice_get a p ≡ Some c → has_type t c ≡ true) →
    ((p : ℕ) (t : ValueType) (c : Cell) → slice_get right p ≡ Some t → slice_get b p ≡ Some c → has_type t c ≡ true) →
    (p : ℕ) (t : ValueType) (c : Cell) → slice_get (left ++ right) p ≡ Some t → slice_get (a ++ b) p ≡ Some c → has_type t c ≡ true
together [] right [] b n f g p t c h k = g p t c h k
together [] right (x ∷ a) b n f g p t c h k = absurd (omega arith)
together (u ∷ left) right [] b n f g p t c h k = absurd (omega arith)
together (u ∷ left) right (x ∷ a) b n f g zero t c h k = f zero t c h k
together (u ∷ left) right (x ∷ a) b n f g (suc p) t c h k = together left right a b (omega arith) (λ q. f (suc q)) g p t c h k

pair_types : (left right : List ValueType) (a b : List Cell) → HasTypes left a → HasTypes right b → HasTypes (left ++ right) (a ++ b)
pair_types left right a b f g = record {
  count = omega (arith, f.count, g.count, length-append a b, length-append left right);
  types = together left right a b f.count f.types g.types;
}

-- a row of the one table, and a pair of rows of two
pub one_table : (tables : Tables) (table : ℕ) (row : List Cell) → IsRow (table_at tables table) row → HasTypes (types_of tables (table ∷ [])) row
one_table tables table row fits =
    subst (λ (types : List ValueType). HasTypes types row) (sym (append-nil (column_types (columns_of tables table)))) (row_types (table_at tables table) row fits)

pub two_tables : (tables : Tables) (left right : ℕ) (a b : List Cell) → IsRow (table_at tables left) a → IsRow (table_at tables right) b →
    HasTypes (types_of tables (left ∷ right ∷ [])) (a ++ b)
two_tables tables left right a b f g =
    pair_types (column_types (columns_of tables left)) (types_of tables (right ∷ [])) a b (row_types (table_at tables left) a f) (one_table tables right b g)
