-- The indexes of a table that is looked up in a schema.
use Rattle.std.proofs.Common.{◌≡◌, ℕ, ◌≤◌, ◌-◌, Bool, true, false, cond, nat_lt, Option, None, Some, List, [], ◌∷◌, length, Contains, refl, ap, subst, arith}
use Rattle.std.specs.List.{slice_get}
use Rattle.std.specs.Option.{unwrap_or}
use Rattle.std.proofs.lemmas.List.Elements.{All-contains}
use Rattle.std.proofs.lemmas.Option.{slice_get_within, get_or_from_slice_get}
use Rattle.geo_base.specs.declared.limits.TheConstants.{MAX_INDEXES}
use Rattle.geo_base.specs.declared.row_id.RowId.{RowId}
use Rattle.geo_base.specs.declared.row_image.RowImage.{RowImage}
use Rattle.geo_schema.specs.declared.index.IndexDef.{IndexDef}
use Rattle.geo_schema.specs.declared.limits.TheConstants.{FIRST_HIDDEN}
use Rattle.geo_schema.specs.declared.table.TableDef.{TableDef}
use Rattle.geo_schema.specs.Schemas.{Tables, IsSchema, hidden_tables, table_numbered}
use Rattle.geo_schema.specs.Tables.{IsTable, no_table}
use Rattle.geo_schema.specs.Uniques.{hidden_table}
use Rattle.index_store.specs.inner.Following.{apart_from, apart}
use Rattle.index_store.specs.laws.Members.{from_map}

at_place : {X : Type 0} (xs : List X) (i : ℕ) (x : X) → slice_get xs i ≡ Some x → Contains xs x
at_place xs i x is = (i, slice_get_within xs i x is, get_or_from_slice_get xs i x x is)

-- a table of a schema has few indexes: a hidden one has none
pub few_indexes : (tables : Tables) (number : ℕ) (table : TableDef) → IsSchema tables → table_numbered tables number ≡ Some table → length table.indexes ≤ MAX_INDEXES
unfolding table_numbered
few_indexes tables number table lawful is = by (nat_lt number FIRST_HIDDEN) is
  where
    by : (b : Bool) → cond b (slice_get tables.shown number) (slice_get (hidden_tables tables) (number - FIRST_HIDDEN)) ≡ Some table → length table.indexes ≤ MAX_INDEXES
    by true is = (All-contains IsTable tables.shown table lawful.shown.rules (at_place tables.shown number table is)).few_indexes
    by false is =
        let (unique, among, same) = from_map (hidden_table tables.shown) tables.uniques table (at_place (hidden_tables tables) (number - FIRST_HIDDEN) table is) in
        subst (λ (t : TableDef). length t.indexes ≤ MAX_INDEXES) same (omega arith)

-- what is found in the indexes of a table that is looked up
pub indexes_there : (tables : Tables) (row : RowId) (table : TableDef) (a b : Option RowImage) → table_numbered tables row.table ≡ Some table →
    apart tables row a b ≡ apart_from row a b 0 table.indexes
indexes_there tables row table a b is = ap (λ (t : TableDef). apart_from row a b 0 t.indexes) (ap (λ o. unwrap_or o no_table) is)

pub none_there : (tables : Tables) (row : RowId) (a b : Option RowImage) → table_numbered tables row.table ≡ None → apart tables row a b ≡ []
none_there tables row a b is = ap (λ (t : TableDef). apart_from row a b 0 t.indexes) (ap (λ o. unwrap_or o no_table) is)

pub none_apart : (row : RowId) (table : TableDef) (a b : Option RowImage) → length table.indexes ≡ 0 → apart_from row a b 0 table.indexes ≡ []
none_apart row table a b none = ap (apart_from row a b 0) (empty table.indexes none)
  where
    empty : (xs : List IndexDef) → length xs ≡ 0 → xs ≡ []
    empty [] e = refl
    empty (x ∷ xs) e = absurd (omega (arith, e))
