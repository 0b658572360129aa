-- Laws: the tests of the rules of tables pass exactly where the rules are kept.
use Rattle.std.proofs.Common.{◌≡◌, ℕ, zero, suc, ◌<◌, ◌≤◌, Bool, true, ◌&&◌, nat_lt, nat_eq, Option, Some, None, List, length, take, get_or, refl, sym, ap, subst, arith}
use Rattle.std.specs.Prelude.{nat_le}
use Rattle.std.specs.Bool.{Decides}
use Rattle.std.specs.List.{All, list_all}
use Rattle.std.specs.Option.{is_none}
use Rattle.std.proofs.lemmas.Bool.{and_parts, and_from, leb-true, le-leb, ltb-true, lt-ltb}
use Rattle.std.proofs.lemmas.List.{length-take}
use Rattle.std.proofs.lemmas.List.Sums.{AllPass-from_list_all, list_all-from_AllPass}
use Rattle.geo_base.specs.declared.limits.TheConstants.{MAX_TABLES, MAX_TEXT_BYTES, MAX_COLUMNS, MAX_KEY_CELLS, MAX_INDEXES, MAX_INDEX_COLUMNS, MAX_NAME_BYTES}
use Rattle.geo_schema.specs.declared.column.ColumnDef.{ColumnDef}
use Rattle.geo_schema.specs.declared.column.Kind.{Kind}
use Rattle.geo_schema.specs.declared.column.Kind.TheVariants as kind
use Rattle.geo_schema.specs.declared.index.IndexDef.{IndexDef}
use Rattle.geo_schema.specs.declared.table.TableDef.{TableDef}
use Rattle.geo_schema.specs.Repeats.{AreApart}
use Rattle.geo_schema.specs.declared.limits.TheConstants.{MAX_UNIQUES}
use Rattle.geo_schema.specs.Schemas.{Tables, IsSchema}
use Rattle.geo_schema.specs.Tables.{IsName, IsKind, IsColumn, ArePlaces, IsIndex, IsTable, same_column, same_index}
use Rattle.geo_schema.specs.inner.Repeats.{is_distinct}
use Rattle.geo_schema.specs.inner.Tables.{is_count, is_name, is_kind, is_column, are_columns, are_places, is_index, are_indexes, is_table}
use Rattle.geo_schema.specs.laws.Apart.{are_apart, none_repeated}

-- ---- tests that are put together

pub both : (a b : Bool) {P Q : Type 0} → Decides a P → Decides b Q → Decides (a && b) (P × Q)
both a b p q = (λ h. let parts = and_parts a b h in (p.0 parts.0, q.0 parts.1), λ x. and_from a b (p.1 x.0) (q.1 x.1))

pub said : (b : Bool) {P Q : Type 0} → (P → Q) → (Q → P) → Decides b P → Decides b Q
said b f g d = (λ h. f (d.0 h), λ q. d.1 (g q))

pub at_most : (a b : ℕ) → Decides (nat_le a b) (a ≤ b)
at_most a b = (leb-true a b, le-leb a b)

pub below : (a b : ℕ) → Decides (nat_lt a b) (a < b)
below a b = (ltb-true a b, lt-ltb a b)

pub each : {A : Type 0} (test : A → Bool) (P : A → Type 0) → ((x : A) → Decides (test x) (P x)) → (xs : List A) → Decides (list_all test xs) (All P xs)
each test P tells xs = (
  λ h k d lt. (tells (get_or xs k d)).0 (AllPass-from_list_all test xs h k d lt),
  λ all. list_all-from_AllPass test xs (λ k d lt. (tells (get_or xs k d)).1 (all k d lt)),
)

none_is : {A : Type 0} (o : Option A) → is_none o ≡ true → o ≡ None
none_is None e = refl
none_is (Some x) e = cc

apart_tells : {A : Type 0} (same : A → A → Bool) (items : List A) → Decides (is_distinct same items) (AreApart same items)
apart_tells same items = (λ h i j d. are_apart same items i j d (none_is _ h), λ apart. ap is_none (none_repeated same items apart))

counted : {A : Type 0} (most : ℕ) (items : List A) → Decides (is_count most items) ((1 ≤ length items) × (length items ≤ most))
counted most items = both (nat_le 1 (length items)) (nat_le (length items) most) (at_most 1 (length items)) (at_most (length items) most)

-- ---- tables

pub name_tells : (bytes : List ℕ) → Decides (is_name bytes) (IsName bytes)
name_tells bytes = said (is_name bytes) (λ p. record { some = p.0; few = p.1 }) (λ n. (n.some, n.few)) (counted MAX_NAME_BYTES bytes)

kind_tells : (k : Kind) → Decides (is_kind k) (IsKind k)
kind_tells kind.Int = (λ _. tt, λ _. refl)
kind_tells (kind.Text max) = at_most max MAX_TEXT_BYTES
kind_tells kind.Truth = (λ _. tt, λ _. refl)

column_tells : (column : ColumnDef) → Decides (is_column column) (IsColumn column)
unfolding is_column
column_tells column =
    said (is_column column) (λ p. record { name = p.0; takes = p.1 }) (λ c. (c.name, c.takes))
    (both (is_name column.name) (is_kind column.kind) (name_tells column.name) (kind_tells column.kind))

pub places_tell : (most columns : ℕ) (places : List ℕ) → Decides (are_places most columns places) (ArePlaces most columns places)
unfolding are_places
places_tell most columns places =
    let within = list_all (λ place. nat_lt place columns) places in
    said (are_places most columns places) (λ p. record { some = p.0.0; few = p.0.1; within = p.1.0; apart = p.1.1 }) (λ r. ((r.some, r.few), (r.within, r.apart)))
    (both (is_count most places) (within && is_distinct nat_eq places) (counted most places)
    (both within (is_distinct nat_eq places) (each (λ place. nat_lt place columns) (λ place. place < columns) (λ place. below place columns) places) (apart_tells nat_eq places)))

index_tells : (columns : ℕ) (index : IndexDef) → Decides (is_index columns index) (IsIndex columns index)
unfolding is_index
index_tells columns index =
    said (is_index columns index) (λ p. record { name = p.0; places = p.1 }) (λ r. (r.name, r.places))
    (both (is_name index.name) (are_places MAX_INDEX_COLUMNS columns index.columns) (name_tells index.name) (places_tell MAX_INDEX_COLUMNS columns index.columns))

columns_tell : (columns : List ColumnDef) →
    Decides (are_columns columns) (((1 ≤ length columns) × (length columns ≤ MAX_COLUMNS)) × (All IsColumn columns × AreApart same_column columns))
unfolding are_columns
columns_tell columns =
    both (is_count MAX_COLUMNS columns) (list_all is_column columns && is_distinct same_column columns) (counted MAX_COLUMNS columns)
    (both (list_all is_column columns) (is_distinct same_column columns) (each is_column IsColumn column_tells columns) (apart_tells same_column columns))

indexes_tell : (columns : ℕ) (indexes : List IndexDef) →
    Decides (are_indexes columns indexes) ((length indexes ≤ MAX_INDEXES) × (All (IsIndex columns) indexes × AreApart same_index indexes))
unfolding are_indexes
indexes_tell columns indexes =
    both (nat_le (length indexes) MAX_INDEXES) (list_all (is_index columns) indexes && is_distinct same_index indexes) (at_most (length indexes) MAX_INDEXES)
    (both (list_all (is_index columns) indexes) (is_distinct same_index indexes) (each (is_index columns) (IsIndex columns) (index_tells columns) indexes) (apart_tells same_index indexes))

pub table_tells : (table : TableDef) → Decides (is_table table) (IsTable table)
unfolding is_table
table_tells table =
    let columns = length table.columns in
    let key = are_places MAX_KEY_CELLS columns table.key in
    let indexes = are_indexes columns table.indexes in
    said (is_table table)
    (λ p. record {
      name = p.0;
      rows = record { some = p.1.0.0.0; few = p.1.0.0.1; columns = p.1.0.1.0; key = p.1.1.0 };
      apart = p.1.0.1.1;
      few_indexes = p.1.1.1.0;
      indexes = p.1.1.1.1.0;
      indexes_apart = p.1.1.1.1.1;
    })
    (λ r. (r.name, (((r.rows.some, r.rows.few), (r.rows.columns, r.apart)), (r.rows.key, (r.few_indexes, (r.indexes, r.indexes_apart))))))
    (both (is_name table.name) (are_columns table.columns && (key && indexes)) (name_tells table.name)
    (both (are_columns table.columns) (key && indexes) (columns_tell table.columns)
    (both key indexes (places_tell MAX_KEY_CELLS columns table.key) (indexes_tell columns table.indexes))))

pub has_rules : (table : TableDef) → is_table table ≡ true → IsTable table
has_rules table h = (table_tells table).0 h

pub few_columns : (table : TableDef) → is_table table ≡ true → length table.columns ≤ MAX_COLUMNS
few_columns table h = (has_rules table h).rows.few

-- ---- schemas

pub few_tables : (tables : Tables) → IsSchema tables → length tables.shown ≤ MAX_TABLES
few_tables tables schema = schema.shown.few

-- there are at most 64 uniques, since there are fewer before the last
pub few_uniques : (tables : Tables) → IsSchema tables → length tables.uniques ≤ MAX_UNIQUES
few_uniques tables schema = by (length tables.uniques) refl
  where
    by : (n : ℕ) → length tables.uniques ≡ n → n ≤ MAX_UNIQUES
    by zero e = omega arith
    by (suc n) e =
        let last : n < length tables.uniques = omega arith in
        let few : length (take n tables.uniques) < MAX_UNIQUES = (schema.uniques n last).few in
        let count = length-take n tables.uniques in
        omega arith

-- each table that a schema shows keeps the rules of tables
pub keeps_rules : (tables : Tables) (number : ℕ) (table : TableDef) → IsSchema tables → number < length tables.shown → table ≡ get_or tables.shown number table → is_table table ≡ true
keeps_rules tables number table schema within here = (table_tells table).1 (subst IsTable (sym here) (schema.shown.rules number table within))
