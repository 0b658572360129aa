-- What stands twice, and where it doesn't.
use Rattle.std.proofs.Common.{◌≡◌, ◌≢◌, ◌∙◌, ap, take, arith, ℕ, ◌<◌, ◌≤◌, Bool, true, Option, Some, None, List, length, get_or, nat_eq, position, inl, inr, refl, sym}
use Rattle.std.specs.List.{All}
use Rattle.std.proofs.lemmas.Bool.{both_ways, cases_order, cases_lt, eq-eqb}
use Rattle.std.proofs.lemmas.List.{get_or-take, length-take}
use Rattle.geo_base.specs.declared.limits.TheConstants.{MAX_TABLES}
use Rattle.geo_base.specs.laws.Orders.{text_eq_decides}
use Rattle.geo_schema.specs.declared.column.ColumnDef.{ColumnDef}
use Rattle.geo_schema.specs.declared.fault.SchemaFault.TheVariants as fault
use Rattle.geo_schema.specs.declared.index.IndexDef.{IndexDef}
use Rattle.geo_schema.specs.declared.table.TableDef.{TableDef}
use Rattle.geo_schema.specs.declared.unique.UniqueDef.{UniqueDef}
use Rattle.geo_schema.specs.Repeats.{AreApart}
use Rattle.geo_schema.specs.Schemas.{Tables, AreTables, IsSchema, IsUniqueAt, IsSchemaFault, IsTableNo, table_at}
use Rattle.geo_schema.specs.Tables.{ArePlaces, IsTable, same_column, same_index, same_table, no_table, table_in}
use Rattle.geo_schema.specs.Uniques.{no_unique, unique_in}
use Rattle.geo_schema.specs.inner.Repeats.{first_repeat}
use Rattle.geo_schema.specs.inner.Tables.{is_bad_table}
use Rattle.geo_schema.specs.inner.Uniques.{first_bad_unique}
use Rattle.geo_schema.specs.laws.Apart.{are_apart, is_first_repeat}
use Rattle.geo_schema.specs.laws.Numbers.{IsHidden, shown_or_hidden}
use Rattle.geo_schema.specs.laws.Places.{found_at}
use Rattle.geo_schema.specs.laws.Schemas.{all_good, good_kept, first_bad}
use Rattle.geo_schema.specs.laws.Uniques.{all_unique, first_bad_unique_is}

-- items of which no two are alike, and that are alike, stand at one place
module _ {A B : Type 0} (same : A → A → Bool) (part : A → B) (alike : (x y : A) → part x ≡ part y → same x y ≡ true) where
  never : (items : List A) (a b : ℕ) (d : A) → AreApart same items → a < b → b < length items → part (get_or items a d) ≡ part (get_or items b d) → ⊥
  never items a b d apart lt within e = both_ways (same (get_or items a d) (get_or items b d)) (apart a b d lt within) (alike (get_or items a d) (get_or items b d) e)

  one_place : (items : List A) (a b : ℕ) (d : A) → AreApart same items → a < length items → b < length items → part (get_or items a d) ≡ part (get_or items b d) → a ≡ b
  one_place items a b d apart ha hb e =
      elim (cases_order a b) [
        | inl is ↦ is
        | inr (inl below) ↦ absurd (never items a b d apart below hb e)
        | inr (inr above) ↦ absurd (never items b a d apart above ha (sym e))
      ]

one_column : (x y : ColumnDef) → x.name ≡ y.name → same_column x y ≡ true
one_column x y e = (text_eq_decides x.name y.name).1 e

one_index : (x y : IndexDef) → x.name ≡ y.name → same_index x y ≡ true
one_index x y e = (text_eq_decides x.name y.name).1 e

one_table : (x y : TableDef) → x.name ≡ y.name → same_table x y ≡ true
one_table x y e = (text_eq_decides x.name y.name).1 e

-- ---- in a schema and a table nothing stands twice

-- no unique has the name of a table, or that of one before it
not_of_table : (tables : Tables) (a v : ℕ) → IsSchema tables → a < length tables.shown → v < length tables.uniques → (table_in tables.shown a).name ≢ (unique_in tables.uniques v).name
not_of_table tables a v schema ha hv = ((schema.uniques v hv).free.of_tables a no_table ha).itself

not_of_unique : (tables : Tables) (u v : ℕ) → IsSchema tables → u < v → v < length tables.uniques → (unique_in tables.uniques u).name ≢ (unique_in tables.uniques v).name
not_of_unique tables u v schema lt hv e =
    let count = length-take v tables.uniques in
    let inside : u < length (take v tables.uniques) = omega arith in
    (schema.uniques v hv).free.of_uniques u no_unique inside (ap (λ (x : UniqueDef). x.name) (get_or-take v tables.uniques u no_unique lt) ∙ e)

pub names_apart : (tables : Tables) (a b : ℕ) → IsSchema tables → IsTableNo tables a → IsTableNo tables b →
    (table_at tables a).name ≡ (table_at tables b).name → a ≡ b
names_apart tables a b schema ha hb e =
    elim (shown_or_hidden tables a ha) [
      | inl x ↦ elim (shown_or_hidden tables b hb) [
        | inl y ↦ one_place same_table (λ (t : TableDef). t.name) one_table tables.shown a b no_table schema.shown.apart x.within y.within (sym (name_is x.table) ∙ e ∙ name_is y.table)
        | inr y ↦ absurd (not_of_table tables a y.place schema x.within y.within (sym (name_is x.table) ∙ e ∙ name_is y.table))
      ]
      | inr x ↦ elim (shown_or_hidden tables b hb) [
        | inl y ↦ absurd (not_of_table tables b x.place schema y.within x.within (sym (name_is y.table) ∙ sym e ∙ name_is x.table))
        | inr y ↦ of_uniques x y (sym (name_is x.table) ∙ e ∙ name_is y.table)
      ]
    ]
  where
    name_is : {t u : TableDef} → t ≡ u → t.name ≡ u.name
    name_is same = ap (λ (x : TableDef). x.name) same

    of_uniques : (x : IsHidden tables a) (y : IsHidden tables b) → (unique_in tables.uniques x.place).name ≡ (unique_in tables.uniques y.place).name → a ≡ b
    of_uniques x y same =
        elim (cases_order x.place y.place) [
          | inl is ↦ omega (arith, x.number_is, y.number_is)
          | inr (inl below) ↦ absurd (not_of_unique tables x.place y.place schema below y.within same)
          | inr (inr above) ↦ absurd (not_of_unique tables y.place x.place schema above x.within (sym same))
        ]

pub columns_apart : (table : TableDef) (a b : ℕ) (d : ColumnDef) → IsTable table → a < length table.columns → b < length table.columns →
    (get_or table.columns a d).name ≡ (get_or table.columns b d).name → a ≡ b
columns_apart table a b d rules ha hb e = one_place same_column (λ (c : ColumnDef). c.name) one_column table.columns a b d rules.apart ha hb e

pub indexes_apart : (table : TableDef) (a b : ℕ) (d : IndexDef) → IsTable table → a < length table.indexes → b < length table.indexes →
    (get_or table.indexes a d).name ≡ (get_or table.indexes b d).name → a ≡ b
indexes_apart table a b d rules ha hb e = one_place same_index (λ (i : IndexDef). i.name) one_index table.indexes a b d rules.indexes_apart ha hb e

pub places_apart : (most columns : ℕ) (places : List ℕ) (a b d : ℕ) → ArePlaces most columns places → a < length places → b < length places →
    get_or places a d ≡ get_or places b d → a ≡ b
places_apart most columns places a b d rules ha hb e = one_place nat_eq (λ (p : ℕ). p) eq-eqb places a b d rules.apart ha hb e

-- ---- what stands twice is a fault

pub columns_twice : (table : TableDef) (a b : ℕ) (d : ColumnDef) → a < b → b < length table.columns →
    (get_or table.columns a d).name ≡ (get_or table.columns b d).name → ¬ IsTable table
columns_twice table a b d lt within e rules = never same_column (λ (c : ColumnDef). c.name) one_column table.columns a b d rules.apart lt within e

pub indexes_twice : (table : TableDef) (a b : ℕ) (d : IndexDef) → a < b → b < length table.indexes →
    (get_or table.indexes a d).name ≡ (get_or table.indexes b d).name → ¬ IsTable table
indexes_twice table a b d lt within e rules = never same_index (λ (i : IndexDef). i.name) one_index table.indexes a b d rules.indexes_apart lt within e

pub key_twice : (table : TableDef) (a b d : ℕ) → a < b → b < length table.key → get_or table.key a d ≡ get_or table.key b d → ¬ IsTable table
key_twice table a b d lt within e rules = never nat_eq (λ (p : ℕ). p) eq-eqb table.key a b d rules.rows.key.apart lt within e

pub index_places_twice : (table : TableDef) (k a b d : ℕ) (i : IndexDef) → k < length table.indexes → a < b → b < length (get_or table.indexes k i).columns →
    get_or (get_or table.indexes k i).columns a d ≡ get_or (get_or table.indexes k i).columns b d → ¬ IsTable table
index_places_twice table k a b d i there lt within e rules =
    never nat_eq (λ (p : ℕ). p) eq-eqb (get_or table.indexes k i).columns a b d (rules.indexes k i there).places.apart lt within e

pub bad_table : (tables : Tables) (number : ℕ) → length tables.shown ≤ MAX_TABLES → number < length tables.shown → ¬ IsTable (table_in tables.shown number) →
    (first : ℕ) × (first ≤ number) × IsSchemaFault tables (fault.BadTable first)
bad_table tables number few within broken = by (position is_bad_table tables.shown) refl
  where
    by : (o : Option ℕ) → position is_bad_table tables.shown ≡ o → (first : ℕ) × (first ≤ number) × IsSchemaFault tables (fault.BadTable first)
    by None none = absurd (broken (all_good tables.shown none number no_table within))
    by (Some first) is =
        let found = found_at is_bad_table tables.shown first is in
        elim (cases_lt number first) [
          | inl before ↦ absurd (broken (good_kept (table_in tables.shown number) (found.2 number no_table before)))
          | inr upto ↦ (first, upto, (few, first_bad tables.shown first is))
        ]

pub tables_twice : (tables : Tables) (a b : ℕ) → length tables.shown ≤ MAX_TABLES → All IsTable tables.shown → a < b → b < length tables.shown →
    (table_in tables.shown a).name ≡ (table_in tables.shown b).name → (table : TableDef) × IsSchemaFault tables (fault.Twice table.name)
tables_twice tables a b few good lt within e = by (first_repeat same_table tables.shown) refl
  where
    by : (o : Option TableDef) → first_repeat same_table tables.shown ≡ o → (table : TableDef) × IsSchemaFault tables (fault.Twice table.name)
    by None none = absurd (never same_table (λ (t : TableDef). t.name) one_table tables.shown a b no_table (λ i j d. are_apart same_table tables.shown i j d none) lt within e)
    by (Some table) is = (table, (few, good, (table, is_first_repeat same_table tables.shown table is, refl)))

pub bad_unique : (tables : Tables) (place : ℕ) → AreTables tables.shown → place < length tables.uniques → ¬ IsUniqueAt tables place →
    (first : ℕ) × (first ≤ place) × IsSchemaFault tables (fault.BadUnique first)
bad_unique tables place are within broken = by (first_bad_unique tables.shown tables.uniques) refl
  where
    by : (o : Option ℕ) → first_bad_unique tables.shown tables.uniques ≡ o → (first : ℕ) × (first ≤ place) × IsSchemaFault tables (fault.BadUnique first)
    by None none = absurd (broken (all_unique tables none place within))
    by (Some first) is =
        let r = first_bad_unique_is tables first is in
        elim (cases_lt place first) [
          | inl before ↦ absurd (broken (r.first place before))
          | inr upto ↦ (first, upto, (are, r))
        ]
