-- Laws: the fault that is found is the one that tables and uniques have, and none is found exactly where they are a schema.
use Rattle.std.proofs.Common.{◌≡◌, ℕ, ◌<◌, Bool, true, false, if◌then◌else◌, Option, Some, None, List, length, take, get_or, position, refl, sym, ap, subst, arith}
use Rattle.std.specs.Prelude.{nat_le}
use Rattle.std.specs.List.{All}
use Rattle.std.specs.Option.{option_or, option_map}
use Rattle.std.proofs.lemmas.Bool.{both_ways, not-false, not_from_true, not_from_false, false_from_ne_true, leb-true, leb-false, le-leb, lt-leb}
use Rattle.std.proofs.lemmas.List.{get_or-take, length-take}
use Rattle.std.proofs.lemmas.Option.{none-some}
use Rattle.geo_base.specs.declared.limits.TheConstants.{MAX_TABLES}
use Rattle.geo_schema.specs.declared.fault.SchemaFault.{SchemaFault}
use Rattle.geo_schema.specs.declared.fault.SchemaFault.TheVariants as fault
use Rattle.geo_schema.specs.declared.table.TableDef.{TableDef}
use Rattle.geo_schema.specs.Schemas.{Tables, AreTables, IsSchema, IsFirstBad, IsSchemaFault}
use Rattle.geo_schema.specs.Tables.{IsTable, same_table, no_table, table_in}
use Rattle.geo_schema.specs.inner.Repeats.{first_repeat}
use Rattle.geo_schema.specs.inner.Schemas.{schema_fault}
use Rattle.geo_schema.specs.inner.Tables.{is_table, is_bad_table}
use Rattle.geo_schema.specs.inner.Uniques.{first_bad_unique}
use Rattle.geo_schema.specs.laws.Apart.{are_apart, none_repeated, is_first_repeat, first_repeat_is}
use Rattle.geo_schema.specs.laws.Places.{none_passes, none_found, found_at, at_found}
use Rattle.geo_schema.specs.laws.Rules.{table_tells}
use Rattle.geo_schema.specs.laws.Uniques.{all_unique, none_bad_unique, first_bad_unique_is, is_first_bad_unique}

-- ---- the fault that four searches give

abbrev told : Bool → Option ℕ → Option TableDef → Option ℕ → Option SchemaFault
told few bad twice unique =
    if few
    then option_or (option_map fault.BadTable bad) (option_or (option_map (λ table. fault.Twice table.name) twice) (option_map fault.BadUnique unique))
    else Some fault.TooManyTables

abbrev Told : Bool → Option ℕ → Option TableDef → Option ℕ → SchemaFault → Type 0
Told few bad twice unique fault.TooManyTables = few ≡ false
Told few bad twice unique (fault.BadTable number) = (few ≡ true) × (bad ≡ Some number)
Told few bad twice unique (fault.Twice name) = (few ≡ true) × (bad ≡ None) × ((table : TableDef) × (twice ≡ Some table) × (table.name ≡ name))
Told few bad twice unique (fault.BadUnique place) = (few ≡ true) × (bad ≡ None) × (twice ≡ None) × (unique ≡ Some place)
Told few bad twice unique fault.NoMemory = ⊥

same_fault : (a b : SchemaFault) → Some a ≡ Some b → a ≡ b
same_fault a b e = cc

told_is : (few : Bool) (bad : Option ℕ) (twice : Option TableDef) (unique : Option ℕ) (why : SchemaFault) → told few bad twice unique ≡ Some why → Told few bad twice unique why
told_is false bad twice unique why h = subst (Told false bad twice unique) (same_fault fault.TooManyTables why h) refl
told_is true (Some number) twice unique why h = subst (Told true (Some number) twice unique) (same_fault (fault.BadTable number) why h) (refl, refl)
told_is true None (Some table) unique why h = subst (Told true None (Some table) unique) (same_fault (fault.Twice table.name) why h) (refl, refl, (table, refl, refl))
told_is true None None (Some place) why h = subst (Told true None None (Some place)) (same_fault (fault.BadUnique place) why h) (refl, refl, refl, refl)
told_is true None None None why h = absurd (none-some why h)

is_told : (few : Bool) (bad : Option ℕ) (twice : Option TableDef) (unique : Option ℕ) (why : SchemaFault) → Told few bad twice unique why → told few bad twice unique ≡ Some why
is_told few bad twice unique fault.TooManyTables h = rw h refl
is_told few bad twice unique (fault.BadTable number) h = rw (h.0, h.1) refl
is_told few bad twice unique (fault.Twice name) h =
    let (few_, none, (table, is, named)) = h in
    rw (few_, none, is) (ap (λ (n : List ℕ). Some (fault.Twice n)) named)
is_told few bad twice unique (fault.BadUnique place) h = rw (h.0, h.1, h.2, h.3) refl
is_told few bad twice unique fault.NoMemory h = absurd h

told_none : (few : Bool) (bad : Option ℕ) (twice : Option TableDef) (unique : Option ℕ) → told few bad twice unique ≡ None → (few ≡ true) × (bad ≡ None) × (twice ≡ None) × (unique ≡ None)
told_none false bad twice unique h = absurd (none-some fault.TooManyTables (sym h))
told_none true (Some number) twice unique h = absurd (none-some (fault.BadTable number) (sym h))
told_none true None (Some table) unique h = absurd (none-some (fault.Twice table.name) (sym h))
told_none true None None (Some place) h = absurd (none-some (fault.BadUnique place) (sym h))
told_none true None None None h = (refl, refl, refl, refl)

-- ---- the first table that breaks a rule

pub good_kept : (table : TableDef) → is_bad_table table ≡ false → IsTable table
good_kept table h = (table_tells table).0 (not-false (is_table table) h)

kept_good : (table : TableDef) → IsTable table → is_bad_table table ≡ false
kept_good table rules = not_from_true (is_table table) ((table_tells table).1 rules)

bad_broken : (table : TableDef) → is_bad_table table ≡ true → ¬ IsTable table
bad_broken table h rules = both_ways (is_bad_table table) (kept_good table rules) h

broken_bad : (table : TableDef) → ¬ IsTable table → is_bad_table table ≡ true
broken_bad table broken = not_from_false (is_table table) (false_from_ne_true (is_table table) (λ h. broken ((table_tells table).0 h)))

pub all_good : (tables : List TableDef) → position is_bad_table tables ≡ None → All IsTable tables
all_good tables none k d lt = good_kept (get_or tables k d) (none_passes is_bad_table tables k d none lt)

none_bad : (tables : List TableDef) → All IsTable tables → position is_bad_table tables ≡ None
none_bad tables good = none_found is_bad_table tables no_table (λ k lt. kept_good (get_or tables k no_table) (good k no_table lt))

pub first_bad : (tables : List TableDef) (number : ℕ) → position is_bad_table tables ≡ Some number → IsFirstBad tables number
first_bad tables number h =
    let (within, bad, before) = found_at is_bad_table tables number h in
    record {
      within = within;
      bad = bad_broken (table_in tables number) (bad no_table);
      first = λ k d lt.
          let count = length-take number tables in
          let low : k < number = omega arith in
          rw (get_or-take number tables k d low) (good_kept (get_or tables k d) (before k d low));
    }

bad_first : (tables : List TableDef) (number : ℕ) → IsFirstBad tables number → position is_bad_table tables ≡ Some number
bad_first tables number r =
    let count = length-take number tables in
    at_found is_bad_table tables number no_table r.within (broken_bad (table_in tables number) r.bad) (λ k lt.
    let inside : k < length (take number tables) = omega (arith, r.within) in
    kept_good (get_or tables k no_table) (subst IsTable (get_or-take number tables k no_table lt) (r.first k no_table inside)))

-- ---- what the searches say

abbrev few_of : Tables → Bool
few_of tables = nat_le (length tables.shown) MAX_TABLES

abbrev bad_of : Tables → Option ℕ
bad_of tables = position is_bad_table tables.shown

abbrev twice_of : Tables → Option TableDef
twice_of tables = first_repeat same_table tables.shown

abbrev unique_of : Tables → Option ℕ
unique_of tables = first_bad_unique tables.shown tables.uniques

-- nothing is wrong with the tables that are shown
are_tables : (tables : List TableDef) → nat_le (length tables) MAX_TABLES ≡ true → position is_bad_table tables ≡ None → first_repeat same_table tables ≡ None → AreTables tables
are_tables tables few bad twice =
    record { few = leb-true (length tables) MAX_TABLES few; rules = all_good tables bad; apart = λ i j d. are_apart same_table tables i j d twice }

pub is_schema : (tables : Tables) → schema_fault tables ≡ None → IsSchema tables
unfolding schema_fault
is_schema tables h =
    let (few, bad, twice, unique) = told_none (few_of tables) (bad_of tables) (twice_of tables) (unique_of tables) h in
    record { shown = are_tables tables.shown few bad twice; uniques = all_unique tables unique }

pub no_fault : (tables : Tables) → IsSchema tables → schema_fault tables ≡ None
unfolding schema_fault
no_fault tables schema =
    rw (le-leb (length tables.shown) MAX_TABLES schema.shown.few, none_bad tables.shown schema.shown.rules, none_repeated same_table tables.shown schema.shown.apart, none_bad_unique tables schema.uniques) refl

said : (tables : Tables) (why : SchemaFault) → Told (few_of tables) (bad_of tables) (twice_of tables) (unique_of tables) why → IsSchemaFault tables why
said tables fault.TooManyTables h = leb-false (length tables.shown) MAX_TABLES h
said tables (fault.BadTable number) h = (leb-true (length tables.shown) MAX_TABLES h.0, first_bad tables.shown number h.1)
said tables (fault.Twice name) h =
    let (few, none, (table, is, named)) = h in
    (leb-true (length tables.shown) MAX_TABLES few, all_good tables.shown none, (table, is_first_repeat same_table tables.shown table is, named))
said tables (fault.BadUnique place) h = (are_tables tables.shown h.0 h.1 h.2, first_bad_unique_is tables place h.3)
said tables fault.NoMemory h = h

meant : (tables : Tables) (why : SchemaFault) → IsSchemaFault tables why → Told (few_of tables) (bad_of tables) (twice_of tables) (unique_of tables) why
meant tables fault.TooManyTables h = lt-leb (length tables.shown) MAX_TABLES h
meant tables (fault.BadTable number) h = (le-leb (length tables.shown) MAX_TABLES h.0, bad_first tables.shown number h.1)
meant tables (fault.Twice name) h =
    let (few, good, (table, repeat, named)) = h in
    (le-leb (length tables.shown) MAX_TABLES few, none_bad tables.shown good, (table, first_repeat_is same_table tables.shown table repeat, named))
meant tables (fault.BadUnique place) h =
    (le-leb (length tables.shown) MAX_TABLES h.0.few, none_bad tables.shown h.0.rules, none_repeated same_table tables.shown h.0.apart, is_first_bad_unique tables place h.1)
meant tables fault.NoMemory h = h

pub is_schema_fault : (tables : Tables) (why : SchemaFault) → schema_fault tables ≡ Some why → IsSchemaFault tables why
unfolding schema_fault
is_schema_fault tables why h = said tables why (told_is (few_of tables) (bad_of tables) (twice_of tables) (unique_of tables) why h)

pub schema_fault_is : (tables : Tables) (why : SchemaFault) → IsSchemaFault tables why → schema_fault tables ≡ Some why
unfolding schema_fault
schema_fault_is tables why h = is_told (few_of tables) (bad_of tables) (twice_of tables) (unique_of tables) why (meant tables why h)
