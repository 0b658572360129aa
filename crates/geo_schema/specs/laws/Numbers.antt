-- Laws: which numbers are those of tables, what the tables are, and that each has what rows need and a name of its own.
use Rattle.std.proofs.Common.{◌≡◌, ◌⊎◌, ℕ, ◌+◌, ◌-◌, ◌<◌, ◌≤◌, Option, Some, None, List, length, get_or, inl, inr, refl, sym, ap, ◌∙◌, subst, arith}
use Rattle.std.specs.List.{slice_get}
use Rattle.std.specs.Option.{IsSome, unwrap_or}
use Rattle.std.proofs.lemmas.Bool.{cases_lt, lt-ltb, le-ltb}
use Rattle.std.proofs.lemmas.List.{length-map, get_or-map}
use Rattle.std.proofs.lemmas.Option.{slice_get-get_or, slice_get_past, slice_get_within, get_or_from_slice_get, unwrap_or-slice_get}
use Rattle.geo_base.specs.declared.limits.TheConstants.{MAX_TABLES}
use Rattle.geo_schema.specs.declared.limits.TheConstants.{FIRST_HIDDEN}
use Rattle.geo_schema.specs.declared.table.TableDef.{TableDef}
use Rattle.geo_schema.specs.Schemas.{Tables, IsSchema, IsTableNo, hidden_tables, table_numbered, table_at}
use Rattle.geo_schema.specs.Tables.{TakesRows, IsTable, no_table, table_in}
use Rattle.geo_schema.specs.Uniques.{no_unique, unique_in, hidden_table}
use Rattle.geo_schema.specs.laws.Hidden.{hidden_takes_rows}

-- ---- items at places

module _ {X : Type 0} where
  within_some : (items : List X) (k : ℕ) → IsSome (slice_get items k) → k < length items
  within_some items k some =
      elim (cases_lt k (length items)) [
        | inl within ↦ within
        | inr past ↦ absurd (no_some (slice_get items k) (slice_get_past items k past) some)
      ]
    where
      no_some : (o : Option X) → o ≡ None → IsSome o → ⊥
      no_some None none some = absurd cc
      no_some (Some x) none some = absurd cc

  some_within : (items : List X) (k : ℕ) (d : X) → k < length items → IsSome (slice_get items k)
  some_within items k d within = rw (slice_get-get_or items k d within) refl

-- ---- numbers of tables that are shown, and of hidden ones

-- below 64 there are those that are shown
pub shown_with : (tables : Tables) (number : ℕ) → number < FIRST_HIDDEN → table_numbered tables number ≡ slice_get tables.shown number
unfolding table_numbered
shown_with tables number low = rw (lt-ltb number FIRST_HIDDEN low) refl

-- from 64 on there are the hidden ones
pub hidden_with : (tables : Tables) (number : ℕ) → FIRST_HIDDEN ≤ number → table_numbered tables number ≡ slice_get (hidden_tables tables) (number - FIRST_HIDDEN)
unfolding table_numbered
hidden_with tables number high = rw (le-ltb number FIRST_HIDDEN high) refl

pub from_shown : (tables : Tables) (number : ℕ) (found : Option TableDef) → number < FIRST_HIDDEN → found ≡ slice_get tables.shown number → found ≡ table_numbered tables number
from_shown tables number found low is = is ∙ sym (shown_with tables number low)

pub from_hidden : (tables : Tables) (number : ℕ) (found : Option TableDef) → FIRST_HIDDEN ≤ number → found ≡ slice_get (hidden_tables tables) (number - FIRST_HIDDEN) → found ≡ table_numbered tables number
from_hidden tables number found high is = is ∙ sym (hidden_with tables number high)

-- a number of a table that is shown, and the table
pub record IsShown (tables : Tables) (number : ℕ) : Type 0 where
  pub within : number < length tables.shown
  pub table : table_at tables number ≡ table_in tables.shown number

-- a number of a hidden table, and the table
pub record IsHidden (tables : Tables) (number : ℕ) : Type 0 where
  pub place : ℕ
  pub within : place < length tables.uniques
  pub number_is : number ≡ FIRST_HIDDEN + place
  pub table : table_at tables number ≡ hidden_table tables.shown (unique_in tables.uniques place)

pub shown_or_hidden : (tables : Tables) (number : ℕ) → IsTableNo tables number → IsShown tables number ⊎ IsHidden tables number
shown_or_hidden tables number some =
    elim (cases_lt number FIRST_HIDDEN) [
      | inl low ↦
          let is = shown_with tables number low in
          inl record {
            within = within_some tables.shown number (subst IsSome is some);
            table = ap (λ o. unwrap_or o no_table) is ∙ unwrap_or-slice_get tables.shown number no_table;
          }
      | inr high ↦
          let is = hidden_with tables number high in
          let count = length-map tables.uniques (hidden_table tables.shown) in
          let inside : number - FIRST_HIDDEN < length (hidden_tables tables) = within_some (hidden_tables tables) (number - FIRST_HIDDEN) (subst IsSome is some) in
          let within : number - FIRST_HIDDEN < length tables.uniques = omega arith in
          inr record {
            place = number - FIRST_HIDDEN;
            within = within;
            number_is = omega arith;
            table =
                ap (λ o. unwrap_or o no_table) is
                ∙ unwrap_or-slice_get (hidden_tables tables) (number - FIRST_HIDDEN) no_table
                ∙ get_or-map (hidden_table tables.shown) tables.uniques (number - FIRST_HIDDEN) no_unique no_table within;
          }
    ]

-- each table that is shown has its number
pub shown_is : (tables : Tables) (number : ℕ) → IsSchema tables → number < length tables.shown → IsTableNo tables number
shown_is tables number schema within =
    let few : length tables.shown ≤ MAX_TABLES = schema.shown.few in
    let low : number < FIRST_HIDDEN = omega arith in
    rw (shown_with tables number low) (some_within tables.shown number no_table within)

-- so has each hidden one
pub hidden_is : (tables : Tables) (place : ℕ) → place < length tables.uniques → IsTableNo tables (FIRST_HIDDEN + place)
hidden_is tables place within =
    let count = length-map tables.uniques (hidden_table tables.shown) in
    let high : FIRST_HIDDEN ≤ FIRST_HIDDEN + place = omega arith in
    let inside : FIRST_HIDDEN + place - FIRST_HIDDEN < length (hidden_tables tables) = omega arith in
    rw (hidden_with tables (FIRST_HIDDEN + place) high) (some_within (hidden_tables tables) (FIRST_HIDDEN + place - FIRST_HIDDEN) no_table inside)

-- a table that is shown is the one at its place
pub shown_at : (tables : Tables) (number : ℕ) → IsSchema tables → number < length tables.shown → table_at tables number ≡ table_in tables.shown number
shown_at tables number schema within =
    let few : length tables.shown ≤ MAX_TABLES = schema.shown.few in
    let low : number < FIRST_HIDDEN = omega arith in
    ap (λ o. unwrap_or o no_table) (shown_with tables number low) ∙ unwrap_or-slice_get tables.shown number no_table

-- a hidden one is that of the unique at its place
pub hidden_at : (tables : Tables) (place : ℕ) → place < length tables.uniques → table_at tables (FIRST_HIDDEN + place) ≡ hidden_table tables.shown (unique_in tables.uniques place)
hidden_at tables place within =
    let high : FIRST_HIDDEN ≤ FIRST_HIDDEN + place = omega arith in
    let here : FIRST_HIDDEN + place - FIRST_HIDDEN ≡ place = omega arith in
    ap (λ o. unwrap_or o no_table) (hidden_with tables (FIRST_HIDDEN + place) high)
    ∙ unwrap_or-slice_get (hidden_tables tables) (FIRST_HIDDEN + place - FIRST_HIDDEN) no_table
    ∙ ap (λ (n : ℕ). get_or (hidden_tables tables) n no_table) here
    ∙ get_or-map (hidden_table tables.shown) tables.uniques place no_unique no_table within

-- the numbers of tables are those of the ones that are shown, and of the hidden ones
pub number_said : (tables : Tables) (number : ℕ) → IsTableNo tables number →
    (number < length tables.shown) ⊎ ((place : ℕ) × (place < length tables.uniques) × (number ≡ FIRST_HIDDEN + place))
number_said tables number some =
    elim (shown_or_hidden tables number some) [
      | inl is ↦ inl is.within
      | inr is ↦ inr (is.place, is.within, is.number_is)
    ]

pub said_number : (tables : Tables) (number : ℕ) → IsSchema tables →
    (number < length tables.shown) ⊎ ((place : ℕ) × (place < length tables.uniques) × (number ≡ FIRST_HIDDEN + place)) → IsTableNo tables number
said_number tables number schema (inl within) = shown_is tables number schema within
said_number tables number schema (inr (place, within, is)) = subst (IsTableNo tables) (sym is) (hidden_is tables place within)

-- ---- what rows need

-- each table of a schema has what rows need
pub takes_rows : (tables : Tables) (number : ℕ) → IsSchema tables → IsTableNo tables number → TakesRows (table_at tables number)
takes_rows tables number schema some =
    elim (shown_or_hidden tables number some) [
      | inl is ↦ subst TakesRows (sym is.table) (schema.shown.rules number no_table is.within).rows
      | inr is ↦ subst TakesRows (sym is.table) (hidden_takes_rows tables.shown (unique_in tables.uniques is.place) schema.shown.rules (schema.uniques is.place is.within).columns)
    ]

-- the same of a table that was looked up
pub rows_got : (tables : Tables) (number : ℕ) (table : TableDef) → IsSchema tables → table_numbered tables number ≡ Some table → TakesRows table
rows_got tables number table schema is =
    subst TakesRows (ap (λ o. unwrap_or o no_table) is) (takes_rows tables number schema (rw is refl))

-- a table that is shown keeps the rules of tables
pub shown_got : (tables : Tables) (place : ℕ) (table : TableDef) → IsSchema tables → slice_get tables.shown place ≡ Some table → IsTable table
shown_got tables place table schema there =
    subst IsTable (get_or_from_slice_get tables.shown place table no_table there) (schema.shown.rules place no_table (slice_get_within tables.shown place table there))

-- a hidden one has what rows need
pub hidden_got : (tables : Tables) (place : ℕ) (table : TableDef) → IsSchema tables → slice_get (hidden_tables tables) place ≡ Some table → TakesRows table
hidden_got tables place table schema there =
    let count = length-map tables.uniques (hidden_table tables.shown) in
    let inside : place < length (hidden_tables tables) = slice_get_within (hidden_tables tables) place table there in
    let within : place < length tables.uniques = omega arith in
    let here : get_or (hidden_tables tables) place no_table ≡ table = get_or_from_slice_get (hidden_tables tables) place table no_table there in
    subst TakesRows (sym (get_or-map (hidden_table tables.shown) tables.uniques place no_unique no_table within) ∙ here)
    (hidden_takes_rows tables.shown (unique_in tables.uniques place) schema.shown.rules (schema.uniques place within).columns)

-- one whose number is below 64 keeps the rules of tables
pub rules_got : (tables : Tables) (number : ℕ) (table : TableDef) → IsSchema tables → number < FIRST_HIDDEN → table_numbered tables number ≡ Some table → IsTable table
rules_got tables number table schema low is = shown_got tables number table schema (sym (shown_with tables number low) ∙ is)

-- the table at a number that there is was found
pub table_is : (tables : Tables) (number : ℕ) (table : TableDef) → table_numbered tables number ≡ Some table → table ≡ table_at tables number
table_is tables number table is = sym (ap (λ o. unwrap_or o no_table) is)
