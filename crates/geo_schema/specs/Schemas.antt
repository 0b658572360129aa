-- Which tables and uniques are a schema, why others are none, and what is looked up in one.
use Rattle.std.specs.Prelude.{◌≡◌, ℕ, ◌<◌, ◌≤◌, ◌-◌, nat_lt, if◌then◌else◌, Option, List, [], length, map, take, position}
use Rattle.std.specs.List.{All, slice_get}
use Rattle.std.specs.Option.{IsSome, unwrap_or}
use Rattle.geo_base.specs.declared.limits.TheConstants.{MAX_TABLES}
use Rattle.geo_base.specs.Order.{text_eq}
use Rattle.geo_schema.specs.declared.fault.SchemaFault.{SchemaFault}
use Rattle.geo_schema.specs.declared.fault.SchemaFault.TheVariants as fault
use Rattle.geo_schema.specs.declared.limits.TheConstants.{FIRST_HIDDEN}
use Rattle.geo_schema.specs.declared.table.TableDef.{TableDef}
use Rattle.geo_schema.specs.declared.unique.UniqueDef.{UniqueDef}
use Rattle.geo_schema.specs.Repeats.{AreApart, IsFirstRepeat}
use Rattle.geo_schema.specs.Tables.{IsTable, same_table, no_table, table_in}
use Rattle.geo_schema.specs.Uniques.{IsUnique, unique_in, hidden_table}

-- the tables of a database: those that it shows, and the uniques, each of which is the ground of a hidden one
pub record Tables : Type 0 where
  pub shown : List TableDef
  pub uniques : List UniqueDef

-- these tables and uniques together
abbrev pub all_of : List TableDef → List UniqueDef → Tables
all_of shown uniques = record { shown = shown; uniques = uniques }

-- these tables alone, none of which is hidden
abbrev pub shown_only : List TableDef → Tables
shown_only tables = all_of tables []

-- the hidden tables, in the order of the uniques
abbrev pub hidden_tables : Tables → List TableDef
hidden_tables tables = map (hidden_table tables.shown) tables.uniques

-- ---- which are a schema

-- at most 64 tables, each by the rules of tables, of which no two have one name
pub record AreTables (tables : List TableDef) : Type 0 where
  pub few : length tables ≤ MAX_TABLES
  pub rules : All IsTable tables
  pub apart : AreApart same_table tables

-- the unique at the place keeps the rules of uniques, behind those that stand before it
abbrev pub IsUniqueAt : Tables → ℕ → Type 0
IsUniqueAt tables place = IsUnique tables.shown (take place tables.uniques) (unique_in tables.uniques place)

-- the tables that are shown are by the rules, and so is each unique
pub record IsSchema (tables : Tables) : Type 0 where
  pub shown : AreTables tables.shown
  pub uniques : (place : ℕ) → place < length tables.uniques → IsUniqueAt tables place

-- ---- why others are none

-- the number is that of the first table that breaks a rule
pub record IsFirstBad (tables : List TableDef) (number : ℕ) : Type 0 where
  pub within : number < length tables
  pub bad : ¬ IsTable (table_in tables number)
  pub first : All IsTable (take number tables)

-- the place is that of the first unique that breaks a rule
pub record IsFirstBadUnique (tables : Tables) (place : ℕ) : Type 0 where
  pub within : place < length tables.uniques
  pub bad : ¬ IsUniqueAt tables place
  pub first : (before : ℕ) → before < place → IsUniqueAt tables before

-- why the tables are no schema: too many of them; else the first that breaks a rule; else the name of the
-- first whose name an earlier one has; else the first unique that breaks a rule
abbrev pub IsSchemaFault : Tables → SchemaFault → Type 0
IsSchemaFault tables fault.TooManyTables = MAX_TABLES < length tables.shown
IsSchemaFault tables (fault.BadTable number) = (length tables.shown ≤ MAX_TABLES) × IsFirstBad tables.shown number
IsSchemaFault tables (fault.Twice name) =
    (length tables.shown ≤ MAX_TABLES) × All IsTable tables.shown × ((table : TableDef) × IsFirstRepeat same_table tables.shown table × (table.name ≡ name))
IsSchemaFault tables (fault.BadUnique place) = AreTables tables.shown × IsFirstBadUnique tables place
IsSchemaFault tables fault.NoMemory = ⊥

-- ---- what is looked up

-- the table with a number, if there is one: those that are shown have the numbers from 0 on, and the hidden ones
-- those from 64 on
unfoldable pub table_numbered : Tables → ℕ → Option TableDef
table_numbered tables number =
    if nat_lt number FIRST_HIDDEN then slice_get tables.shown number else slice_get (hidden_tables tables) (number - FIRST_HIDDEN)

-- there is a table with the number
abbrev pub IsTableNo : Tables → ℕ → Type 0
IsTableNo tables number = IsSome (table_numbered tables number)

-- the table with a number that there is
abbrev pub table_at : Tables → ℕ → TableDef
table_at tables number = unwrap_or (table_numbered tables number) no_table

-- the number of the table with a name, of those that are shown
abbrev pub number_of : List TableDef → List ℕ → Option ℕ
number_of tables name = position (λ table. text_eq table.name name) tables
