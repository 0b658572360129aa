-- Where no fault is found, tables keep their rules, and uniques have their columns.
use Rattle.std.proofs.Common.{◌≡◌, ℕ, Option, Some, None, IfSome, Bor, sym, List, map, subst}
use Rattle.std.specs.List.{All, slice_get}
use Rattle.std.specs.Option.{option_copied}
use Rattle.std.proofs.lemmas.List.{get_or_default}
use Rattle.geo_schema.specs.declared.table.TableDef.{TableDef}
use Rattle.geo_schema.specs.declared.unique.UniqueDef.{UniqueDef}
use Rattle.geo_schema.specs.Schemas.{Tables, IsSchema, all_of, hidden_tables}
use Rattle.geo_schema.specs.Tables.{TakesRows, IsTable}
use Rattle.geo_schema.specs.Uniques.{HasColumns, no_unique, hidden_table}
use Rattle.geo_schema.specs.inner.Schemas.{schema_fault}
use Rattle.geo_schema.specs.laws.Numbers.{hidden_got}
use Rattle.geo_schema.specs.laws.Schemas.{is_schema}

pub rules_kept : (shown : List TableDef) (uniques : List UniqueDef) → schema_fault (all_of shown uniques) ≡ None → All IsTable shown
rules_kept shown uniques h = (is_schema (all_of shown uniques) h).shown.rules

pub columns_kept : (shown : List TableDef) (uniques : List UniqueDef) → schema_fault (all_of shown uniques) ≡ None → All (HasColumns shown) uniques
columns_kept shown uniques h k d within =
    subst (HasColumns shown) (get_or_default uniques k no_unique d within) ((is_schema (all_of shown uniques) h).uniques k within).columns

pub schema_kept : (shown a : List TableDef) (uniques b : List UniqueDef) → schema_fault (all_of a b) ≡ None → a ≡ shown → b ≡ uniques → IsSchema (all_of shown uniques)
schema_kept shown a uniques b h first second =
    subst (λ (x : List TableDef). IsSchema (all_of x uniques)) first (subst (λ (y : List UniqueDef). IsSchema (all_of a y)) second (is_schema (all_of a b) h))

pub hidden_kept : (shown a : List TableDef) (uniques b : List UniqueDef) (all : List TableDef) → all ≡ map (hidden_table a) b → a ≡ shown → b ≡ uniques → all ≡ hidden_tables (all_of shown uniques)
hidden_kept shown a uniques b all h first second =
    subst (λ (x : List TableDef). all ≡ hidden_tables (all_of x uniques)) first (subst (λ (y : List UniqueDef). all ≡ hidden_tables (all_of a y)) second h)

pub hidden_rows : (tables : Tables) (place : ℕ) (found : Option (Bor TableDef)) → IsSchema tables → option_copied found ≡ slice_get (hidden_tables tables) place → IfSome found (λ table. TakesRows table.now)
hidden_rows tables place None schema is = tt
hidden_rows tables place (Some table) schema is = hidden_got tables place table.now schema (sym is)
