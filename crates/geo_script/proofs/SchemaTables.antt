-- That tables without a fault are a schema.
use Rattle.std.proofs.Common.{◌≡◌, true, false, [], List, Option, Some, None, refl}
use Rattle.std.specs.Prelude.{is_none}
use Rattle.geo_schema.specs.declared.fault.SchemaFault.{SchemaFault}
use Rattle.geo_schema.specs.declared.table.TableDef.{TableDef}
use Rattle.geo_schema.specs.Schemas.{IsSchema, IsSchemaFault, shown_only}
use Rattle.geo_schema.specs.inner.Schemas.{schema_fault}
use Rattle.geo_schema.specs.laws.Schemas.{is_schema, no_fault, schema_fault_is}

-- no tables are a schema
pub no_tables_yet : (tables : List TableDef) → tables ≡ [] → IsSchema (shown_only tables)
unfolding schema_fault
no_tables_yet tables none = rw none (is_schema (shown_only []) refl)

none_is : {A : Type 0} (o : Option A) → is_none o ≡ true → o ≡ None
none_is None is = refl
none_is (Some x) is = cc

-- tables in which no fault is found are a schema
pub faultless_kept : (tables : List TableDef) → is_none (schema_fault (shown_only tables)) ≡ true → IsSchema (shown_only tables)
faultless_kept tables is = is_schema (shown_only tables) (none_is (schema_fault (shown_only tables)) is)

-- in a schema no fault is found
pub schema_faultless : (tables : List TableDef) → IsSchema (shown_only tables) → is_none (schema_fault (shown_only tables)) ≡ true
schema_faultless tables schema = rw (no_fault (shown_only tables) schema) refl

-- a fault that the tables have is found
pub fault_found : (tables : List TableDef) (why : SchemaFault) → IsSchemaFault (shown_only tables) why → is_none (schema_fault (shown_only tables)) ≡ false
fault_found tables why faulty = rw (schema_fault_is (shown_only tables) why faulty) refl

-- a schema has no fault
pub schema_or_fault : (tables : List TableDef) (why : SchemaFault) → IsSchema (shown_only tables) → IsSchemaFault (shown_only tables) why → ⊥
schema_or_fault tables why schema faulty =
    let none : schema_fault (shown_only tables) ≡ None = no_fault (shown_only tables) schema in
    let some : schema_fault (shown_only tables) ≡ Some why = schema_fault_is (shown_only tables) why faulty in
    cc
