use Rattle.geo_schema.specs.laws.Schemas.{is_schema, no_fault, is_schema_fault, schema_fault_is}
use Rattle.geo_schema.proofs.laws.faultless_tables_are_schemas.Goals as goal

pub returns-clause-none : goal.returns-clause-none
returns-clause-none c = λ tables. (is_schema tables, no_fault tables)

pub returns-clause-some : goal.returns-clause-some
returns-clause-some c = λ tables why. (is_schema_fault tables why, schema_fault_is tables why)
