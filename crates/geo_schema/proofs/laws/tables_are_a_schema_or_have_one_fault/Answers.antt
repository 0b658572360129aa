use Rattle.geo_schema.proofs.OneFault.{schema_or_fault, schema_no_fault, one_schema_fault}
use Rattle.geo_schema.proofs.laws.tables_are_a_schema_or_have_one_fault.Goals as goal

pub returns-clause-either : goal.returns-clause-either
returns-clause-either c = schema_or_fault

pub returns-clause-schema : goal.returns-clause-schema
returns-clause-schema c = schema_no_fault

pub returns-clause-one : goal.returns-clause-one
returns-clause-one c = one_schema_fault
