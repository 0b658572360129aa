use Rattle.geo_schema.proofs.OneFault.{row_or_fault, row_no_fault, one_row_fault}
use Rattle.geo_schema.proofs.laws.cells_are_a_row_or_have_one_fault.Goals as goal

pub returns-clause-either : goal.returns-clause-either
returns-clause-either c = row_or_fault

pub returns-clause-row : goal.returns-clause-row
returns-clause-row c = row_no_fault

pub returns-clause-one : goal.returns-clause-one
returns-clause-one c = one_row_fault
