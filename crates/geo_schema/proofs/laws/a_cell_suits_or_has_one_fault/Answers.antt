use Rattle.geo_schema.proofs.OneFault.{cell_or_fault, cell_no_fault, one_cell_fault}
use Rattle.geo_schema.proofs.laws.a_cell_suits_or_has_one_fault.Goals as goal

pub returns-clause-either : goal.returns-clause-either
returns-clause-either c = cell_or_fault

pub returns-clause-suits : goal.returns-clause-suits
returns-clause-suits c = cell_no_fault

pub returns-clause-one : goal.returns-clause-one
returns-clause-one c = one_cell_fault
