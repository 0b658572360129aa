use Rattle.geo_schema.specs.laws.Fits.{row_fits, fit_rows, is_row_fault, row_fault_is}
use Rattle.geo_schema.proofs.laws.faultless_cells_are_rows.Goals as goal

pub returns-clause-none : goal.returns-clause-none
returns-clause-none c = λ table cells. (row_fits table cells, fit_rows table cells)

pub returns-clause-some : goal.returns-clause-some
returns-clause-some c = λ table cells why. (is_row_fault table cells why, row_fault_is table cells why)
