use Rattle.sql_exec.specs.laws.Fitting.{fits_as_row, refused_as_row}
use Rattle.sql_exec.proofs.laws.fitting_is_the_rule_of_rows.Goals as goal

pub returns-clause-rows : goal.returns-clause-rows
returns-clause-rows c = fits_as_row

pub returns-clause-faults : goal.returns-clause-faults
returns-clause-faults c table cells e typed = refused_as_row table cells typed e
