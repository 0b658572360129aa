use Rattle.geo_base.specs.laws.Orders.{text_eq_decides, cell_eq_decides, cells_eq_decides, row_eq_decides}
use Rattle.geo_base.proofs.EqualityLaws.{candidate_eq_decides, outcome_eq_decides}
use Rattle.geo_base.proofs.equality.equal_values_are_one.Goals as goal

pub returns-clause-texts : goal.returns-clause-texts
returns-clause-texts c = text_eq_decides

pub returns-clause-cells : goal.returns-clause-cells
returns-clause-cells c = cell_eq_decides

pub returns-clause-lists_of_cells : goal.returns-clause-lists_of_cells
returns-clause-lists_of_cells c = cells_eq_decides

pub returns-clause-rows : goal.returns-clause-rows
returns-clause-rows c = row_eq_decides

pub returns-clause-candidates : goal.returns-clause-candidates
returns-clause-candidates c = candidate_eq_decides

pub returns-clause-outcomes : goal.returns-clause-outcomes
returns-clause-outcomes c = outcome_eq_decides
