use Rattle.row_codec.proofs.Beginnings.{cell_alone, cells_alone}
use Rattle.row_codec.proofs.laws.no_spelling_begins_another.Goals as goal

pub returns-clause-cell : goal.returns-clause-cell
returns-clause-cell c = cell_alone

pub returns-clause-cells : goal.returns-clause-cells
returns-clause-cells c = cells_alone
