use Rattle.row_source.proofs.Names.{one_row}
use Rattle.row_source.proofs.laws.names_are_of_one_row.Goals as goal

pub returns : goal.returns
returns c = one_row
