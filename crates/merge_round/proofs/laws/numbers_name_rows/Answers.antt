use Rattle.merge_round.proofs.Naming.{row_named, place_numbered, row_of_one}
use Rattle.merge_round.proofs.laws.numbers_name_rows.Goals as goal

pub returns-clause-row : goal.returns-clause-row
returns-clause-row c = row_named

pub returns-clause-number : goal.returns-clause-number
returns-clause-number c = place_numbered

pub returns-clause-known : goal.returns-clause-known
returns-clause-known c = row_of_one
