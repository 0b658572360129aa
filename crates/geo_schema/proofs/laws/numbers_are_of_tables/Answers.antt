use Rattle.geo_schema.specs.laws.Numbers.{number_said, said_number, shown_at, hidden_at, takes_rows}
use Rattle.geo_schema.proofs.laws.numbers_are_of_tables.Goals as goal

pub returns-clause-numbers : goal.returns-clause-numbers
returns-clause-numbers c = λ tables number schema. (number_said tables number, said_number tables number schema)

pub returns-clause-shown : goal.returns-clause-shown
returns-clause-shown c = shown_at

pub returns-clause-hidden : goal.returns-clause-hidden
returns-clause-hidden c = hidden_at

pub returns-clause-rows : goal.returns-clause-rows
returns-clause-rows c = takes_rows
