use Rattle.sql_bind.proofs.Rows.{one_table, two_tables}
use Rattle.sql_bind.proofs.laws.rows_have_the_types_of_columns.Goals as goal

pub returns-clause-rows : goal.returns-clause-rows
returns-clause-rows c = one_table

pub returns-clause-pairs : goal.returns-clause-pairs
returns-clause-pairs c = two_tables
