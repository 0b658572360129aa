use Rattle.schema_text.proofs.Answered.{table_spelled, table_found}
use Rattle.schema_text.proofs.table.read_table.Goals as goal

pub returns-clause-declared : goal.returns-clause-declared
returns-clause-declared c = table_spelled c.args.text.now c.declared_table.result c.declared_table.ensures

pub returns-clause-only : goal.returns-clause-only
returns-clause-only c = table_found c.args.text.now c.declared_table.result c.declared_table.ensures
