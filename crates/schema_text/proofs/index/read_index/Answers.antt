use Rattle.schema_text.proofs.Answered.{index_spelled, index_found}
use Rattle.schema_text.proofs.index.read_index.Goals as goal

pub returns-clause-declared : goal.returns-clause-declared
returns-clause-declared c = index_spelled c.args.tables.now c.args.name.now c.args.text.now c.index_of.result c.index_of.ensures.index

pub returns-clause-only : goal.returns-clause-only
returns-clause-only c = index_found c.args.tables.now c.args.name.now c.args.text.now c.index_of.result c.index_of.ensures.index
