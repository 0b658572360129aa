-- Tokens are read by the grammar.
use Rattle.sql_parse.proofs.ExpressionSound.{expression_laws}
use Rattle.sql_parse.proofs.StatementLaws.{statements_spelled, statements_stop, statements_deepen}
use Rattle.sql_parse.proofs.laws.tokens_are_read_by_the_grammar.Goals as goal

pub returns-clause-spelled : goal.returns-clause-spelled
returns-clause-spelled c = statements_spelled expression_laws

pub returns-clause-stuck : goal.returns-clause-stuck
returns-clause-stuck c = statements_stop expression_laws

pub returns-clause-deep : goal.returns-clause-deep
returns-clause-deep c = statements_deepen expression_laws
