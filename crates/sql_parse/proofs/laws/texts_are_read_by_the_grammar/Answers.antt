-- Texts are read by the grammar.
use Rattle.sql_parse.proofs.TextRefusals.{texts_spelled, texts_refused}
use Rattle.sql_parse.proofs.laws.texts_are_read_by_the_grammar.Goals as goal

pub returns-clause-spelled : goal.returns-clause-spelled
returns-clause-spelled c = texts_spelled

pub returns-clause-refused : goal.returns-clause-refused
returns-clause-refused c = texts_refused
