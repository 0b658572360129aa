-- What was parsed is printed and parsed again.
use Rattle.sql_ast.specs.Printing.{printed}
use Rattle.sql_parse.proofs.PrintedTexts.{read_back}
use Rattle.sql_parse.proofs.TextRefusals.{texts_spelled}
use Rattle.sql_parse.proofs.laws.printed_statements_are_read_back.Goals as goal

pub returns : goal.returns
returns c = λ text statement is. (texts_spelled (printed statement) statement).0 (read_back text statement ((texts_spelled text statement).1 is))
