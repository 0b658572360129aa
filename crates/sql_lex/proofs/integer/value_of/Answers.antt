use Rattle.std.proofs.Common.{◌∙◌}
use Rattle.sql_lex.proofs.Values.{parsed_value}
use Rattle.sql_lex.proofs.integer.value_of.Goals as goal

pub returns : goal.returns
returns c = c.ok.ensures.value ∙ parsed_value c.args.digits.now c.parse.result c.requires.some c.requires.digits c.parse.ensures.value.0
