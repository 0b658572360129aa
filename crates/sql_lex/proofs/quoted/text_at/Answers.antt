use Rattle.std.proofs.Common.{arith}
use Rattle.sql_lex.proofs.Boundaries.{some_byte, after_one}
use Rattle.sql_lex.proofs.quoted.text_at.Goals as goal

pub split_at-requires : goal.split_at-requires
split_at-requires c = after_one c.args.text.now c.utf8.text (some_byte c.args.text.now c.requires) (omega (arith, c.requires))
