-- What the grammar says of tokens is what the steps that cut them come to.
use Rattle.geo_base.specs.laws.Answers.{answer_gives}
use Rattle.sql_lex.specs.laws.Cuts.{tokens_tell}
use Rattle.sql_parse.proofs.parsing.cut.Goals as goal

pub returns : goal.returns
returns c = answer_gives _ (λ tokens. tokens.items) _ _ _ _ (tokens_tell c.args.text.now) (tt {0}) _ c.lex.ensures.cut c.lex.ensures.fault
