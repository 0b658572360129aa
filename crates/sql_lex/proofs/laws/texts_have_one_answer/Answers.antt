use Rattle.geo_base.specs.laws.Answers.{one_answer}
use Rattle.sql_lex.specs.laws.Cuts.{tokens_tell}
use Rattle.sql_lex.proofs.laws.texts_have_one_answer.Goals as goal

pub returns : goal.returns
returns c = λ text. one_answer _ _ _ _ (tokens_tell text) (tt {0})
