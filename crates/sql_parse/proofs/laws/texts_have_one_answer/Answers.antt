-- A text has one answer.
use Rattle.geo_base.specs.laws.Answers.{one_answer}
use Rattle.sql_parse.proofs.TextRefusals.{text_tells}
use Rattle.sql_parse.proofs.laws.texts_have_one_answer.Goals as goal

pub returns : goal.returns
returns c = λ text. one_answer _ _ _ _ (text_tells text) (tt {0})
