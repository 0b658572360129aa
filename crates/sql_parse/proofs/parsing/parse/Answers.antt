-- What is answered is the text's statement or its fault.
use Rattle.geo_base.specs.laws.Answers.{answer_found, answer_only, answer_faulty, answer_refused}
use Rattle.sql_parse.proofs.TextRefusals.{text_tells}
use Rattle.sql_parse.proofs.parsing.parse.Goals as goal

pub returns-clause-spelled : goal.returns-clause-spelled
returns-clause-spelled c = answer_found _ (λ s. s) _ _ _ _ (text_tells c.args.text.now) (tt {0}) _ c.read_text.ensures

pub returns-clause-only : goal.returns-clause-only
returns-clause-only c = answer_only _ (λ s. s) _ _ _ _ (text_tells c.args.text.now) (tt {0}) _ c.read_text.ensures

pub returns-clause-fault : goal.returns-clause-fault
returns-clause-fault c = answer_faulty _ (λ s. s) _ _ _ _ (text_tells c.args.text.now) (tt {0}) _ c.read_text.ensures

pub returns-clause-refused : goal.returns-clause-refused
returns-clause-refused c = answer_refused _ (λ s. s) _ _ _ _ (text_tells c.args.text.now) (tt {0}) _ c.read_text.ensures
