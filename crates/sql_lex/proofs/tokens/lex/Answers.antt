use Rattle.geo_base.specs.laws.Answers.{answer_found, answer_only, answer_faulty, answer_refused}
use Rattle.sql_lex.specs.laws.Cuts.{tokens_tell}
use Rattle.sql_lex.specs.laws.Slices.{answer_slices}
use Rattle.sql_lex.proofs.tokens.lex.Goals as goal

pub returns-clause-cut : goal.returns-clause-cut
returns-clause-cut c = answer_found _ (λ tokens. tokens.items) _ _ _ _ (tokens_tell c.args.text.now) (tt {0}) _ c.cut_text.ensures

pub returns-clause-only : goal.returns-clause-only
returns-clause-only c = answer_only _ (λ tokens. tokens.items) _ _ _ _ (tokens_tell c.args.text.now) (tt {0}) _ c.cut_text.ensures

pub returns-clause-fault : goal.returns-clause-fault
returns-clause-fault c = answer_faulty _ (λ tokens. tokens.items) _ _ _ _ (tokens_tell c.args.text.now) (tt {0}) _ c.cut_text.ensures

pub returns-clause-refused : goal.returns-clause-refused
returns-clause-refused c = answer_refused _ (λ tokens. tokens.items) _ _ _ _ (tokens_tell c.args.text.now) (tt {0}) _ c.cut_text.ensures

pub returns-clause-slices : goal.returns-clause-slices
returns-clause-slices c = answer_slices (λ tokens. tokens.items) c.args.text.now c.cut_text.result c.cut_text.ensures
