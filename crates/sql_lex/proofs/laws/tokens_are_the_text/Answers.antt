use Rattle.sql_lex.specs.laws.Cuts.{tokens_are_cut, cut_is_tokens}
use Rattle.sql_lex.proofs.laws.tokens_are_the_text.Goals as goal

pub returns : goal.returns
returns c = λ text tokens. (tokens_are_cut text tokens, cut_is_tokens text tokens)
