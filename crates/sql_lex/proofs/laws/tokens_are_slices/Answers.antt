use Rattle.sql_lex.specs.laws.Slices.{cut_is_slices}
use Rattle.sql_lex.proofs.laws.tokens_are_slices.Goals as goal

pub returns : goal.returns
returns c = cut_is_slices
