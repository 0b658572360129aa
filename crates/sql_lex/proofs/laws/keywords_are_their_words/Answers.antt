use Rattle.sql_lex.specs.laws.Keywords.{keyword_of_is}
use Rattle.sql_lex.proofs.laws.keywords_are_their_words.Goals as goal

pub returns : goal.returns
returns c = keyword_of_is
