use Rattle.std.proofs.lemmas.Slice.Eq.{strip_suffix_is}
use Rattle.std.proofs.lemmas.Bool.Decides.{Decides-eqb}
use Rattle.world_script.proofs.reading.pieces.before_word.Goals as goal

pub returns : goal.returns
returns c = strip_suffix_is Decides-eqb c.args.text.now c.args.word.now _ c.strip_suffix.ensures.cases
