use Rattle.set_codec.specs.laws.Batches.{batch_spellings}
use Rattle.set_codec.proofs.laws.one_spelling_a_format.Goals as goal

pub returns : goal.returns
returns c = batch_spellings
