use Rattle.set_codec.specs.laws.Lengths.{set_size_is_length, size_is_length}
use Rattle.set_codec.proofs.laws.size_is_length.Goals as goal

pub returns-clause-set : goal.returns-clause-set
returns-clause-set c = set_size_is_length

pub returns-clause-batch : goal.returns-clause-batch
returns-clause-batch c = size_is_length
