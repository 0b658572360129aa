use Rattle.write_set.specs.laws.Isolating.{is_isolated}
use Rattle.write_set.proofs.laws.journals_are_isolated.Goals as goal

pub returns : goal.returns
returns c = is_isolated
