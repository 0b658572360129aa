use Rattle.epoch_inbox.specs.laws.Held.{found_there}
use Rattle.epoch_inbox.proofs.laws.found_batches_are_of_their_places.Goals as goal

pub returns : goal.returns
returns c = found_there
