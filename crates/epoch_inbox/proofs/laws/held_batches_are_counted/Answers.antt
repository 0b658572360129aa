use Rattle.epoch_inbox.specs.laws.Held.{held_counted}
use Rattle.epoch_inbox.proofs.laws.held_batches_are_counted.Goals as goal

pub returns : goal.returns
returns c = held_counted
