use Rattle.epoch_inbox.specs.laws.Held.{taken_gone}
use Rattle.epoch_inbox.proofs.laws.taken_epochs_are_gone.Goals as goal

pub returns : goal.returns
returns c = taken_gone
