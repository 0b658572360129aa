use Rattle.epoch_inbox.specs.laws.Held.{whole_ordered}
use Rattle.epoch_inbox.proofs.laws.whole_epochs_are_in_order.Goals as goal

pub returns : goal.returns
returns c = whole_ordered
