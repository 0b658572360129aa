use Rattle.epoch_inbox.specs.laws.Rising.{dropped_gone}
use Rattle.epoch_inbox.proofs.laws.dropped_batches_are_gone.Goals as goal

pub returns : goal.returns
returns c = dropped_gone
