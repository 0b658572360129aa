use Rattle.epoch_inbox.specs.laws.Held.{put_there}
use Rattle.epoch_inbox.proofs.laws.put_batches_are_held.Goals as goal

pub returns : goal.returns
returns c = put_there
