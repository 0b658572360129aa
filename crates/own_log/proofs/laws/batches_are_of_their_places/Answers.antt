use Rattle.own_log.specs.laws.Logs.{of_log_by_place}
use Rattle.own_log.proofs.laws.batches_are_of_their_places.Goals as goal

pub returns : goal.returns
returns c = of_log_by_place
