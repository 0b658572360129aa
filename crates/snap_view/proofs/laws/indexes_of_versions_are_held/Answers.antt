use Rattle.snap_view.specs.laws.Histories.{holds_indexes}
use Rattle.snap_view.proofs.laws.indexes_of_versions_are_held.Goals as goal

pub returns : goal.returns
returns c = holds_indexes
