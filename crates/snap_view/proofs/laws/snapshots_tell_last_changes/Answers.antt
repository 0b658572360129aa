use Rattle.snap_view.specs.laws.Histories.{tells_change, tells_newest}
use Rattle.snap_view.proofs.laws.snapshots_tell_last_changes.Goals as goal

pub returns-clause-change : goal.returns-clause-change
returns-clause-change c = tells_change

pub returns-clause-newest : goal.returns-clause-newest
returns-clause-newest c = tells_newest
