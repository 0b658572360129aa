use Rattle.snap_view.specs.laws.Histories.{same_applied, same_of_journal, same_trimmed}
use Rattle.snap_view.proofs.laws.snapshots_never_change.Goals as goal

pub returns-clause-journal : goal.returns-clause-journal
returns-clause-journal c = same_of_journal

pub returns-clause-applied : goal.returns-clause-applied
returns-clause-applied c = same_applied

pub returns-clause-trimmed : goal.returns-clause-trimmed
returns-clause-trimmed c = same_trimmed
