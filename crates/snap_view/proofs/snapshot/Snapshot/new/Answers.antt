use Rattle.snap_view.specs.laws.Histories.{of_journal}
use Rattle.snap_view.proofs.snapshot.Snapshot.new.Goals as goal

pub returns-clause-journal : goal.returns-clause-journal
returns-clause-journal c journal history =
    of_journal journal _ history (record { order = c.keeps_order.ensures; from = c.requires.from; upto = c.requires.upto })
