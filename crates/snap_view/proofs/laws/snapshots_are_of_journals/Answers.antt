use Rattle.snap_view.specs.laws.Histories.{of_journal, is_read, rows_rise, stays}
use Rattle.snap_view.proofs.laws.snapshots_are_of_journals.Goals as goal

pub returns-clause-rows : goal.returns-clause-rows
returns-clause-rows c = of_journal

pub returns-clause-read : goal.returns-clause-read
returns-clause-read c = is_read

pub returns-clause-rises : goal.returns-clause-rises
returns-clause-rises c = rows_rise

pub returns-clause-stays : goal.returns-clause-stays
returns-clause-stays c = stays
