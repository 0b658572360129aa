use Rattle.std.proofs.Common.{sym, subst}
use Rattle.write_set.specs.Journal.{epochs_of}
use Rattle.write_set.specs.Merge.{last_change}
use Rattle.version_store.specs.History.{TellsChange}
use Rattle.version_store.specs.laws.Growing.{change_told}
use Rattle.version_store.proofs.versions.Versions.last_change_at.Goals as goal

pub returns-clause-change : goal.returns-clause-change
returns-clause-change c journal history from upto =
    subst (TellsChange c.args.self.now.horizon (last_change (epochs_of journal c.args.epoch) c.args.row.now)) (sym c.change_of.ensures)
    (change_told journal c.args.self.now c.args.row.now c.args.epoch history from upto)
