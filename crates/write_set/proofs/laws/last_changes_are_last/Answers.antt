use Rattle.write_set.proofs.Deciding.{last_change_is}
use Rattle.write_set.proofs.laws.last_changes_are_last.Goals as goal

pub returns : goal.returns
returns c = last_change_is
