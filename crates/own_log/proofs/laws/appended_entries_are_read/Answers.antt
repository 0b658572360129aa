use Rattle.own_log.specs.laws.Logs.{appended_is_read}
use Rattle.own_log.proofs.laws.appended_entries_are_read.Goals as goal

pub returns : goal.returns
returns c = appended_is_read
