use Rattle.own_log.specs.laws.Logs.{one_log}
use Rattle.own_log.proofs.laws.entries_have_one_answer.Goals as goal

pub returns : goal.returns
returns c = one_log
