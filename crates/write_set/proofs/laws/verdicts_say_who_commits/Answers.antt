use Rattle.write_set.specs.laws.Committing.{verdicts_commit}
use Rattle.write_set.proofs.laws.verdicts_say_who_commits.Goals as goal

pub returns : goal.returns
returns c = verdicts_commit
