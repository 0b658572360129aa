use Rattle.merge_round.specs.laws.Judging.{judges_alike}
use Rattle.merge_round.proofs.laws.serving_changes_judge_alike.Goals as goal

pub returns : goal.returns
returns c = judges_alike
