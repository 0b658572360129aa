use Rattle.region_core.specs.laws.Rounds.{rounds_give}
use Rattle.region_core.proofs.laws.rounds_give_outcomes.Goals as goal

pub returns : goal.returns
returns c = rounds_give
