use Rattle.write_set.proofs.Deciding.{verdict_is}
use Rattle.write_set.specs.laws.Placing.{batches_rise, candidates_lawful}
use Rattle.write_set.specs.Journal.{batches_at}
use Rattle.write_set.proofs.laws.verdicts_are_by_the_rules.Goals as goal
use Rattle.std.proofs.Common.{◌+◌}

pub returns-clause-rules : goal.returns-clause-rules
returns-clause-rules c last epoch all = verdict_is last all epoch

pub returns-clause-rising : goal.returns-clause-rising
returns-clause-rising c journal place d lawful among =
    (candidates_lawful 0 (place + 1) (batches_at journal place) d (batches_rise journal place lawful) among).lawful.rising
