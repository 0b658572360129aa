use Rattle.std.proofs.Common.{ap, ◌+◌}
use Rattle.geo_base.specs.declared.numbers.CandId.{CandId}
use Rattle.write_set.specs.Journal.{batches_at}
use Rattle.write_set.specs.laws.Placing.{batches_rise, candidates_same}
use Rattle.write_set.proofs.laws.names_are_of_one_candidate.Goals as goal

pub returns : goal.returns
returns c journal place a b lawful first second same =
    candidates_same 0 (place + 1) (batches_at journal place) a b (batches_rise journal place lawful) first second
    (ap (λ (name : CandId). name.region) same) (ap (λ (name : CandId). name.csn) same)
