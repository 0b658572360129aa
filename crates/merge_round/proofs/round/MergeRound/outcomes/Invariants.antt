use Rattle.std.proofs.Common.{◌≡◌, map, take}
use Rattle.merge_round.specs.Rounds.{outcome_in}
use Rattle.merge_round.specs.Seats.{round_of}
use Rattle.merge_round.proofs.round.MergeRound.outcomes.Given as goal

-- the outcomes so far
abbrev pub invariant-loop-found : goal.invariant-loop-found
invariant-loop-found g l = l.outcomes.items ≡ map (outcome_in (round_of l.self)) (take l.found-index (round_of l.self).all)
