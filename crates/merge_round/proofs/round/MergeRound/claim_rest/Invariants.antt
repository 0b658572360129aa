use Rattle.std.proofs.Common.{◌≡◌, ◌-◌, length}
use Rattle.merge_round.specs.Seats.{round_of, work_of, IsWorkerOf}
use Rattle.merge_round.proofs.round.MergeRound.claim_rest.Given as goal

-- the seat keeps its shares
abbrev pub invariant-loop : goal.invariant-loop
invariant-loop g l = IsWorkerOf (round_of l.self) l.seat × ((work_of l.seat).shares ≡ (work_of l.fn.seat).shares)

abbrev pub decreases-loop : goal.decreases-loop
decreases-loop g l = length (round_of l.self).all - length (work_of l.seat).claiming.numbers
