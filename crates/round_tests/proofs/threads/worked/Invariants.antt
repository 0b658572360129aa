use Rattle.merge_round.specs.Seats.{round_of, IsWorkerOf}
use Rattle.round_tests.proofs.threads.worked.Given as goal

-- between two calls the seat is one of the round
abbrev pub invariant-loop : goal.invariant-loop
invariant-loop l = IsWorkerOf (round_of l.round) l.seat

abbrev pub invariant-loop-2 : goal.invariant-loop-2
invariant-loop-2 l = IsWorkerOf (round_of l.round) l.seat
