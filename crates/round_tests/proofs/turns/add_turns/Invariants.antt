use Rattle.std.specs.Prelude.{All}
use Rattle.merge_round.specs.Seats.{round_of, IsWorkerOf}
use Rattle.merge_round.specs.Gathers.{AreAllSeats}
use Rattle.round_tests.proofs.turns.add_turns.Given as goal

-- between two turns the seats are of the round, and all that it has
abbrev pub invariant-loop-letter : goal.invariant-loop-letter
invariant-loop-letter l = All (IsWorkerOf (round_of l.round)) l.seats × AreAllSeats (round_of l.round) l.seats
