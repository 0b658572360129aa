use Rattle.std.proofs.Common.{◌≡◌, ◌++◌, List, vec_len}
use Rattle.std.specs.Prelude.{All}
use Rattle.merge_round.specs.declared.seat.WorkerSeat.{WorkerSeat}
use Rattle.merge_round.specs.Seats.{round_of, IsWorkerOf}
use Rattle.merge_round.specs.inner.Gathering.{IsWhole}
use Rattle.merge_round.proofs.round.MergeRound.together.Given as goal

-- the seat is one of the round, and has what the seats did that it took in
abbrev pub invariant-loop-other : goal.invariant-loop-other
invariant-loop-other g l =
    IsWorkerOf (round_of l.self) l.seat × All (IsWorkerOf (round_of l.self)) l.others.items
    × ((taken : List WorkerSeat) × (l.others.items ++ taken ≡ l.fn.seats.items) × IsWhole taken l.seat)

abbrev pub decreases-loop-other : goal.decreases-loop-other
decreases-loop-other g l = vec_len l.others
