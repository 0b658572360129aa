use Rattle.std.proofs.Common.{◌≡◌, ◌+◌, length, vec_len}
use Rattle.std.specs.Prelude.{All}
use Rattle.claim_rule.specs.Seats.{IsNewSeatOf}
use Rattle.merge_round.specs.Rounds.{Round, plan_of}
use Rattle.merge_round.specs.Seats.{IsNewWorkerOf}
use Rattle.merge_round.proofs.making.seat_workers.Given as goal

-- the seats so far have their room, and the others have done nothing
abbrev pub invariant-loop-seat : goal.invariant-loop-seat
invariant-loop-seat l =
    (length l.claims.items + length l.seats.items ≡ length l.fn.claims.items)
    × ((round : Round) → length round.all ≡ l.candidates → All (IsNewSeatOf round.table (plan_of round)) l.fn.claims.items →
    All (IsNewSeatOf round.table (plan_of round)) l.claims.items × All (IsNewWorkerOf round) l.seats.items)

abbrev pub decreases-loop-seat : goal.decreases-loop-seat
decreases-loop-seat l = vec_len l.claims
