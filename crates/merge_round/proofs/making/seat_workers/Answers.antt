use Rattle.merge_round.proofs.Seating.{next_seat}
use Rattle.merge_round.proofs.making.seat_workers.Goals as goal

pub loop-seat-preserved : goal.loop-seat-preserved
loop-seat-preserved c = next_seat c.args.claims.items c.loop-seat.claims.items c.pop.new.self.items c.in-Some.seat c.in_ok-seat_worker.field-0 c.loop-seat.seats.items c.push.new.self.items c.args.candidates c.loop-seat.invariant.0 c.loop-seat.invariant.1 c.in-Some.ensures.items c.in_ok-push.ensures.items c.in_ok-seat_worker.ensures
