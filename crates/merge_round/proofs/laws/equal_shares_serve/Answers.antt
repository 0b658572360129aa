use Rattle.merge_round.proofs.Whole.{placed_seat, seat_between, each_seat}
use Rattle.merge_round.proofs.laws.equal_shares_serve.Goals as goal

pub returns-clause-placed : goal.returns-clause-placed
returns-clause-placed c = placed_seat

pub returns-clause-between : goal.returns-clause-between
returns-clause-between c = seat_between

pub returns-clause-each : goal.returns-clause-each
returns-clause-each c = each_seat
