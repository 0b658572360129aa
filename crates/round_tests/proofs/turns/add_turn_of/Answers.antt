use Rattle.std.proofs.lemmas.List.Elements.{All-set}
use Rattle.merge_round.specs.Seats.{round_of, IsWorkerOf}
use Rattle.round_tests.proofs.turns.add_turn_of.Goals as goal

pub returns-clause-seats : goal.returns-clause-seats
returns-clause-seats c = All-set (IsWorkerOf (round_of c.args.round.now)) c.args.seats.now c.args.place c.add_turn.new.seat c.add_turn.ensures.seat c.requires.seats
