use Rattle.std.proofs.lemmas.List.Elements.{All-pop}
use Rattle.merge_round.specs.Seats.{round_of, IsWorkerOf}
use Rattle.round_tests.proofs.playing.ended.Goals as goal

-- without the last seat they are seats of the round still
pub gather-requires-in-a : goal.gather-requires-in-a
gather-requires-in-a c = (All-pop (IsWorkerOf (round_of c.args.round)) c.args.seats.items c.pop.new.self.items c.pop.result c.pop.ensures.items c.requires.seats).0
