use Rattle.merge_round.specs.Seats.{round_of}
use Rattle.merge_round.proofs.Whole.{whole_gathers}
use Rattle.merge_round.proofs.round.MergeRound.gathered.Goals as goal

pub returns-in-Some : goal.returns-in-Some
returns-in-Some g c =
    whole_gathers (round_of c.args.self.now) c.args.seats.items c.in-Some.seat c.in-Some.ensures.seat c.in-Some.ensures.whole c.in-Some.ensures.settled
