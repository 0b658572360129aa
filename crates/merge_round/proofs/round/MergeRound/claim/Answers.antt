use Rattle.claim_rule.specs.Seats.{view_of}
use Rattle.merge_round.specs.Rounds.{plan_of}
use Rattle.merge_round.specs.Seats.{round_of}
use Rattle.merge_round.proofs.Working.{claimed_all}
use Rattle.merge_round.proofs.round.MergeRound.claim.Goals as goal

pub finish-requires-clause-claimed : goal.finish-requires-clause-claimed
finish-requires-clause-claimed g c =
    claimed_all (view_of c.args.seat.now) (view_of c.claim_all.new.seat) (plan_of (round_of c.args.self.now)) c.args.number c.claim_all.ensures.view c.requires.planned c.requires.drawn
