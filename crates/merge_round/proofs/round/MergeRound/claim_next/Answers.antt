use Rattle.claim_rule.specs.Seats.{view_of}
use Rattle.merge_round.specs.Seats.{round_of}
use Rattle.merge_round.proofs.Working.{makes_claims}
use Rattle.merge_round.proofs.round.MergeRound.claim_next.Goals as goal

pub returns-in-Some-clause-claims : goal.returns-in-Some-clause-claims
returns-in-Some-clause-claims g c =
    makes_claims (round_of c.args.self.now) c.args.seat.now _ (view_of c.draw_claim.new.seat) c.in-Some.number c.requires.seat c.if-seat.false c.in-Some.ensures.draw c.claim.ensures.view
