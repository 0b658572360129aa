use Rattle.claim_rule.specs.Seats.{view_of}
use Rattle.claim_rule.proofs.Trials.{claimed}
use Rattle.claim_rule.proofs.tests.claim_piece.Goals as goal

pub finish-requires-clause-claimed : goal.finish-requires-clause-claimed
finish-requires-clause-claimed c = claimed (view_of c.args.seat.now) (view_of c.claim_pairs.new.seat) c.args.piece c.requires.plays.planned c.requires.work.pending c.claim_pairs.ensures.view
