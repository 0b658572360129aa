use Rattle.std.proofs.Common.{◌≡◌, All, rules, length, sym, subst, take_at}
use Rattle.merge_round.specs.Seats.{round_of, IsWorkerOf}
use Rattle.round_tests.proofs.playing.played.Goals as goal

-- the vector holds what the play left in its slice
pub ended-end-requires-clause-seats : goal.ended-end-requires-clause-seats
ended-end-requires-clause-seats c =
    let whole : length c.add_play-told.new.seats ≡ c.in_ok-round.seats.len = search rules in
    subst (All (IsWorkerOf (round_of c.in_ok-round.round))) (sym (take_at c.add_play-told.new.seats _ _ whole)) c.add_play-told.ensures.seats
