use Rattle.write_set.proofs.Winners.{beaten_winner}
use Rattle.write_set.proofs.laws.winner_is_unbeaten.Goals as goal

pub returns : goal.returns
returns c last epoch all d row id is =
    let winner = beaten_winner last all epoch d row id is in
    (winner.0, winner.1.0, winner.2, winner.1.1)
