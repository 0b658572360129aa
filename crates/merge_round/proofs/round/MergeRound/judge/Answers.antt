use Rattle.merge_round.specs.Seats.{round_of}
use Rattle.merge_round.proofs.Deciding.{entry_changed}
use Rattle.merge_round.proofs.round.MergeRound.judge.Goals as goal

pub returns-in-Some-clause-verdict : goal.returns-in-Some-clause-verdict
returns-in-Some-clause-verdict g c =
    let m = c.args.self.now in
    entry_changed (round_of m) m.held.claims c.args.number c.entry-entry.result.now c.entry-entry.ensures.is c.in-Some.row c.in-Some.last c.in-Some.ensures

pub judge_unchanged-requires-clause-entry : goal.judge_unchanged-requires-clause-entry
judge_unchanged-requires-clause-entry g c =
    let m = c.args.self.now in
    c.entry-entry.ensures.is
