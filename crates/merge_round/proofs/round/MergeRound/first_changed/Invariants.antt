use Rattle.std.proofs.Common.{◌≡◌, drop}
use Rattle.merge_round.specs.Rounds.{rows_in}
use Rattle.merge_round.specs.Seats.{round_of}
use Rattle.merge_round.specs.inner.Entries.{first_above, last_at}
use Rattle.merge_round.proofs.round.MergeRound.first_changed.Given as goal

-- the first one isn't among the rows so far
abbrev pub invariant-loop-number : goal.invariant-loop-number
invariant-loop-number g l =
    let round = round_of l.self in
    let value = last_at round.last (rows_in round.all) in
    first_above value l.entry.start (drop l.number-index l.entry.rows) ≡ first_above value l.entry.start l.entry.rows
