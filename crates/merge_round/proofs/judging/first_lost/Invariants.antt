use Rattle.std.proofs.Common.{◌≡◌, drop}
use Rattle.claim_rule.specs.Plan.{final_of}
use Rattle.claim_rule.specs.Seats.{view_of, IsSeatOf}
use Rattle.merge_round.specs.inner.Entries.{first_above}
use Rattle.merge_round.proofs.judging.first_lost.Given as goal

-- the first one isn't among the rows so far, and the seat knows what it knew
abbrev pub invariant-loop-row : goal.invariant-loop-row
invariant-loop-row l =
    let value = final_of (view_of l.fn.seat).plan in
    IsSeatOf l.table l.seat × (view_of l.seat ≡ view_of l.fn.seat)
    × (first_above value l.word (drop l.row-index l.rows) ≡ first_above value l.word l.rows)
