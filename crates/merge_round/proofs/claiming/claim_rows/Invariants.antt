use Rattle.std.specs.Prelude.{◌≡◌, ℕ, map, take}
use Rattle.claim_rule.specs.Seats.{view_of, IsSeatOf}
use Rattle.merge_round.specs.inner.Entries.{claims_made}
use Rattle.merge_round.proofs.claiming.claim_rows.Given as goal

-- the claims of the rows so far are made
abbrev pub invariant-loop-row : goal.invariant-loop-row
invariant-loop-row l = IsSeatOf l.table l.seat × (view_of l.seat ≡ claims_made (map (λ (row : ℕ). (row, l.word)) (take l.row-index l.rows)) (view_of l.fn.seat))
