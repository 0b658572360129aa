-- The row of a pair of the plan is one of the table's.
use Rattle.std.proofs.Common.{ℕ, zero, suc, ◌<◌, [], ◌∷◌}
use Rattle.std.specs.Prelude.{All}
use Rattle.std.proofs.lemmas.List.Elements.{All-contains, All-nil, All-head, All-tail}
use Rattle.claim_rule.specs.Plan.{Pieces, piece_of}
use Rattle.claim_rule.specs.declared.table.ClaimTable.{ClaimTable}
use Rattle.claim_rule.specs.declared.seat.ClaimSeat.{ClaimSeat}
use Rattle.claim_rule.specs.Seats.{view_of, IsSeatOf, CanClaim}

all_of_piece : (P : ℕ × ℕ → Type 0) (plan : Pieces) (x : ℕ) → All (All P) plan → All P (piece_of plan x)
all_of_piece P [] x all = All-nil P
all_of_piece P (p ∷ ps) zero all = All-head (All P) p ps all
all_of_piece P (p ∷ ps) (suc x) all = all_of_piece P ps x (All-tail (All P) p ps all)

pub pair_within : (table : ClaimTable) (seat : ClaimSeat) (row word : ℕ) → IsSeatOf table seat → CanClaim (view_of seat) row word → row < table.rows
pair_within table seat row word of can =
    All-contains (λ (pair : ℕ × ℕ). pair.0 < table.rows) (piece_of (view_of seat).plan can.piece) (row, word) (all_of_piece (λ (pair : ℕ × ℕ). pair.0 < table.rows) (view_of seat).plan can.piece of.planned.within) can.planned
