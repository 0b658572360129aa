-- Inner: the plan that the tests play, and what they know of a seat.
use Rattle.std.specs.Prelude.{◌≡◌, ℕ, ◌<◌, true, [], ◌∷◌, ◌++◌, length}
use Rattle.claim_rule.specs.declared.table.ClaimTable.{ClaimTable}
use Rattle.claim_rule.specs.declared.seat.ClaimSeat.{ClaimSeat}
use Rattle.claim_rule.specs.declared.view.ClaimView.{ClaimView}
use Rattle.claim_rule.specs.Plan.{Pieces, piece_of}
use Rattle.claim_rule.specs.Views.{times}
use Rattle.claim_rule.specs.Seats.{view_of, rows_of, IsSeatOf}

-- three pieces on two of three rows
abbrev pub three_pieces : Pieces
three_pieces = ((0, 10) ∷ (1, 7) ∷ []) ∷ ((0, 12) ∷ []) ∷ ((1, 5) ∷ (0, 3) ∷ []) ∷ []

-- a seat of a table of this plan
pub record Plays (table : ClaimTable) (seat : ClaimSeat) : Type 0 where
  pub seated : IsSeatOf table seat
  pub planned : (view_of seat).plan ≡ three_pieces
  pub rows : rows_of table ≡ 3

-- the seat has drawn the piece and not finished it
pub record IsAtWork (seat : ClaimSeat) (piece : ℕ) : Type 0 where
  pub within : piece < 3
  pub pending : 0 < times piece (view_of seat).pending

-- the view once all claims of the piece are made
abbrev pub pairs_claimed : ℕ → ClaimView → ClaimView
pairs_claimed piece v = record v { claims = v.claims ++ piece_of three_pieces piece }

-- before the first of its draws that comes too late: of claim pieces, and of judging pieces
pub record IsClaiming (table : ClaimTable) (seat : ClaimSeat) : Type 0 where
  pub plays : Plays table seat
  pub claims : length (view_of seat).claiming.late ≡ 0
  pub judges : length (view_of seat).judging.late ≡ 0
  pub shares : (view_of seat).shares ≡ 1

pub record IsJudging (table : ClaimTable) (seat : ClaimSeat) : Type 0 where
  pub plays : Plays table seat
  pub flag : (view_of seat).stable ≡ true
  pub judges : length (view_of seat).judging.late ≡ 0
  pub shares : (view_of seat).shares ≡ 1

-- draws that gave a number leave the shares, and how many came too late
pub record IsAsLate (old new : ClaimSeat) : Type 0 where
  pub claims : (view_of new).claiming.late ≡ (view_of old).claiming.late
  pub judging : (view_of new).judging ≡ (view_of old).judging
  pub shares : (view_of new).shares ≡ (view_of old).shares
