-- Inner: a table as it is made, before it has a plan.
use Rattle.std.specs.Prelude.{◌≡◌, ℕ, ◌+◌, ◌<◌, false, List, All, length}
use Rattle.claim_rule.specs.declared.table.ClaimTable.{ClaimTable}
use Rattle.claim_rule.specs.declared.seat.ClaimSeat.{ClaimSeat}
use Rattle.claim_rule.specs.Plan.{Pieces}
use Rattle.claim_rule.specs.Views.{closed_view, new_view}
use Rattle.claim_rule.specs.Seats.{view_of, IsSeatOf, IsNewSeatOf}

pub record IsMade (table : ClaimTable) (rows pieces workers : ℕ) : Type 0 where
  pub rows_are : table.rows ≡ rows
  pub pieces_are : table.pieces ≡ pieces
  pub workers_are : table.workers ≡ workers

pub record IsClosedSeatOf (table : ClaimTable) (seat : ClaimSeat) : Type 0 where
  pub same : seat.seat.table_id ≡ table.table.shared.table_id
  pub closed : view_of seat ≡ closed_view

-- while seats are dealt: the first seat has the shares of the seats that are still to come
pub record IsSharing (table : ClaimTable) (first : ClaimSeat) (plan : Pieces) (workers left : ℕ) (seats : List ClaimSeat) : Type 0 where
  pub some : 0 < left
  pub seated : IsSeatOf table first
  pub view : view_of first ≡ new_view plan left false
  pub count : length seats + left ≡ workers
  pub dealt : All (IsNewSeatOf table plan) seats
