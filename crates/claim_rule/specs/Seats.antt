-- A table and its seats, as a caller sees them.
use Rattle.std.specs.Prelude.{◌≡◌, ℕ, ◌+◌, ◌<◌, ◌≤◌, false, Option, Some, None, All, Contains, length}
use Rattle.claim_rule.specs.declared.view.Draws.{Draws}
use Rattle.claim_rule.specs.declared.view.ClaimView.{ClaimView}
use Rattle.claim_rule.specs.declared.table.ClaimTable.{ClaimTable}
use Rattle.claim_rule.specs.declared.seat.ClaimSeat.{ClaimSeat}
use Rattle.claim_rule.specs.Plan.{Pieces, piece_of, IsPlan}
use Rattle.claim_rule.specs.Views.{times, new_view, claim_drawn, judge_drawn}

-- what a seat knows
abbrev pub view_of : ClaimSeat → ClaimView
view_of seat = seat.seat.me.0

-- how many rows a table has
abbrev pub rows_of : ClaimTable → ℕ
rows_of table = table.rows

-- for how many workers a table is made
abbrev pub workers_of : ClaimTable → ℕ
workers_of table = table.workers

-- the seat is one of this table, knows a plan of the table's rows and pieces, and has a share
pub record IsSeatOf (table : ClaimTable) (seat : ClaimSeat) : Type 0 where
  pub same : seat.seat.table_id ≡ table.table.shared.table_id
  pub planned : IsPlan (view_of seat).plan table.rows table.pieces
  pub opened : (view_of seat).closed ≡ false
  pub some : 0 < (view_of seat).shares

-- what a draw tells, by what it answers: the number that it gave is below n, the seat had not drawn it, and had drawn fewer
-- than n; or it is not below n
abbrev pub DrawTells : ℕ → Draws → ℕ → Option ℕ → Type 0
DrawTells n before found (Some x) = (x < n) × (times x before.numbers ≡ 0) × (length before.numbers < n) × (x ≡ found)
DrawTells n before found None = n ≤ found

-- one draw of a counter: the number that it gave, the view that it leaves, and what it tells
pub record IsDraw (counter : ClaimView → Draws) (after : Option ℕ → ℕ → ClaimView → ClaimView) (old new : ClaimView) (result : Option ℕ) : Type 0 where
  pub found : ℕ
  pub leaves : new ≡ after result found old
  pub tells : DrawTells (length old.plan) (counter old) found result

-- a draw of a claim piece
abbrev pub IsClaimDraw : ClaimView → ClaimView → Option ℕ → Type 0
IsClaimDraw = IsDraw (λ v. v.claiming) claim_drawn

-- a draw of a judging piece
abbrev pub IsJudgeDraw : ClaimView → ClaimView → Option ℕ → Type 0
IsJudgeDraw = IsDraw (λ v. v.judging) judge_drawn

-- a seat can claim the row with the word, once or again, where the plan has the pair for a number that it has drawn and not finished
pub record CanClaim (v : ClaimView) (row word : ℕ) : Type 0 where
  pub piece : ℕ
  pub pending : 0 < times piece v.pending
  pub planned : Contains (piece_of v.plan piece) (row, word)

-- the seat has drawn the piece, not finished it, and made all of its claims
pub record IsClaimed (v : ClaimView) (piece : ℕ) : Type 0 where
  pub pending : 0 < times piece v.pending
  pub made : All (Contains v.claims) (piece_of v.plan piece)

-- no number stands twice among those that were drawn
pub record IsOnce (v : ClaimView) : Type 0 where
  pub claiming : (x : ℕ) → times x v.claiming.numbers ≤ 1
  pub judging : (x : ℕ) → times x v.judging.numbers ≤ 1

-- the seat has the shares of all workers, so that no other seat of the table has drawn, claimed or finished anything
abbrev pub HasAllShares : ClaimTable → ClaimView → Type 0
HasAllShares table v = v.shares ≡ workers_of table

-- each number below n was drawn, and once, if a draw came too late
abbrev pub HasEach : ℕ → Draws → Type 0
HasEach n draws = 0 < length draws.late → (x : ℕ) → x < n → times x draws.numbers ≡ 1

-- the seat drew each piece from a counter of which a draw came too late
pub record HasAllNumbers (v : ClaimView) : Type 0 where
  pub claiming : HasEach (length v.plan) v.claiming
  pub judging : HasEach (length v.plan) v.judging

-- no number was given to both
pub record DrewApart (v w : ClaimView) : Type 0 where
  pub claiming : (x : ℕ) → 0 < times x v.claiming.numbers → times x w.claiming.numbers ≡ 0
  pub judging : (x : ℕ) → 0 < times x v.judging.numbers → times x w.judging.numbers ≡ 0

-- a seat that knows the plan, has one share, and has done nothing
pub record IsNewSeatOf (table : ClaimTable) (plan : Pieces) (seat : ClaimSeat) : Type 0 where
  pub seated : IsSeatOf table seat
  pub view : view_of seat ≡ new_view plan 1 false

-- a seat can give away some of its shares, where it keeps one, and as many as its draws that came too late
pub record CanGive (v : ClaimView) (shares : ℕ) : Type 0 where
  pub some : 0 < shares
  pub less : shares < v.shares
  pub claiming : length v.claiming.late + shares ≤ v.shares
  pub judging : length v.judging.late + shares ≤ v.shares
