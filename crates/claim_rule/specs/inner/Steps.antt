-- Inner: what each step on a word tells its seat. The word found is the one before the step.
use Rattle.std.specs.Prelude.{◌≡◌, ℕ, ◌-◌, ◌^◌, ◌<◌, ◌≤◌, true, false, [], nat_lt, if◌then◌else◌, Option, Some, None, All, length}
use Rattle.atomic_table.specs.Table.{Me, Step}
use Rattle.claim_rule.specs.declared.view.Draws.{Draws}
use Rattle.claim_rule.specs.declared.view.ClaimView.{ClaimView}
use Rattle.claim_rule.specs.Plan.{Pieces, final_of}
use Rattle.claim_rule.specs.Views.{times, new_view, claim_drawn, row_claimed, piece_finished, done_seen, judge_drawn}
use Rattle.claim_rule.specs.Seats.{IsOnce, HasAllNumbers}

-- a seat's view, and the slots that it holds, of which there are none
abbrev pub Seated : Type 0
Seated = Me (Unit {0}) ClaimView

-- what a draw gives that finds this number of n
abbrev pub drawn_at : ℕ → ℕ → Option ℕ
drawn_at found n = if nat_lt found n then Some found else None

-- a draw: the seat lacked what it gives, and had drawn fewer numbers than there are pieces
pub record DrawsFrom (draws : ClaimView → Draws) (after : Option ℕ → ℕ → ClaimView → ClaimView) (me : Seated) (found : ℕ) (now : Seated) : Type 0 where
  pub leaves : now ≡ (after (drawn_at found (length me.0.plan)) found me.0, me.1)
  pub new : found < length me.0.plan → times found (draws me.0).numbers ≡ 0
  pub room : found < length me.0.plan → length (draws me.0).numbers < length me.0.plan

abbrev pub DrawsClaim : Step (Unit {0}) → Seated → ℕ → Seated → Type 0
DrawsClaim _ = DrawsFrom (λ v. v.claiming) claim_drawn

abbrev pub DrawsJudge : Step (Unit {0}) → Seated → ℕ → Seated → Type 0
DrawsJudge _ = DrawsFrom (λ v. v.judging) judge_drawn

-- the header of row r is word r + 3
abbrev pub ClaimsRow : Step (Unit {0}) → Seated → ℕ → Seated → Type 0
ClaimsRow step me found now = now ≡ (row_claimed (step.word - 3) step.first me.0, me.1)

abbrev pub Finishes : ℕ → Step (Unit {0}) → Seated → ℕ → Seated → Type 0
Finishes piece step me found now = now ≡ (piece_finished piece me.0, me.1)

-- a seat has all shares where they are as many as the workers
pub record SeesDone (workers : ℕ) (step : Step (Unit {0})) (me : Seated) (found : ℕ) (now : Seated) : Type 0 where
  pub leaves : now ≡ (done_seen found me.0, me.1)
  pub within : found ≤ length me.0.plan
  pub small : found < 2 ^ 32
  pub still : me.0.stable ≡ true → found ≡ length me.0.plan
  pub risen : All (λ seen. seen ≤ found) me.0.looks
  pub last : me.0.shares ≡ workers → 0 < length me.0.claiming.late → me.0.pending ≡ [] → found ≡ length me.0.plan

abbrev pub ReadsHeader : Step (Unit {0}) → Seated → ℕ → Seated → Type 0
ReadsHeader step me found now = (now ≡ me) × (found ≡ final_of me.0.plan (step.word - 3))

pub record Settles (workers : ℕ) (step : Step (Unit {0})) (me : Seated) (found : ℕ) (now : Seated) : Type 0 where
  pub leaves : now ≡ me
  pub joined : All (λ p. p ≡ me.0.plan) me.0.joined
  pub once : IsOnce me.0
  pub all : me.0.shares ≡ workers → HasAllNumbers me.0

abbrev pub Opens : Pieces → ℕ → Step (Unit {0}) → Seated → ℕ → Seated → Type 0
Opens plan shares step me found now = now ≡ (new_view plan shares false, me.1)
