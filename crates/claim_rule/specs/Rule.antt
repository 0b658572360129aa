-- What holds of a table between any two steps, whatever the order of the steps of its seats.
-- The words are the claim counter, the done word, the judge counter, and one header per row. The views are those of
-- all seats that there ever were: a seat that was joined to another leaves the spent view, and one that was dropped its own.
use Rattle.std.specs.Prelude.{◌≡◌, ℕ, ◌+◌, ◌^◌, ◌<◌, ◌≤◌, ◌⊎◌, min, true, false, cond, nat_lt, List, [], ◌∷◌, length, replicate, slice_index, All, Contains, sum_by}
use Rattle.atomic_table.specs.Table.{State}
use Rattle.claim_rule.specs.declared.view.Draws.{Draws}
use Rattle.claim_rule.specs.declared.view.ClaimView.{ClaimView}
use Rattle.claim_rule.specs.declared.limits.TheConstants.{MAX_WORKERS}
use Rattle.claim_rule.specs.declared.size.TableSize.{TableSize}
use Rattle.claim_rule.specs.Plan.{Pieces, piece_of, top, best}
use Rattle.claim_rule.specs.Views.{times, spent_view, closed_view}

-- 1 for a number below n, and else 0
abbrev pub once_below : ℕ → ℕ → ℕ
once_below x n = cond (nat_lt x n) 1 0

-- a seat has drawn the number and finished it
pub record IsFinished (v : ClaimView) (x : ℕ) : Type 0 where
  pub drawn : 0 < times x v.claiming.numbers
  pub over : times x v.pending ≡ 0

-- the plan has the pair for a number that the seat has drawn
abbrev pub IsPlanned : Pieces → ClaimView → ℕ × ℕ → Type 0
IsPlanned plan v pair = (x : ℕ) × (0 < times x v.claiming.numbers) × Contains (piece_of plan x) pair

-- draws of a counter that came too late: they gave no number below n, and there are at most as many as shares
pub record AreLate (n shares : ℕ) (late : List ℕ) : Type 0 where
  pub few : length late ≤ shares
  pub beyond : All (λ x. n ≤ x) late

-- what the rule says of one view, where the done word counts so many pieces
pub record Fits (plan : Pieces) (done : ℕ) (v : ClaimView) : Type 0 where
  -- the table has its plan
  pub opened : v.closed ≡ false
  -- each view has the plan but a spent one, which has nothing, and each that it took in had it
  pub same : 0 < v.shares → v.plan ≡ plan
  pub empty : v.shares ≡ 0 → v ≡ spent_view
  pub joined : All (λ p. p ≡ plan) v.joined
  -- a number that isn't finished is one that the view has drawn
  pub drawn : (x : ℕ) → times x v.pending ≤ times x v.claiming.numbers
  -- all claims of a finished number were made, and each claim is a pair that the plan has for a drawn number
  pub made : (x : ℕ) → IsFinished v x → All (Contains v.claims) (piece_of plan x)
  pub planned : All (IsPlanned plan v) v.claims
  -- no look at the done word gave more than it counts now
  pub looked : All (λ seen. seen ≤ done) v.looks
  -- the flag stands only where all is done, and a number for judging only beside the flag
  pub stable : v.stable ≡ true → done ≡ length plan
  pub judging : v.stable ≡ false → v.judging.numbers ≡ []
  -- the draws of each counter that came too late
  pub late_claiming : AreLate (length plan) v.shares v.claiming.late
  pub late_judging : AreLate (length plan) v.shares v.judging.late

-- the numbers drawn from one counter: they are those below it and below n, each stands once over all views, so many they
-- are, and the counter counts them and the draws that came too late
pub record AreDrawn (counter n : ℕ) (draws : ClaimView → Draws) (views : List ClaimView) : Type 0 where
  pub once : (x : ℕ) → sum_by (λ v. times x (draws v).numbers) views ≡ once_below x (min counter n)
  pub drawn : sum_by (λ v. length (draws v).numbers) views ≡ min counter n
  pub counted : sum_by (λ v. length (draws v).numbers + length (draws v).late) views ≡ counter

-- the rule of a table with a plan
pub record IsRuled (size : TableSize) (plan : Pieces) (claimed done judged : ℕ) (headers : List ℕ) (views : List ClaimView) : Type 0 where
  pub fits : All (Fits plan done) views
  -- the claim counter and the judge counter
  pub claiming : AreDrawn claimed (length plan) (λ v. v.claiming) views
  pub judging : AreDrawn judged (length plan) (λ v. v.judging) views
  -- the done word counts the numbers that are finished
  pub finished : done + sum_by (λ v. length v.pending) views ≡ sum_by (λ v. length v.claiming.numbers) views
  -- each header is the greatest claim on its row over all views, or 0
  pub greatest : (row : ℕ) → row < size.rows → slice_index headers row ≡ top (λ v. best row v.claims) views
  -- the shares are as many as the workers; they are few, and so are the pieces, so that no counter wraps
  pub shares : sum_by (λ v. v.shares) views ≡ size.workers
  pub workers : size.workers ≤ MAX_WORKERS
  pub few : length plan < 2 ^ 32
  pub long : length headers ≡ size.rows

-- the table has no plan yet
pub record IsClosed (size : TableSize) (s : State (Unit {0}) ClaimView) : Type 0 where
  pub words : s.words ≡ 0 ∷ 0 ∷ 0 ∷ replicate size.rows 0
  pub views : s.views ≡ closed_view ∷ []

-- the table has a plan
pub record IsOpen (size : TableSize) (s : State (Unit {0}) ClaimView) : Type 0 where
  pub plan : Pieces
  pub claimed : ℕ
  pub done : ℕ
  pub judged : ℕ
  pub headers : List ℕ
  pub words : s.words ≡ claimed ∷ done ∷ judged ∷ headers
  pub ruled : IsRuled size plan claimed done judged headers s.views

-- the rule: by it each step of a seat is proved
abbrev pub Holds : TableSize → State (Unit {0}) ClaimView → Type 0
Holds size s = IsClosed size s ⊎ IsOpen size s
