-- What a seat of a round has done and holds, and what each call of a seat does.
use Rattle.std.specs.Prelude.{◌≡◌, ◌⊎◌, ℕ, ◌<◌, ◌≤◌, Bool, false, cond, nat_lt, Option, None, Some, List, [], ◌++◌, All, Contains, length, slice_index_or}
use Rattle.claim_rule.specs.declared.view.Draws.{Draws}
use Rattle.claim_rule.specs.declared.view.ClaimView.{ClaimView}
use Rattle.claim_rule.specs.Plan.{piece_of}
use Rattle.claim_rule.specs.Rule.{IsFinished}
use Rattle.claim_rule.specs.Views.{times, no_draws, new_view, draws_after, done_seen}
use Rattle.claim_rule.specs.Seats.{view_of, IsSeatOf, HasAllShares}
use Rattle.merge_round.specs.declared.verdict.Verdict.{Verdict}
use Rattle.merge_round.specs.declared.seat.WorkerSeat.{WorkerSeat}
use Rattle.merge_round.specs.declared.claiming.Claimed.{Claimed}
use Rattle.merge_round.specs.declared.claiming.Claimed.TheVariants as claimed
use Rattle.merge_round.specs.declared.judging.Judgement.{Judgement}
use Rattle.merge_round.specs.declared.judging.Judgement.TheVariants as judgement
use Rattle.write_set.specs.Journal.{candidates_of}
use Rattle.write_set.specs.declared.changes.Changes.{Ghosts}
use Rattle.merge_round.specs.declared.round.MergeRound.{MergeRound}
use Rattle.merge_round.specs.Rounds.{Round, plan_of, verdict_on}

-- the round, as a caller sees it
abbrev pub round_of : {C : Type 0} {known : Ghosts C} → MergeRound C known → Round
round_of {C} {known} m = record { epoch = m.input.epoch; all = candidates_of m.input.batches; last = known.last m.input.before; table = m.table }

-- what the seat has drawn, claimed and seen
abbrev pub work_of : WorkerSeat → ClaimView
work_of seat = view_of seat.claims

-- the verdicts that the seat holds, each in the place of its candidate
abbrev pub verdicts_of : WorkerSeat → List (Option Verdict)
verdicts_of seat = seat.verdicts.items

-- the verdict that the seat holds on the candidate with the number
abbrev pub held_by : WorkerSeat → ℕ → Option Verdict
held_by seat number = slice_index_or (verdicts_of seat) number None

-- the seat knows whether a draw came too late, which gave a number that isn't below n
pub record IsTold (n : ℕ) (over : Bool) (draws : Draws) : Type 0 where
  pub told : over ≡ nat_lt 0 (length draws.late)
  pub beyond : All (λ x. n ≤ x) draws.late

-- the seat is one of this round, between two calls: all that it drew is finished, and it holds the verdicts on the candidates that it
-- drew to judge and no others, which is none before it has seen all claims made
pub record IsWorkerOf (round : Round) (seat : WorkerSeat) : Type 0 where
  pub seated : IsSeatOf round.table seat.claims
  pub planned : (work_of seat).plan ≡ plan_of round
  pub finished : (work_of seat).pending ≡ []
  pub claims_over : IsTold (length round.all) seat.claims_over (work_of seat).claiming
  pub judging_over : IsTold (length round.all) seat.judging_over (work_of seat).judging
  pub judging : (work_of seat).stable ≡ false → (work_of seat).judging ≡ no_draws
  pub room : length (verdicts_of seat) ≡ length round.all
  pub holds : (number : ℕ) → held_by seat number ≡ cond (nat_lt 0 (times number (work_of seat).judging.numbers)) (verdict_on round number) None

-- a seat of this round that has done nothing
pub record IsNewWorkerOf (round : Round) (seat : WorkerSeat) : Type 0 where
  pub worker : IsWorkerOf round seat
  pub work : work_of seat ≡ new_view (plan_of round) 1 false

-- draws are over: an earlier one gave a number that isn't below n, and nothing was drawn now; or the one now did
abbrev pub EndsDraws : ℕ → Draws → Draws → Type 0
EndsDraws n old new =
    ((0 < length old.late) × (new ≡ old))
    ⊎ ((old.late ≡ []) × ((found : ℕ) × (n ≤ found) × (new ≡ draws_after None found old)))

-- the seat drew the candidate, which it lacked, as it had fewer than there are, made all claims that the plan has for it, and finished it
pub record MakesClaims (round : Round) (old new : WorkerSeat) (number : ℕ) : Type 0 where
  pub within : number < length round.all
  pub lacked : times number (work_of old).claiming.numbers ≡ 0
  pub room : length (work_of old).claiming.numbers < length round.all
  pub unspent : (work_of new).claiming.late ≡ []
  pub work : work_of new ≡ record (work_of old) { claiming = draws_after (Some number) number (work_of old).claiming; claims = (work_of old).claims ++ piece_of (plan_of round) number }
  pub made : All (Contains (work_of new).claims) (piece_of (plan_of round) number)
  pub finished : IsFinished (work_of new) number

-- there was no candidate left to claim for
pub record EndsClaims (round : Round) (old new : WorkerSeat) : Type 0 where
  pub ended : EndsDraws (length round.all) (work_of old).claiming (work_of new).claiming
  pub work : work_of new ≡ record (work_of old) { claiming = (work_of new).claiming }

-- what a call that claims does, by its answer
abbrev pub Claims : Round → WorkerSeat → WorkerSeat → Claimed → Type 0
Claims round old new (claimed.Made number) = MakesClaims round old new number
Claims round old new claimed.Spent = EndsClaims round old new

-- the call's look at the done word gave fewer candidates than there are, and no fewer than an earlier look. The seat hadn't seen all
-- claims made; and where it has the shares of all workers, none of its draws of a candidate to claim for came too late
pub record SeesUnfinished (round : Round) (old new : WorkerSeat) (done : ℕ) : Type 0 where
  pub fewer : done < length round.all
  pub unstable : (work_of old).stable ≡ false
  pub risen : All (λ seen. seen ≤ done) (work_of old).looks
  pub timely : HasAllShares round.table (work_of old) → (work_of old).claiming.late ≡ []
  pub work : work_of new ≡ done_seen done (work_of old)
  pub kept : verdicts_of new ≡ verdicts_of old

-- the call's look at the done word gave all candidates; it drew this one, which the seat lacked, as it had fewer than there are, and found this verdict on it
pub record FindsVerdict (round : Round) (old new : WorkerSeat) (number : ℕ) (verdict : Verdict) : Type 0 where
  pub is : verdict_on round number ≡ Some verdict
  pub lacked : times number (work_of old).judging.numbers ≡ 0
  pub room : length (work_of old).judging.numbers < length round.all
  pub unspent : (work_of new).judging.late ≡ []
  pub work : work_of new ≡ record (done_seen (length round.all) (work_of old)) { judging = draws_after (Some number) number (work_of old).judging }

-- the call's look at the done word gave all candidates, and none was left to judge
pub record EndsJudging (round : Round) (old new : WorkerSeat) : Type 0 where
  pub ended : EndsDraws (length round.all) (work_of old).judging (work_of new).judging
  pub work : work_of new ≡ record (done_seen (length round.all) (work_of old)) { judging = (work_of new).judging }
  pub kept : verdicts_of new ≡ verdicts_of old

-- what a call that judges does, by its answer
abbrev pub Judges : Round → WorkerSeat → WorkerSeat → Judgement → Type 0
Judges round old new (judgement.NotYet done) = SeesUnfinished round old new done
Judges round old new (judgement.Verdict number verdict) = FindsVerdict round old new number verdict
Judges round old new judgement.Spent = EndsJudging round old new
