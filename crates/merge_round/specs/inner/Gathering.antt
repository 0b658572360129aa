-- Inner: how the seats of a round are brought together.
use Rattle.std.specs.Prelude.{◌≡◌, ℕ, ◌<◌, ◌≤◌, Option, None, Some, List, All, map, length, slice_index_or, sum_by}
use Rattle.std.specs.Option.{option_or}
use Rattle.geo_base.specs.declared.row_id.RowId.{RowId}
use Rattle.geo_base.specs.declared.outcome.Outcome.{Outcome}
use Rattle.claim_rule.specs.Views.{times}
use Rattle.claim_rule.specs.Seats.{IsOnce, HasAllShares, HasAllNumbers}
use Rattle.merge_round.specs.declared.verdict.Verdict.{Verdict}
use Rattle.merge_round.specs.declared.seat.WorkerSeat.{WorkerSeat}
use Rattle.merge_round.specs.Rounds.{Round, rows_in, numbered, outcome_in, verdict_on}
use Rattle.merge_round.specs.Seats.{work_of}
use Rattle.merge_round.specs.Gathers.{DrewAllApart, IsJudgedBy, AreAllSeats, HasLateJudge}
use Rattle.merge_round.specs.inner.Entries.{IsNamed}

-- a verdict on each candidate of the round
abbrev pub all_verdicts : Round → List (Option Verdict)
all_verdicts round = map (λ c. Some (numbered (rows_in round.all) (outcome_in round c))) round.all

-- the verdict is an outcome whose row is one of these
abbrev pub IsOutcome : List RowId → Verdict → Type 0
IsOutcome rows verdict = (outcome : Outcome) × IsNamed rows outcome × (numbered rows outcome ≡ verdict)

-- there is a verdict in this place
abbrev pub HasVerdict : List (Option Verdict) → ℕ → Type 0
HasVerdict verdicts number = (verdict : Verdict) × (slice_index_or verdicts number None ≡ Some verdict)

-- of so many places this is the first without a verdict
pub record IsFirstLacking (verdicts : List (Option Verdict)) (count number : ℕ) : Type 0 where
  pub within : number < count
  pub lacking : slice_index_or verdicts number None ≡ None
  pub before : (lower : ℕ) → lower < number → HasVerdict verdicts lower

-- each place without a verdict has the one that the others have there
pub record TakesOver (old others new : List (Option Verdict)) : Type 0 where
  pub long : length new ≡ length old
  pub either : (number : ℕ) → slice_index_or new number None ≡ option_or (slice_index_or old number None) (slice_index_or others number None)

-- the seat has what these seats drew, of which no two drew one number
pub record IsWhole (seats : List WorkerSeat) (whole : WorkerSeat) : Type 0 where
  pub claimed : (x : ℕ) → times x (work_of whole).claiming.numbers ≡ sum_by (λ seat. times x (work_of seat).claiming.numbers) seats
  pub judged : (x : ℕ) → times x (work_of whole).judging.numbers ≡ sum_by (λ seat. times x (work_of seat).judging.numbers) seats
  pub shares : (work_of whole).shares ≡ sum_by (λ seat. (work_of seat).shares) seats
  pub late : length (work_of whole).judging.late ≡ sum_by (λ seat. length (work_of seat).judging.late) seats
  pub apart : DrewAllApart seats

-- no number stands twice in what the seat drew, and where it has the shares of all workers each stands there, if a draw came too late
pub record IsSettled (round : Round) (seat : WorkerSeat) : Type 0 where
  pub once : IsOnce (work_of seat)
  pub all : HasAllShares round.table (work_of seat) → HasAllNumbers (work_of seat)

-- these are the verdicts that the seats found, of which no two drew one number
pub record IsGathered (round : Round) (seats : List WorkerSeat) (verdicts : List (Option Verdict)) : Type 0 where
  pub apart : DrewAllApart seats
  pub long : length verdicts ≤ length round.all
  pub judged : (number : ℕ) → HasVerdict verdicts number → IsJudgedBy seats number × (slice_index_or verdicts number None ≡ verdict_on round number)
  pub lacking : (number : ℕ) → number < length round.all → slice_index_or verdicts number None ≡ None → All (λ seat. times number (work_of seat).judging.numbers ≡ 0) seats
  pub once : All (λ seat. IsOnce (work_of seat)) seats
  pub whole : AreAllSeats round seats → HasLateJudge seats → (number : ℕ) → number < length round.all → IsJudgedBy seats number

-- each place before this one without a verdict has the others', and the others are as they were
pub record TakesOverTo (upto : ℕ) (old others new : List (Option Verdict)) : Type 0 where
  pub long : length new ≡ length old
  pub either : (number : ℕ) → number < upto → slice_index_or new number None ≡ option_or (slice_index_or old number None) (slice_index_or others number None)
  pub kept : (number : ℕ) → upto ≤ number → slice_index_or new number None ≡ slice_index_or old number None
