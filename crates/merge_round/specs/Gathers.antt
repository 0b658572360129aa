-- What comes of a round where its seats are brought together.
use Rattle.std.specs.Prelude.{◌≡◌, ℕ, ◌<◌, List, [], ◌∷◌, All, Contains, length, sum_by}
use Rattle.claim_rule.specs.Views.{times}
use Rattle.claim_rule.specs.Seats.{workers_of, DrewApart}
use Rattle.geo_base.specs.declared.outcome.Outcome.{Outcome}
use Rattle.merge_round.specs.declared.seat.WorkerSeat.{WorkerSeat}
use Rattle.merge_round.specs.declared.fault.GatherFault.{GatherFault}
use Rattle.merge_round.specs.declared.fault.GatherFault.TheVariants.{Unjudged, NoMemory}
use Rattle.merge_round.specs.Rounds.{Round}
use Rattle.merge_round.specs.Seats.{work_of}

-- the outcomes of an epoch's candidates, by region and then commit number
pub record Decided : Type 0 where
  pub epoch : ℕ
  pub outcomes : List Outcome

-- one of the seats judged the candidate with the number
abbrev pub IsJudgedBy : List WorkerSeat → ℕ → Type 0
IsJudgedBy seats number = (seat : WorkerSeat) × Contains seats seat × (0 < times number (work_of seat).judging.numbers)

-- none of the seats judged the candidate, and each before it was judged by one of them
pub record IsFirstUnjudged (round : Round) (seats : List WorkerSeat) (number : ℕ) : Type 0 where
  pub within : number < length round.all
  pub unjudged : All (λ seat. times number (work_of seat).judging.numbers ≡ 0) seats
  pub before : (lower : ℕ) → lower < number → IsJudgedBy seats lower

-- no candidate was drawn for claiming by two of the seats, and none for judging
abbrev pub DrewAllApart : List WorkerSeat → Type 0
DrewAllApart [] = Unit {0}
DrewAllApart (seat ∷ seats) = All (λ other. DrewApart (work_of seat) (work_of other)) seats × DrewAllApart seats

-- these are all seats of the round: together they have the shares of all workers
abbrev pub AreAllSeats : Round → List WorkerSeat → Type 0
AreAllSeats round seats = sum_by (λ seat. (work_of seat).shares) seats ≡ workers_of round.table

-- a draw of a candidate to judge by one of the seats came too late
abbrev pub HasLateJudge : List WorkerSeat → Type 0
HasLateJudge seats = (seat : WorkerSeat) × Contains seats seat × (0 < length (work_of seat).judging.late)

-- why a round gave no outcomes; want of memory has no cause that a clause could name
abbrev pub HasGatherCause : Round → List WorkerSeat → GatherFault → Type 0
HasGatherCause round seats (Unjudged number) = IsFirstUnjudged round seats number
HasGatherCause round seats NoMemory = Unit {0}
