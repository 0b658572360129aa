-- Seats get their room one after another.
use Rattle.std.proofs.Common.{◌≡◌, ℕ, ◌+◌, List, [], ◌∷◌, ◌++◌, length, All, sym, ap, subst, arith}
use Rattle.std.specs.List.{AllByRecursion}
use Rattle.std.proofs.lemmas.List.{length-append}
use Rattle.std.proofs.lemmas.List.Elements.{All-head, All-tail, All-push, All-contains, Contains-push, All-from_recursion}
use Rattle.claim_rule.specs.declared.seat.ClaimSeat.{ClaimSeat}
use Rattle.claim_rule.specs.Seats.{IsNewSeatOf}
use Rattle.merge_round.specs.declared.seat.WorkerSeat.{WorkerSeat}
use Rattle.merge_round.specs.Rounds.{Round, plan_of}
use Rattle.merge_round.specs.Seats.{IsNewWorkerOf}

-- what holds of all holds of the last one, and of those before it
pub last_all : {X : Type 0} (P : X → Type 0) (xs : List X) (x : X) → All P (xs ++ x ∷ []) → P x
last_all P xs x h = All-contains P (xs ++ x ∷ []) x h (Contains-push xs x)

pub front_all : {X : Type 0} (P : X → Type 0) (xs : List X) (x : X) → All P (xs ++ x ∷ []) → All P xs
front_all {X} P xs x h = All-from_recursion P xs (by xs h)
  where
    by : (ys : List X) → All P (ys ++ x ∷ []) → AllByRecursion P ys
    by [] h = tt
    by (y ∷ ys) h = (All-head P y (ys ++ x ∷ []) h, by ys (All-tail P y (ys ++ x ∷ []) h))

pub next_seat : (all before after : List ClaimSeat) (claims : ClaimSeat) (seat : WorkerSeat) (old new : List WorkerSeat) (count : ℕ) →
    length before + length old ≡ length all →
    ((round : Round) → length round.all ≡ count → All (IsNewSeatOf round.table (plan_of round)) all → All (IsNewSeatOf round.table (plan_of round)) before × All (IsNewWorkerOf round) old) →
    before ≡ after ++ claims ∷ [] → new ≡ old ++ seat ∷ [] →
    ((round : Round) → length round.all ≡ count → IsNewSeatOf round.table (plan_of round) claims → IsNewWorkerOf round seat) →
    (length after + length new ≡ length all)
    × ((round : Round) → length round.all ≡ count → All (IsNewSeatOf round.table (plan_of round)) all → All (IsNewSeatOf round.table (plan_of round)) after × All (IsNewWorkerOf round) new)
next_seat all before after claims seat old new count counted so popped pushed made = (
  (let a = length-append after (claims ∷ []) in let b = length-append old (seat ∷ []) in let c = ap length popped in let d = ap length pushed in omega arith),
  (λ round is unused.
      let both = so round is unused in
      let split : All (IsNewSeatOf round.table (plan_of round)) (after ++ claims ∷ []) = subst (All (IsNewSeatOf round.table (plan_of round))) popped both.0 in (
        front_all (IsNewSeatOf round.table (plan_of round)) after claims split,
        subst (All (IsNewWorkerOf round)) (sym pushed) (All-push (IsNewWorkerOf round) old seat both.1
            (made round is (last_all (IsNewSeatOf round.table (plan_of round)) after claims split))),
      )),
)
