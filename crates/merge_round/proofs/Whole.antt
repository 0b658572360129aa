-- Seats are brought together: the whole has what each of them had.
use Rattle.std.proofs.Common.{◌≡◌, ⊎_elim, ℕ, zero, suc, ◌<◌, ◌≤◌, nat_lt, Bool, true, false, cond, Option, None, Some, List, [], ◌∷◌, ◌++◌, length, map, All, Contains, refl, sym, ap, ◌∙◌, arith}
use Rattle.std.specs.Prelude.{sum, sum_by, slice_index_or, slice_set}
use Rattle.std.specs.List.{slice_get, AllByRecursion}
use Rattle.std.specs.Option.{option_map}
use Rattle.std.proofs.lemmas.Bool.Decides.{nat_tests}
use Rattle.std.proofs.lemmas.Option.{none-some, slice_get_within, get_or_from_slice_get}
use Rattle.std.proofs.lemmas.List.Sums.{sum_by-cons, sum_by-append, sum_by-set, sum-map}
use Rattle.std.proofs.lemmas.List.{length-append, length-map}
use Rattle.std.proofs.lemmas.List.Elements.{All-head, All-tail, All-contains, All-from_recursion}
use Rattle.write_set.specs.Journal.{Placed}
use Rattle.write_set.specs.laws.Among.{among_none, among_first, among_later, among_cases}
use Rattle.claim_rule.specs.declared.view.ClaimView.{ClaimView}
use Rattle.claim_rule.specs.Views.{times, views_joined}
use Rattle.claim_rule.specs.Seats.{workers_of, DrewApart, IsOnce, HasAllShares}
use Rattle.claim_rule.specs.laws.Times.{times-append}
use Rattle.merge_round.specs.declared.verdict.Verdict.{Verdict}
use Rattle.merge_round.specs.declared.seat.WorkerSeat.{WorkerSeat}
use Rattle.merge_round.specs.Rounds.{Round, rows_in, numbered, outcome_in, verdict_on}
use Rattle.merge_round.specs.Seats.{work_of, verdicts_of, held_by, IsWorkerOf, IsNewWorkerOf}
use Rattle.merge_round.specs.Gathers.{IsJudgedBy, IsFirstUnjudged, AreAllSeats, HasLateJudge}
use Rattle.merge_round.specs.inner.Gathering.{all_verdicts, HasVerdict, IsFirstLacking, IsWhole, IsSettled, IsGathered}

-- ---- sums

sum_above : {X : Type 0} → (f : X → ℕ) (xs : List X) (x : X) → Contains xs x → f x ≤ sum_by f xs
sum_above f [] x h = absurd (among_none x h)
sum_above f (y ∷ ys) x h = ⊎_elim
    (λ same. let e = ap f same in omega (arith, sum_by-cons f y ys))
    (λ later. let rest = sum_above f ys x later in omega (arith, sum_by-cons f y ys))
    (among_cases y ys x h)

sum_found : {X : Type 0} → (f : X → ℕ) (xs : List X) → 0 < sum_by f xs → (x : X) × Contains xs x × (0 < f x)
sum_found f [] more = absurd (omega (arith, more))
sum_found f (y ∷ ys) more = by (f y) refl (λ later. sum_found f ys later)
  where
    by : (n : ℕ) → f y ≡ n → (0 < sum_by f ys → (x : _) × Contains ys x × (0 < f x)) → (x : _) × Contains (y ∷ ys) x × (0 < f x)
    by zero is rest = let found = rest (omega (arith, sum_by-cons f y ys)) in (found.0, among_later y found.0 ys found.1, found.2)
    by (suc n) is rest = (y, among_first y ys, omega arith)

sum_none : {X : Type 0} → (f : X → ℕ) (xs : List X) → sum_by f xs ≡ 0 → All (λ x. f x ≡ 0) xs
sum_none f xs none = All-from_recursion (λ x. f x ≡ 0) xs (by xs none)
  where
    by : (ys : List _) → sum_by f ys ≡ 0 → AllByRecursion (λ x. f x ≡ 0) ys
    by [] none = tt
    by (y ∷ ys) none = (omega (arith, sum_by-cons f y ys), by ys (omega (arith, sum_by-cons f y ys)))

-- ---- one seat more

pub one_whole : (seat : WorkerSeat) → IsWhole (seat ∷ []) seat
one_whole seat = record {
  claimed = λ x. omega (arith, sum_by-cons (λ (s : WorkerSeat). times x (work_of s).claiming.numbers) seat []);
  judged = λ x. omega (arith, sum_by-cons (λ (s : WorkerSeat). times x (work_of s).judging.numbers) seat []);
  shares = omega (arith, sum_by-cons (λ (s : WorkerSeat). (work_of s).shares) seat []);
  late = omega (arith, sum_by-cons (λ (s : WorkerSeat). length (work_of s).judging.late) seat []);
  apart = (All-from_recursion (λ (other : WorkerSeat). DrewApart (work_of seat) (work_of other)) [] tt, tt);
}

pub more_whole : (taken : List WorkerSeat) (whole other new : WorkerSeat) → IsWhole taken whole → work_of new ≡ views_joined (work_of whole) (work_of other) →
    DrewApart (work_of whole) (work_of other) → IsWhole (other ∷ taken) new
more_whole taken whole other new is joined apart = record {
  claimed = λ x. (let here = is.claimed x in
      let at = ap (λ (v : ClaimView). times x v.claiming.numbers) joined in
      omega (arith, times-append x (work_of whole).claiming.numbers (work_of other).claiming.numbers, sum_by-cons (λ (s : WorkerSeat). times x (work_of s).claiming.numbers) other taken));
  judged = λ x. (let here = is.judged x in
      let at = ap (λ (v : ClaimView). times x v.judging.numbers) joined in
      omega (arith, times-append x (work_of whole).judging.numbers (work_of other).judging.numbers, sum_by-cons (λ (s : WorkerSeat). times x (work_of s).judging.numbers) other taken));
  shares = (let here = is.shares in
      let at = ap (λ (v : ClaimView). v.shares) joined in
      omega (arith, sum_by-cons (λ (s : WorkerSeat). (work_of s).shares) other taken));
  late = (let here = is.late in
      let at = ap (λ (v : ClaimView). length v.judging.late) joined in
      omega (arith, length-append (work_of whole).judging.late (work_of other).judging.late, sum_by-cons (λ (s : WorkerSeat). length (work_of s).judging.late) other taken));
  apart = (All-from_recursion (λ (s : WorkerSeat). DrewApart (work_of other) (work_of s)) taken (by taken (λ s h. h)), is.apart);
}
  where
    one : (s : WorkerSeat) → Contains taken s → DrewApart (work_of other) (work_of s)
    one s h = record {
      claiming = λ x has. none (times x (work_of s).claiming.numbers) (times x (work_of s).claiming.numbers) refl (λ more. let above = sum_above (λ (t : WorkerSeat). times x (work_of t).claiming.numbers) taken s h in
          let here = is.claimed x in let gone = apart.claiming x (omega arith) in omega arith);
      judging = λ x has. none (times x (work_of s).judging.numbers) (times x (work_of s).judging.numbers) refl (λ more. let above = sum_above (λ (t : WorkerSeat). times x (work_of t).judging.numbers) taken s h in
          let here = is.judged x in let gone = apart.judging x (omega arith) in omega arith);
    }
      where
        none : (n m : ℕ) → n ≡ m → (0 < n → ⊥) → m ≡ 0
        none zero m e never = sym e
        none (suc n) m e never = absurd (never (omega arith))

    by : (ts : List WorkerSeat) → ((s : WorkerSeat) → Contains ts s → Contains taken s) → AllByRecursion (λ (s : WorkerSeat). DrewApart (work_of other) (work_of s)) ts
    by [] all = tt
    by (t ∷ ts) all = (one t (all t (among_first t ts)), by ts (λ s h. all s (among_later t s ts h)))

-- where the whole drew no number twice, none of the seats did
pub once_each : (seats : List WorkerSeat) (whole : WorkerSeat) → IsWhole seats whole → IsOnce (work_of whole) → All (λ seat. IsOnce (work_of seat)) seats
once_each seats whole is once = All-from_recursion (λ (seat : WorkerSeat). IsOnce (work_of seat)) seats (by seats (λ s h. h))
  where
    by : (ts : List WorkerSeat) → ((s : WorkerSeat) → Contains ts s → Contains seats s) → AllByRecursion (λ (s : WorkerSeat). IsOnce (work_of s)) ts
    by [] all = tt
    by (t ∷ ts) all =
        let among = all t (among_first t ts) in (
          record {
            claiming = λ x. (let one = once.claiming x in
                let here = is.claimed x in
                let above = sum_above (λ (s : WorkerSeat). times x (work_of s).claiming.numbers) seats t among in
                omega arith);
            judging = λ x. (let one = once.judging x in
                let here = is.judged x in
                let above = sum_above (λ (s : WorkerSeat). times x (work_of s).judging.numbers) seats t among in
                omega arith);
          },
          by ts (λ s h. all s (among_later t s ts h)),
        )

-- ---- what the whole holds

on_each : (round : Round) (number : ℕ) → number < length round.all → (v : Verdict) × (verdict_on round number ≡ Some v)
on_each round number within = by (slice_get round.all number) refl
  where
    some_at : (cs : List Placed) (i : ℕ) → i < length cs → slice_get cs i ≡ None → ⊥
    some_at [] i h e = absurd (omega (arith, h))
    some_at (c ∷ cs) zero h e = absurd (none-some _ (sym e))
    some_at (c ∷ cs) (suc i) h e = some_at cs i (omega (arith, h)) e

    by : (o : Option Placed) → slice_get round.all number ≡ o → (v : Verdict) × (option_map (λ c. numbered (rows_in round.all) (outcome_in round c)) o ≡ Some v)
    by None is = absurd (some_at round.all number within is)
    by (Some c) is = (numbered (rows_in round.all) (outcome_in round c), refl)

-- a seat with the shares of all workers, of which a draw to judge came too late, judged each candidate
all_judging : (round : Round) (whole : WorkerSeat) → IsWorkerOf round whole → HasAllShares round.table (work_of whole) → IsSettled round whole →
    0 < length (work_of whole).judging.late → (number : ℕ) → number < length round.all → times number (work_of whole).judging.numbers ≡ 1
all_judging round whole worker all settled late number within =
    let long : length (work_of whole).plan ≡ length round.all = ap length worker.planned ∙ length-map round.all _ in
    (settled.all all).judging late number (omega arith)

pub whole_gathers : (round : Round) (seats : List WorkerSeat) (whole : WorkerSeat) → IsWorkerOf round whole → IsWhole seats whole → IsSettled round whole → IsGathered round seats (verdicts_of whole)
whole_gathers round seats whole worker is settled = record {
  apart = is.apart;
  once = once_each seats whole is settled.once;
  whole = λ all (late : HasLateJudge seats) number within.
      let some_late : 0 < length (work_of whole).judging.late = (let sum = is.late in
      let above = sum_above (λ (s : WorkerSeat). length (work_of s).judging.late) seats late.0 late.1 in
      let more = late.2 in
      omega arith) in
      let each = all_judging round whole worker (is.shares ∙ all) settled some_late number within in
      let at = is.judged number in
      sum_found (λ (s : WorkerSeat). times number (work_of s).judging.numbers) seats (omega arith);
  long = (let long = worker.room in omega arith);
  judged = λ number has. judged number has (nat_lt 0 (times number (work_of whole).judging.numbers)) refl (worker.holds number);
  lacking = λ number within none. lacking number within none (nat_lt 0 (times number (work_of whole).judging.numbers)) refl (worker.holds number);
}
  where
    judged : (number : ℕ) → HasVerdict (verdicts_of whole) number → (b : Bool) → nat_lt 0 (times number (work_of whole).judging.numbers) ≡ b →
        held_by whole number ≡ cond b (verdict_on round number) None → IsJudgedBy seats number × (slice_index_or (verdicts_of whole) number None ≡ verdict_on round number)
    judged number has true more holds =
        let at = is.judged number in
        (sum_found (λ (s : WorkerSeat). times number (work_of s).judging.numbers) seats (grind (arith, nat_tests)), holds)
    judged number has false none holds = absurd (none-some _ (sym holds ∙ has.1))

    lacking : (number : ℕ) → number < length round.all → held_by whole number ≡ None → (b : Bool) → nat_lt 0 (times number (work_of whole).judging.numbers) ≡ b →
        held_by whole number ≡ cond b (verdict_on round number) None → All (λ seat. times number (work_of seat).judging.numbers ≡ 0) seats
    lacking number within none true more holds = absurd (let each = on_each round number within in none-some _ (sym none ∙ holds ∙ each.1))
    lacking number within none false more holds =
        let at = is.judged number in
        sum_none (λ (s : WorkerSeat). times number (work_of s).judging.numbers) seats (grind (arith, nat_tests))

pub first_is : (round : Round) (seats : List WorkerSeat) (verdicts : List (Option Verdict)) (count number : ℕ) → IsGathered round seats verdicts → count ≡ length round.all →
    IsFirstLacking verdicts count number → IsFirstUnjudged round seats number
first_is round seats verdicts count number is counted first =
    let within : number < length round.all = (let below = first.within in omega arith) in
    record {
      within = within;
      unjudged = is.lacking number within first.lacking;
      before = λ lower below. (is.judged lower (first.before lower below)).0;
    }

-- a verdict in each place is all verdicts
pub all_there : (round : Round) (seats : List WorkerSeat) (verdicts : List (Option Verdict)) (count : ℕ) → IsGathered round seats verdicts → count ≡ length round.all →
    ((number : ℕ) → number < count → HasVerdict verdicts number) → verdicts ≡ all_verdicts round
all_there round seats verdicts count is counted has = by verdicts round.all is.long (λ i c at.
    let within : i < count = (let below = get_within round.all i c at in omega arith) in
    (is.judged i (has i within)).1 ∙ ap (option_map (λ d. numbered (rows_in round.all) (outcome_in round d))) at)
  where
    get_within : (cs : List Placed) (i : ℕ) (c : Placed) → slice_get cs i ≡ Some c → i < length cs
    get_within [] i c at = absurd (none-some _ at)
    get_within (d ∷ ds) zero c at = omega arith
    get_within (d ∷ ds) (suc i) c at = let rest = get_within ds i c at in omega arith

    by : (vs : List (Option Verdict)) (cs : List Placed) → length vs ≤ length cs → ((i : ℕ) (c : Placed) → slice_get cs i ≡ Some c → slice_index_or vs i None ≡ Some (numbered (rows_in round.all) (outcome_in round c))) →
        vs ≡ map (λ c. Some (numbered (rows_in round.all) (outcome_in round c))) cs
    by [] [] long each = refl
    by [] (c ∷ cs) long each = absurd (none-some _ (each 0 c refl))
    by (v ∷ vs) [] long each = absurd (omega (arith, long))
    by (v ∷ vs) (c ∷ cs) long each =
        ap (λ (o : Option Verdict). o ∷ vs) (each 0 c refl) ∙ ap (λ (l : List (Option Verdict)). Some (numbered (rows_in round.all) (outcome_in round c)) ∷ l) (by vs cs (omega (arith, long)) (λ i d at. each (suc i) d at))

pub all_judged : (round : Round) (seats : List WorkerSeat) (verdicts : List (Option Verdict)) (count : ℕ) → IsGathered round seats verdicts → count ≡ length round.all →
    ((number : ℕ) → number < count → HasVerdict verdicts number) → (number : ℕ) → number < length round.all → IsJudgedBy seats number
all_judged round seats verdicts count is counted has number within = (is.judged number (has number (omega arith))).0

-- so where the seats are all, and one of them had a draw to judge that came too late, none is unjudged
pub none_unjudged : (round : Round) (seats : List WorkerSeat) (verdicts : List (Option Verdict)) (number : ℕ) → IsGathered round seats verdicts →
    IsFirstUnjudged round seats number → AreAllSeats round seats → HasLateJudge seats → ⊥
none_unjudged round seats verdicts number is first all late =
    let judge = is.whole all late number first.within in
    let none = All-contains (λ (seat : WorkerSeat). times number (work_of seat).judging.numbers ≡ 0) seats judge.0 first.unjudged judge.1 in
    let more = judge.2 in
    absurd (omega arith)

-- and a seat that has the shares of all workers holds all verdicts then
pub holds_all : (round : Round) (whole : WorkerSeat) → IsWorkerOf round whole → HasAllShares round.table (work_of whole) → IsSettled round whole →
    0 < length (work_of whole).judging.late → verdicts_of whole ≡ all_verdicts round
holds_all round whole worker all settled late =
    all_there round (whole ∷ []) (verdicts_of whole) (length round.all) (whole_gathers round (whole ∷ []) whole worker (one_whole whole) settled) refl
    (λ number within. has number within (nat_lt 0 (times number (work_of whole).judging.numbers)) refl (worker.holds number))
  where
    has : (number : ℕ) → number < length round.all → (b : Bool) → nat_lt 0 (times number (work_of whole).judging.numbers) ≡ b →
        held_by whole number ≡ cond b (verdict_on round number) None → HasVerdict (verdicts_of whole) number
    has number within true more holds = let each = on_each round number within in (each.0, holds ∙ each.1)
    has number within false none holds = let one = all_judging round whole worker all settled late number within in absurd (grind (arith, nat_tests))

-- ---- all seats

-- seats of one share each, as many as workers, are all
pub new_seats : (round : Round) (seats : List WorkerSeat) → All (IsNewWorkerOf round) seats → length seats ≡ workers_of round.table → AreAllSeats round seats
new_seats round seats new count = by seats new ∙ count
  where
    by : (ts : List WorkerSeat) → All (IsNewWorkerOf round) ts → sum_by (λ (seat : WorkerSeat). (work_of seat).shares) ts ≡ length ts
    by [] new = refl
    by (t ∷ ts) new =
        let one : (work_of t).shares ≡ 1 = ap (λ (v : ClaimView). v.shares) (All-head (IsNewWorkerOf round) t ts new).work in
        let rest : sum_by (λ (seat : WorkerSeat). (work_of seat).shares) ts ≡ length ts = by ts (All-tail (IsNewWorkerOf round) t ts new) in
        omega (arith, sum_by-cons (λ (seat : WorkerSeat). (work_of seat).shares) t ts)

-- a seat in the place of another that has as many shares
pub placed_seat : (round : Round) (seats : List WorkerSeat) (place : ℕ) (old new : WorkerSeat) → slice_get seats place ≡ Some old → (work_of new).shares ≡ (work_of old).shares →
    AreAllSeats round seats → AreAllSeats round (slice_set seats place new)
placed_seat round seats place old new at same all =
    let within = slice_get_within seats place old at in
    let was : (work_of (slice_index_or seats place old)).shares ≡ (work_of old).shares = ap (λ (seat : WorkerSeat). (work_of seat).shares) (get_or_from_slice_get seats place old old at) in
    let changed = sum_by-set (λ (seat : WorkerSeat). (work_of seat).shares) seats place new old within in
    omega arith

pub seat_between : (round : Round) (front back : List WorkerSeat) (old new : WorkerSeat) → (work_of new).shares ≡ (work_of old).shares →
    AreAllSeats round (front ++ old ∷ back) → AreAllSeats round (front ++ new ∷ back)
seat_between round front back old new same all =
    let before = sum_by-append (λ (seat : WorkerSeat). (work_of seat).shares) front (old ∷ back) in
    let after = sum_by-append (λ (seat : WorkerSeat). (work_of seat).shares) front (new ∷ back) in
    omega (arith, sum_by-cons (λ (seat : WorkerSeat). (work_of seat).shares) old back, sum_by-cons (λ (seat : WorkerSeat). (work_of seat).shares) new back)

pub each_seat : (round : Round) (olds news : List WorkerSeat) → map (λ seat. (work_of seat).shares) news ≡ map (λ seat. (work_of seat).shares) olds →
    AreAllSeats round olds → AreAllSeats round news
each_seat round olds news same all =
    sym (sum-map (λ (seat : WorkerSeat). (work_of seat).shares) news) ∙ ap sum same ∙ sum-map (λ (seat : WorkerSeat). (work_of seat).shares) olds ∙ all
