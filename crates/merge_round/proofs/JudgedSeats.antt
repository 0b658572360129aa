-- What a seat of a round is after it looked whether all claims are made, and after it judged a candidate.
use Rattle.std.proofs.Common.{◌≡◌, ◌≢◌, ℕ, ◌+◌, ◌<◌, ◌≤◌, nat_lt, Bool, true, false, cond, Option, None, Some, List, [], ◌∷◌, ◌++◌, length, sym, ap, ◌∙◌, subst, arith, true≢false, eq-eqb, ne_eqb}
use Rattle.std.specs.Prelude.{◌==◌, slice_index_or, slice_set}
use Rattle.std.proofs.lemmas.Bool.Decides.{nat_tests}
use Rattle.std.proofs.lemmas.List.{length-map, length-set, get_or-set_same, get_or-set_other}
use mathlib.Core.Logic.{dite}
use native.Mathlib.Decide.{ℕ_discrete}
use Rattle.claim_rule.specs.declared.view.ClaimView.{ClaimView}
use Rattle.claim_rule.specs.Views.{times, draws_after, judge_drawn, done_seen}
use Rattle.claim_rule.specs.Seats.{IsSeatOf, IsJudgeDraw}
use Rattle.claim_rule.specs.laws.Times.{times-append, times_pushed}
use Rattle.merge_round.specs.declared.verdict.Verdict.{Verdict}
use Rattle.merge_round.specs.declared.seat.WorkerSeat.{WorkerSeat}
use Rattle.merge_round.specs.Rounds.{Round, verdict_on}
use Rattle.merge_round.specs.Seats.{work_of, verdicts_of, IsTold, IsWorkerOf, FindsVerdict}
use Rattle.merge_round.proofs.Working.{not_late}

-- a look at the done word that didn't give fewer candidates than there are gave all
pub all_done : (round : Round) (old : WorkerSeat) (count done : ℕ) → IsWorkerOf round old → count ≡ length round.all → count ≤ done → done ≤ length (work_of old).plan → done ≡ length round.all
all_done round old count done worker counted above within =
    let long : length (work_of old).plan ≡ length round.all = ap length worker.planned ∙ length-map round.all _ in
    omega arith

-- what the seat holds in each place, after the verdict on one more candidate
holds_more : (round : Round) (old : WorkerSeat) (number : ℕ) (verdict : Verdict) → IsWorkerOf round old → number < length round.all → verdict_on round number ≡ Some verdict → (k : ℕ) →
    slice_index_or (slice_set (verdicts_of old) number (Some verdict)) k None ≡ cond (nat_lt 0 (times k ((work_of old).judging.numbers ++ number ∷ []))) (verdict_on round k) None
holds_more round old number verdict worker within is k = dite (ℕ_discrete k number)
    (λ (same : k ≡ number). let here : number < length (verdicts_of old) = (let room = worker.room in omega arith) in
    subst (λ (j : ℕ). slice_index_or (slice_set (verdicts_of old) number (Some verdict)) j None ≡ cond (nat_lt 0 (times j ((work_of old).judging.numbers ++ number ∷ []))) (verdict_on round j) None) (sym same)
    (get_or-set_same (verdicts_of old) number (Some verdict) None here ∙ sym is
    ∙ sym (ap (λ (b : Bool). cond b (verdict_on round number) None) (more (times_pushed number (work_of old).judging.numbers)))))
    (λ (other : k ≢ number). get_or-set_other (verdicts_of old) number k (Some verdict) None other ∙ worker.holds k
    ∙ ap (λ (n : ℕ). cond (nat_lt 0 n) (verdict_on round k) None) (as_before other))
  where
    more : {n : ℕ} → 0 < n → nat_lt 0 n ≡ true
    more h = grind (arith, nat_tests)

    as_before : k ≢ number → times k (work_of old).judging.numbers ≡ times k ((work_of old).judging.numbers ++ number ∷ [])
    as_before other =
        let none : times k (number ∷ []) ≡ 0 = ap (λ (b : Bool). 0 + cond b 1 0) (ne_eqb number k (λ e. other (sym e))) in
        omega (arith, times-append k (work_of old).judging.numbers (number ∷ []))

-- a seat that judged one candidate more is one of the round
pub judged_worker : (round : Round) (old new : WorkerSeat) (seen : ClaimView) (done number : ℕ) (verdict : Verdict) → IsWorkerOf round old → old.judging_over ≡ false → done ≡ length round.all →
    seen ≡ done_seen done (work_of old) → IsJudgeDraw seen (work_of new) (Some number) → IsSeatOf round.table new.claims → new.claims_over ≡ old.claims_over → new.judging_over ≡ old.judging_over →
    verdict_on round number ≡ Some verdict → verdicts_of new ≡ slice_set (verdicts_of old) number (Some verdict) → IsWorkerOf round new
judged_worker round old new seen done number verdict worker over all look draw seated claims_over judging_over verdict_is verdicts =
    let v = work_of old in
    let work : work_of new ≡ record (done_seen done v) { judging = draws_after (Some number) number v.judging } = draw.leaves ∙ ap (judge_drawn (Some number) number) look in
    let long : length v.plan ≡ length round.all = ap length worker.planned ∙ length-map round.all _ in
    let within : number < length round.all = (let below = draw.tells.0 in let planned = ap (λ (u : ClaimView). length u.plan) look in omega arith) in
    record {
      seated = seated;
      planned = ap (λ (u : ClaimView). u.plan) work ∙ worker.planned;
      finished = ap (λ (u : ClaimView). u.pending) work ∙ worker.finished;
      claims_over = subst (λ (b : Bool). IsTold (length round.all) b (work_of new).claiming) (sym claims_over)
          (subst (λ (u : ClaimView). IsTold (length round.all) old.claims_over u.claiming) (sym work) worker.claims_over);
      judging_over = subst (λ (b : Bool). IsTold (length round.all) b (work_of new).judging) (sym judging_over)
          (subst (λ (u : ClaimView). IsTold (length round.all) old.judging_over u.judging) (sym work) (record { told = worker.judging_over.told; beyond = worker.judging_over.beyond }));
      judging = λ unstable.
          let stable : (done == length v.plan) ≡ true = eq-eqb done (length v.plan) (all ∙ sym long) in
          absurd (true≢false (sym stable ∙ sym (ap (λ (u : ClaimView). u.stable) work) ∙ unstable));
      room = ap length verdicts ∙ length-set (verdicts_of old) number (Some verdict) ∙ worker.room;
      holds = λ k.
          ap (λ (vs : List (Option Verdict)). slice_index_or vs k None) verdicts ∙ holds_more round old number verdict worker within verdict_is k
          ∙ ap (λ (u : ClaimView). cond (nat_lt 0 (times k u.judging.numbers)) (verdict_on round k) None) (sym work);
    }

-- what the call found that judged it
pub finds_verdict : (round : Round) (old new : WorkerSeat) (seen : ClaimView) (done number : ℕ) (verdict : Verdict) → IsWorkerOf round old → old.judging_over ≡ false → done ≡ length round.all →
    seen ≡ done_seen done (work_of old) → IsJudgeDraw seen (work_of new) (Some number) → verdict_on round number ≡ Some verdict → FindsVerdict round old new number verdict
finds_verdict round old new seen done number verdict worker over all look draw verdict_is =
    let v = work_of old in
    let work : work_of new ≡ record (done_seen done v) { judging = draws_after (Some number) number v.judging } = draw.leaves ∙ ap (judge_drawn (Some number) number) look in
    let long : length v.plan ≡ length round.all = ap length worker.planned ∙ length-map round.all _ in
    record {
      is = verdict_is;
      lacked = subst (λ (u : ClaimView). times number u.judging.numbers ≡ 0) look draw.tells.1;
      room = (let fewer = draw.tells.2 in let planned = ap (λ (u : ClaimView). length u.plan) look in let drawn = ap (λ (u : ClaimView). length u.judging.numbers) look in omega arith);
      unspent = ap (λ (u : ClaimView). u.judging.late) work ∙ not_late (length round.all) old.judging_over v.judging worker.judging_over over;
      work = work ∙ ap (λ (d : ℕ). record (done_seen d v) { judging = draws_after (Some number) number v.judging }) all;
    }
