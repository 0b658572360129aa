-- A seat that took another in is one of the round.
use Rattle.std.proofs.Common.{◌≡◌, ℕ, zero, suc, ◌+◌, ◌≤◌, nat_lt, Bool, true, false, true≢false, cond, Option, None, Some, List, [], ◌∷◌, ◌++◌, length, refl, sym, ap, ◌∙◌, subst, arith}
use Rattle.std.specs.Prelude.{◌||◌}
use Rattle.std.specs.Option.{option_or}
use Rattle.std.proofs.lemmas.Bool.Decides.{nat_tests}
use Rattle.std.proofs.lemmas.List.Elements.{All-append}
use Rattle.claim_rule.specs.declared.view.Draws.{Draws}
use Rattle.claim_rule.specs.declared.view.ClaimView.{ClaimView}
use Rattle.claim_rule.specs.Views.{times, no_draws, draws_joined, views_joined}
use Rattle.claim_rule.specs.Seats.{IsSeatOf}
use Rattle.claim_rule.specs.laws.Times.{times-append}
use Rattle.merge_round.specs.declared.seat.WorkerSeat.{WorkerSeat}
use Rattle.merge_round.specs.Rounds.{Round, verdict_on}
use Rattle.merge_round.specs.Seats.{work_of, verdicts_of, held_by, IsTold, IsWorkerOf}
use Rattle.merge_round.specs.inner.Gathering.{TakesOver}

above_none : (n : ℕ) → nat_lt 0 (suc n) ≡ true
above_none n = grind (arith, nat_tests)

or_some : (xs ys : List ℕ) (a b : Bool) → a ≡ nat_lt 0 (length xs) → b ≡ nat_lt 0 (length ys) → (a || b) ≡ nat_lt 0 (length (xs ++ ys))
or_some [] ys a b x y = ap (λ (c : Bool). c || b) x ∙ y
or_some (x ∷ xs) ys a b is y = ap (λ (c : Bool). c || b) (is ∙ above_none (length xs)) ∙ sym (above_none (length (xs ++ ys)))

both_false : (a b : Bool) → (a || b) ≡ false → (a ≡ false) × (b ≡ false)
both_false false b neither = (refl, neither)
both_false true b neither = absurd (true≢false neither)

told_joined : (n : ℕ) (a b : Bool) (d e : Draws) → IsTold n a d → IsTold n b e → IsTold n (a || b) (draws_joined d e)
told_joined n a b d e left right = record {
  told = or_some d.late e.late a b left.told right.told;
  beyond = All-append (λ (x : ℕ). n ≤ x) d.late e.late left.beyond right.beyond;
}

-- what stands in a place where either of two lists has a value
either_has : {X : Type 0} → (v : Option X) (a b : ℕ) → option_or (cond (nat_lt 0 a) v None) (cond (nat_lt 0 b) v None) ≡ cond (nat_lt 0 (a + b)) v None
either_has {X} v a b = by (nat_lt 0 a) (nat_lt 0 b) (nat_lt 0 (a + b)) refl refl refl v
  where
    by : (s t u : Bool) → nat_lt 0 a ≡ s → nat_lt 0 b ≡ t → nat_lt 0 (a + b) ≡ u → (w : Option X) → option_or (cond s w None) (cond t w None) ≡ cond u w None
    by false t u none here both w = ap (λ (z : Bool). cond z w None) (sym here ∙ same ∙ both)
      where
        same : nat_lt 0 b ≡ nat_lt 0 (a + b)
        same = let zero_there : a ≡ 0 = grind (arith, nat_tests) in ap (nat_lt 0) (omega arith)
    by true t false some here both w = absurd (grind (arith, nat_tests))
    by true t true some here both (Some x) = refl
    by true true true some here both None = refl
    by true false true some here both None = refl

-- a seat that took another in is one of the round
pub joined_worker : (round : Round) (old other new : WorkerSeat) → IsWorkerOf round old → IsWorkerOf round other → IsSeatOf round.table new.claims →
    work_of new ≡ views_joined (work_of old) (work_of other) → new.claims_over ≡ (old.claims_over || other.claims_over) → new.judging_over ≡ (old.judging_over || other.judging_over) →
    TakesOver (verdicts_of old) (verdicts_of other) (verdicts_of new) → IsWorkerOf round new
joined_worker round old other new one two seated work claims_over judging_over takes =
    let v = work_of old in
    let w = work_of other in
    record {
      seated = seated;
      planned = ap (λ (u : ClaimView). u.plan) work ∙ one.planned;
      finished = ap (λ (u : ClaimView). u.pending) work ∙ ap (λ (l : List ℕ). l ++ w.pending) one.finished ∙ two.finished;
      claims_over = subst (λ (b : Bool). IsTold (length round.all) b (work_of new).claiming) (sym claims_over)
          (subst (λ (u : ClaimView). IsTold (length round.all) (old.claims_over || other.claims_over) u.claiming) (sym work) (told_joined (length round.all) old.claims_over other.claims_over v.claiming w.claiming one.claims_over two.claims_over));
      judging_over = subst (λ (b : Bool). IsTold (length round.all) b (work_of new).judging) (sym judging_over)
          (subst (λ (u : ClaimView). IsTold (length round.all) (old.judging_over || other.judging_over) u.judging) (sym work) (told_joined (length round.all) old.judging_over other.judging_over v.judging w.judging one.judging_over two.judging_over));
      judging = λ unstable.
          let none = both_false v.stable w.stable (sym (ap (λ (u : ClaimView). u.stable) work) ∙ unstable) in
          ap (λ (u : ClaimView). u.judging) work ∙ ap (λ (d : Draws). draws_joined d w.judging) (one.judging none.0) ∙ ap (draws_joined no_draws) (two.judging none.1);
      room = takes.long ∙ one.room;
      holds = λ number.
          takes.either number
          ∙ ap (λ (o : Option _). option_or o (held_by other number)) (one.holds number)
          ∙ ap (option_or (cond (nat_lt 0 (times number v.judging.numbers)) (verdict_on round number) None)) (two.holds number)
          ∙ either_has (verdict_on round number) (times number v.judging.numbers) (times number w.judging.numbers)
          ∙ ap (λ (n : ℕ). cond (nat_lt 0 n) (verdict_on round number) None) (sym (times-append number v.judging.numbers w.judging.numbers))
          ∙ ap (λ (u : ClaimView). cond (nat_lt 0 (times number u.judging.numbers)) (verdict_on round number) None) (sym work);
    }
