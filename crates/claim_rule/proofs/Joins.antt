-- Seats that are joined show that no number was given to both, and that both have one plan.
use Rattle.std.proofs.Common.{◌≡◌, ℕ, ◌<◌, ◌≤◌, List, ◌∷◌, ◌++◌, sym, subst, arith}
use Rattle.std.specs.Prelude.{All}
use Rattle.std.proofs.lemmas.List.Elements.{All-head}
use Rattle.claim_rule.specs.declared.view.ClaimView.{ClaimView}
use Rattle.claim_rule.specs.Views.{times, views_joined}
use Rattle.claim_rule.specs.Seats.{IsOnce, DrewApart}
use Rattle.claim_rule.specs.laws.Times.{times-append}

lists_apart : (xs ys : List ℕ) → ((x : ℕ) → times x (xs ++ ys) ≤ 1) → (x : ℕ) → 0 < times x xs → times x ys ≡ 0
lists_apart xs ys once x has = let few = once x in omega (arith, times-append x xs ys)

-- and that both have one plan
pub joined_plan : (v w u : ClaimView) → u ≡ views_joined v w → All (λ p. p ≡ u.plan) u.joined → v.plan ≡ w.plan
joined_plan v w u is all =
    let both : All (λ p. p ≡ v.plan) (w.plan ∷ (v.joined ++ w.joined)) = subst (λ (x : ClaimView). All (λ p. p ≡ x.plan) x.joined) is all in
    sym (All-head (λ p. p ≡ v.plan) w.plan (v.joined ++ w.joined) both)

pub joined_apart : (v w u : ClaimView) → u ≡ views_joined v w → IsOnce u → DrewApart v w
joined_apart v w u is once =
    let both : IsOnce (views_joined v w) = subst IsOnce is once in
    record {
      claiming = lists_apart v.claiming.numbers w.claiming.numbers both.claiming;
      judging = lists_apart v.judging.numbers w.judging.numbers both.judging;
    }
