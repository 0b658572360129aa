-- Names of candidates, and outcomes, that compare equal are one value.
use Rattle.std.proofs.Common.{◌≡◌, ℕ, true, refl, subst, arith}
use Rattle.std.specs.Prelude.{◌==◌}
use Rattle.std.specs.Bool.{Decides}
use Rattle.std.specs.Cmp.{first_so, second_so}
use Rattle.std.proofs.lemmas.Bool.Decides.{nat_tests}
use Rattle.geo_base.specs.declared.numbers.CandId.{CandId}
use Rattle.geo_base.specs.declared.outcome.Outcome.{Outcome}
use Rattle.geo_base.specs.declared.outcome.Outcome.TheVariants.{Committed, Changed, Beaten}
use Rattle.geo_base.specs.contracts.numbers.CandIdEq.TheImpl.Laws as candidate
use Rattle.geo_base.specs.contracts.outcome.OutcomeEq.TheImpl.Laws as outcome
use Rattle.geo_base.specs.Order.{row_eq}
use Rattle.geo_base.specs.Equality.{candidate_eq, outcome_eq}
use Rattle.geo_base.specs.laws.Orders.{row_eq_decides}

same_number : (x y : ℕ) → (x == y) ≡ true → x ≡ y
same_number x y h = grind (arith, nat_tests)

same_candidate : (a b : CandId) → candidate_eq a b ≡ true → a ≡ b
same_candidate a b h =
    let epoch : a.epoch ≡ b.epoch = grind (arith, nat_tests) in
    let region : a.region ≡ b.region = grind (arith, nat_tests) in
    let csn : a.csn ≡ b.csn = grind (arith, nat_tests) in
    λ i. record { epoch = epoch i; region = region i; csn = csn i }

same_outcome : (a b : Outcome) → outcome_eq a b ≡ true → a ≡ b
same_outcome Committed Committed h = refl
same_outcome Committed (Changed s f) h = cc
same_outcome Committed (Beaten s v) h = cc
same_outcome (Changed r e) Committed h = cc
same_outcome (Changed r e) (Changed s f) h =
    let row = (row_eq_decides r s).0 (first_so (row_eq r s) (e == f) h) in
    let epoch = same_number e f (second_so (row_eq r s) (e == f) h) in
    λ i. Changed (row i) (epoch i)
same_outcome (Changed r e) (Beaten s v) h = cc
same_outcome (Beaten r w) Committed h = cc
same_outcome (Beaten r w) (Changed s f) h = cc
same_outcome (Beaten r w) (Beaten s v) h =
    let row = (row_eq_decides r s).0 (first_so (row_eq r s) (candidate_eq w v) h) in
    let winner = same_candidate w v (second_so (row_eq r s) (candidate_eq w v) h) in
    λ i. Beaten (row i) (winner i)

pub candidate_eq_decides : (a b : CandId) → Decides (candidate_eq a b) (a ≡ b)
candidate_eq_decides a b = (same_candidate a b, λ e. subst (λ c. candidate_eq a c ≡ true) e (candidate.laws-law.refl a))

pub outcome_eq_decides : (a b : Outcome) → Decides (outcome_eq a b) (a ≡ b)
outcome_eq_decides a b = (same_outcome a b, λ e. subst (λ c. outcome_eq a c ≡ true) e (outcome.laws-law.refl a))
