-- How many outcomes there are, and how many of them are that a candidate commits.
use Rattle.std.proofs.Common.{◌≡◌, ℕ, zero, suc, ◌+◌, ◌*◌, ◌^◌, ◌<◌, ◌≤◌, ◌==◌, Bool, true, false, cond, not, All, List, [], ◌∷◌, ◌++◌, length, take, get_or, count_by, map, refl, sym, ap, ◌∙◌, subst, arith, length-append}
use Rattle.std.proofs.lemmas.List.{length-map}
use Rattle.std.proofs.lemmas.List.Elements.{All-filter, All-head, All-tail}
use Rattle.std.proofs.lemmas.List.Sums.{sum_by-cons}
use Rattle.geo_base.specs.declared.limits.TheConstants.{MAX_CANDIDATES, MAX_REGIONS}
use Rattle.geo_base.specs.declared.outcome.Outcome.{Outcome}
use Rattle.write_set.specs.declared.batch.Batch.{Batch}
use Rattle.write_set.specs.Journal.{candidates_of}
use Rattle.write_set.specs.Merge.{verdict_of}
use Rattle.region_core.specs.Region.{Standing, RegionValue, next_epoch, next_batches, next_candidates, last_in}
use Rattle.region_core.specs.Publishing.{next_outcomes}
use Rattle.region_core.specs.Lawful.{IsStanding, IsHeldIn}
use Rattle.region_core.proofs.OwnOutcomes.{length_first}

-- all items either pass or don't
pub pass_or_not : {X : Type 0} (p : X → Bool) (xs : List X) → length xs ≡ count_by p xs + count_by (λ x. not (p x)) xs
pass_or_not p [] = omega arith
pass_or_not p (x ∷ xs) =
    let yes = sum_by-cons (λ y. cond (p y) 1 0) x xs in
    let no = sum_by-cons (λ y. cond (not (p y)) 1 0) x xs in
    let rest = pass_or_not p xs in
    let one = either (p x) in
    omega (arith, yes, no, rest, one)
  where
    either : (b : Bool) → cond b 1 0 + cond (not b) 1 0 ≡ 1
    either true = refl
    either false = refl

few_of : (batches : List Batch) → All (λ b. length b.items ≤ MAX_CANDIDATES) batches → length (candidates_of batches) ≤ length batches * MAX_CANDIDATES
few_of [] few = omega arith
few_of (b ∷ batches) few =
    let here = All-head (λ (x : Batch). length x.items ≤ MAX_CANDIDATES) b batches few in
    let rest = few_of batches (All-tail (λ (x : Batch). length x.items ≤ MAX_CANDIDATES) b batches few) in
    omega (arith, here, rest, length_first b batches)

-- a region's next epoch has few candidates
pub few_next : (s : Standing) → IsStanding s → length (next_batches s) ≡ s.regions → length (next_candidates s) ≤ MAX_REGIONS * MAX_CANDIDATES
few_next s stands whole =
    let held : All (IsHeldIn s) (next_batches s) = All-filter (λ b. next_epoch s == b.epoch) (IsHeldIn s) s.held stands.held in
    let few = few_of (next_batches s) (λ k d within. (held k d within).fits.fits.lawful.few) in
    omega (arith, few, whole, stands.few)

pub few_outcomes : (r : RegionValue) (outcomes : List Outcome) → IsStanding r.standing → length (next_batches r.standing) ≡ r.standing.regions → outcomes ≡ next_outcomes r → length outcomes < 2 ^ 32
few_outcomes r outcomes stands whole is =
    let few = few_next r.standing stands whole in
    let same = ap length is ∙ length-map (next_candidates r.standing) (verdict_of (last_in r) (next_epoch r.standing) (next_candidates r.standing)) in
    omega (arith, few, same)
