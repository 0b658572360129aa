-- The batches of an epoch: how many candidates they have, that words hold their claims, and that their claims are a plan.
use Rattle.std.proofs.Common.{◌≡◌, ℕ, suc, ◌+◌, ◌-◌, ◌*◌, ◌^◌, ◌<◌, ◌≤◌, Bool, true, false, cond, List, [], ◌∷◌, length, map, All, Contains, refl, ap, arith}
use Rattle.std.specs.List.{AllByRecursion}
use Rattle.std.specs.Map.{keys_of}
use Rattle.std.proofs.lemmas.List.{length-append, length-map}
use Rattle.std.proofs.lemmas.List.Elements.{All-head, All-tail, All-append, All-from_recursion}
use Rattle.geo_base.specs.declared.limits.TheConstants.{MAX_CANDIDATES}
use Rattle.geo_base.specs.declared.row_id.RowId.{RowId}
use Rattle.geo_base.specs.Claims.{word_of, IsClaim}
use Rattle.write_set.specs.declared.candidate.Candidate.{Candidate}
use Rattle.write_set.specs.declared.batch.Batch.{Batch}
use Rattle.write_set.specs.Journal.{Placed, placed_from, candidates_of, IsCandidate, AreBatches}
use Rattle.write_set.specs.Merge.{claim_of, is_fresh}
use Rattle.write_set.specs.laws.Among.{among_first, among_later}
use Rattle.claim_rule.specs.Plan.{IsPlan}
use Rattle.merge_round.specs.Rounds.{rows_in, number_in, claims_of, plan_by, AreClaims}
use Rattle.merge_round.proofs.Numbers.{number_named, row_known}

pub few_items : (region epoch : ℕ) (bs : List Batch) → AreBatches region epoch bs → All (λ b. length b.items ≤ MAX_CANDIDATES) bs
few_items region epoch bs lawful = All-from_recursion (λ b. length b.items ≤ MAX_CANDIDATES) bs (by region bs lawful)
  where
    by : (r : ℕ) (ds : List Batch) → AreBatches r epoch ds → AllByRecursion (λ b. length b.items ≤ MAX_CANDIDATES) ds
    by r [] lawful = tt
    by r (d ∷ ds) lawful = (lawful.0.few, by (r + 1) ds lawful.1)

-- ---- how many

placed_length : (region csn : ℕ) (cs : List Candidate) → length (placed_from region csn cs) ≡ length cs
placed_length region csn [] = refl
placed_length region csn (c ∷ cs) = ap suc (placed_length region (csn + 1) cs)

pub few_candidates : (region epoch : ℕ) (bs : List Batch) → AreBatches region epoch bs → length (candidates_of bs) ≤ length bs * 4096
few_candidates region epoch [] lawful = omega arith
few_candidates region epoch (b ∷ bs) lawful =
    let rest = few_candidates (region + 1) epoch bs lawful.1 in
    let here = placed_length b.region 0 b.items in
    let few : length b.items ≤ 4096 = lawful.0.few in
    omega (arith, length-append (placed_from b.region 0 b.items) (candidates_of bs))

-- ---- claims

placed_claims : (region epoch csn : ℕ) (cs : List Candidate) → region < 256 → epoch < 2 ^ 32 → csn + length cs ≤ 4096 → All (IsCandidate epoch) cs → AreClaims (placed_from region csn cs)
placed_claims region epoch csn cs low below few lawful = All-from_recursion (λ c. IsClaim (claim_of c)) (placed_from region csn cs) (by csn cs few lawful)
  where
    by : (n : ℕ) (ds : List Candidate) → n + length ds ≤ 4096 → All (IsCandidate epoch) ds → AllByRecursion (λ c. IsClaim (claim_of c)) (placed_from region n ds)
    by n [] few lawful = tt
    by n (d ∷ ds) few lawful =
        let here = All-head (IsCandidate epoch) d ds lawful in
        let start : d.start < 2 ^ 32 - 1 = (let earlier = here.earlier in omega arith) in
        (record { start = start; csn = omega (arith, few); region = omega (arith, low) }, by (n + 1) ds (omega (arith, few)) (All-tail (IsCandidate epoch) d ds lawful))

pub batch_claims : (region epoch : ℕ) (bs : List Batch) → AreBatches region epoch bs → region + length bs ≤ 256 → epoch < 2 ^ 32 → AreClaims (candidates_of bs)
batch_claims region epoch [] lawful low below = All-from_recursion (λ c. IsClaim (claim_of c)) [] tt
batch_claims region epoch (b ∷ bs) lawful low below =
    let is = lawful.0.region in
    let few : length b.items ≤ 4096 = lawful.0.few in
    All-append (λ c. IsClaim (claim_of c)) (placed_from b.region 0 b.items) (candidates_of bs)
    (placed_claims b.region epoch 0 b.items (omega arith) below (omega arith) lawful.0.lawful)
    (batch_claims (region + 1) epoch bs lawful.1 (omega arith) below)

-- ---- the plan

pub is_plan : (last : RowId → ℕ) (all : List Placed) → IsPlan (plan_by last all) (length (rows_in all)) (length all)
is_plan last all = record {
  counted = length-map all (claims_of last (rows_in all));
  within = All-from_recursion (All (λ (pair : ℕ × ℕ). pair.0 < length (rows_in all))) (plan_by last all) (by all (λ c h r k. row_known all c r h k));
}
  where
    names : (w : ℕ) (ns : List RowId) → ((r : RowId) → Contains ns r → Contains (rows_in all) r) →
        AllByRecursion (λ (pair : ℕ × ℕ). pair.0 < length (rows_in all)) (map (λ r. (number_in (rows_in all) r, w)) ns)
    names w [] known = tt
    names w (n ∷ ns) known = ((number_named (rows_in all) n (known n (among_first n ns))).0, names w ns (λ r h. known r (among_later n r ns h)))

    one : (c : Placed) (b : Bool) → ((r : RowId) → Contains (keys_of c.set) r → Contains (rows_in all) r) →
        All (λ (pair : ℕ × ℕ). pair.0 < length (rows_in all)) (cond b (map (λ r. (number_in (rows_in all) r, word_of (claim_of c))) (keys_of c.set)) [])
    one c true known = All-from_recursion (λ (pair : ℕ × ℕ). pair.0 < length (rows_in all)) (map (λ r. (number_in (rows_in all) r, word_of (claim_of c))) (keys_of c.set)) (names (word_of (claim_of c)) (keys_of c.set) known)
    one c false known = All-from_recursion (λ (pair : ℕ × ℕ). pair.0 < length (rows_in all)) [] tt

    by : (cs : List Placed) → ((c : Placed) → Contains cs c → (r : RowId) → Contains (keys_of c.set) r → Contains (rows_in all) r) →
        AllByRecursion (All (λ (pair : ℕ × ℕ). pair.0 < length (rows_in all))) (map (claims_of last (rows_in all)) cs)
    by [] known = tt
    by (c ∷ cs) known = (one c (is_fresh last c) (known c (among_first c cs)), by cs (λ d h. known d (among_later c d cs h)))
