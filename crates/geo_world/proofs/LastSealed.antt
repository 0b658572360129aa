-- The last epoch that all regions have sealed: the length of the shortest list.
use Rattle.std.proofs.Common.{ℕ, zero, suc, ◌<◌, ◌≤◌, [], ◌∷◌, length, arith}
use Rattle.write_set.specs.Journal.{Journal, log_of, last_sealed}

-- no list is shorter
pub last_sealed-le-log : (journal : Journal) (region : ℕ) → region < length journal → last_sealed journal ≤ length (log_of journal region)
last_sealed-le-log [] region h = absurd (omega arith)
last_sealed-le-log (log ∷ []) zero h = omega arith
last_sealed-le-log (log ∷ []) (suc region) h = absurd (omega arith)
last_sealed-le-log (log ∷ more ∷ logs) zero h = omega arith
last_sealed-le-log (log ∷ more ∷ logs) (suc region) h = omega (arith, last_sealed-le-log (more ∷ logs) region (omega arith))

-- what no list is shorter than is no more
pub le-last_sealed : (n : ℕ) (journal : Journal) → 1 ≤ length journal → ((region : ℕ) → region < length journal → n ≤ length (log_of journal region)) → n ≤ last_sealed journal
le-last_sealed n [] some each = absurd (omega arith)
le-last_sealed n (log ∷ []) some each = each zero (omega arith)
le-last_sealed n (log ∷ more ∷ logs) some each =
    let here : n ≤ length log = each zero (omega arith) in
    let there : n ≤ last_sealed (more ∷ logs) = le-last_sealed n (more ∷ logs) (omega arith) (λ region h. each (suc region) (omega arith)) in
    omega arith
