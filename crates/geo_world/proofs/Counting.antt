-- Counts over the numbers below a number.
use Rattle.std.proofs.Common.{◌≡◌, ℕ, zero, suc, ◌+◌, ◌<◌, ◌≤◌, Bool, true, false, cond, [], ◌∷◌, length, count_by, refl, sym, ap, ap₂, subst, ◌∙◌, ⊎_elim, arith, length-append}
use Rattle.std.proofs.lemmas.Bool.{cases_eq, cond-true, cond-false}
use Rattle.std.proofs.lemmas.List.Sums.{sum_by_push, count_by-le-length}
use Rattle.geo_world.specs.Step.{numbers_below}

pub length-numbers_below : (n : ℕ) → length (numbers_below n) ≡ n
length-numbers_below zero = refl
length-numbers_below (suc n) = omega (arith, length-append (numbers_below n) (n ∷ []), length-numbers_below n)

-- no count is more than the numbers that are tested
pub count-below : (f : ℕ → Bool) (n : ℕ) → count_by f (numbers_below n) ≤ n
count-below f n = omega (arith, count_by-le-length f (numbers_below n), length-numbers_below n)

-- the last number is tested last
pub count-suc : (f : ℕ → Bool) (n : ℕ) → count_by f (numbers_below (suc n)) ≡ count_by f (numbers_below n) + cond (f n) 1 0
count-suc f n = sum_by_push (λ x. cond (f x) 1 0) (numbers_below n) n

-- tests that agree below n count alike
pub count-agree : (f g : ℕ → Bool) (n : ℕ) → ((k : ℕ) → k < n → f k ≡ g k) → count_by f (numbers_below n) ≡ count_by g (numbers_below n)
count-agree f g zero same = refl
count-agree f g (suc n) same =
    let before : count_by f (numbers_below n) ≡ count_by g (numbers_below n) = count-agree f g n (λ k h. same k (omega arith)) in
    let here : cond {A = ℕ} (f n) 1 0 ≡ cond (g n) 1 0 = ap (λ (b : Bool). cond {A = ℕ} b 1 0) (same n (omega arith)) in
    count-suc f n ∙ (ap₂ (λ (a b : ℕ). a + b) before here ∙ sym (count-suc g n))

-- one number more passes: at the last place, or at an earlier one
rises_last : (f g : ℕ → Bool) (n : ℕ) → f n ≡ false → g n ≡ true → ((k : ℕ) → (k ≡ n → ⊥) → f k ≡ g k) →
    count_by g (numbers_below (suc n)) ≡ count_by f (numbers_below (suc n)) + 1
rises_last f g n fails passes same =
    let before : count_by f (numbers_below n) ≡ count_by g (numbers_below n) = count-agree f g n (λ k l. same k (λ q. omega arith)) in
    let now : cond {A = ℕ} (g n) 1 0 ≡ 1 = cond-true (g n) 1 0 passes in
    let was : cond {A = ℕ} (f n) 1 0 ≡ 0 = cond-false (f n) 1 0 fails in
    omega (arith, count-suc f n, count-suc g n)

rises_earlier : (f g : ℕ → Bool) (n : ℕ) → count_by g (numbers_below n) ≡ count_by f (numbers_below n) + 1 → f n ≡ g n →
    count_by g (numbers_below (suc n)) ≡ count_by f (numbers_below (suc n)) + 1
rises_earlier f g n before here =
    let same : cond {A = ℕ} (f n) 1 0 ≡ cond (g n) 1 0 = ap (λ (b : Bool). cond {A = ℕ} b 1 0) here in
    omega (arith, count-suc f n, count-suc g n)

-- one number more passes
pub count-rises : (f g : ℕ → Bool) (n s : ℕ) → s < n → f s ≡ false → g s ≡ true → ((k : ℕ) → (k ≡ s → ⊥) → f k ≡ g k) →
    count_by g (numbers_below n) ≡ count_by f (numbers_below n) + 1
count-rises f g zero s h fails passes same = absurd (omega arith)
count-rises f g (suc n) s h fails passes same =
    ⊎_elim
    (λ e. rises_last f g n (ap f e ∙ fails) (ap g e ∙ passes) (λ k other. same k (λ q. other (q ∙ sym e))))
    (λ other. rises_earlier f g n (count-rises f g n s (omega arith) fails passes same) (same n other))
    (cases_eq n s)

passes_last : (n c : ℕ) (b : Bool) → c ≤ n → suc n ≤ c + cond b 1 0 → b ≡ true
passes_last n c true small all = refl
passes_last n c false small all = absurd (omega arith)

rest_all : (n c : ℕ) (b : Bool) → suc n ≤ c + cond b 1 0 → n ≤ c
rest_all n c true all = omega arith
rest_all n c false all = omega arith

-- where all are counted, each passes
pub count-all : (f : ℕ → Bool) (n : ℕ) → n ≤ count_by f (numbers_below n) → (k : ℕ) → k < n → f k ≡ true
count-all f zero all k h = absurd (omega arith)
count-all f (suc n) all k h =
    let whole : suc n ≤ count_by f (numbers_below n) + cond (f n) 1 0 = subst (λ (c : ℕ). suc n ≤ c) (count-suc f n) all in
    ⊎_elim
    (λ (e : k ≡ n). ap f e ∙ passes_last n (count_by f (numbers_below n)) (f n) (count-below f n) whole)
    (λ (other : k ≡ n → ⊥). count-all f n (rest_all n (count_by f (numbers_below n)) (f n) whole) k (omega arith))
    (cases_eq k n)

-- where each passes, all are counted
pub all-counted : (f : ℕ → Bool) (n : ℕ) → ((k : ℕ) → k < n → f k ≡ true) → count_by f (numbers_below n) ≡ n
all-counted f zero all = refl
all-counted f (suc n) all =
    let before : count_by f (numbers_below n) ≡ n = all-counted f n (λ k h. all k (omega arith)) in
    let here : cond {A = ℕ} (f n) 1 0 ≡ 1 = cond-true (f n) 1 0 (all n (omega arith)) in
    omega (arith, count-suc f n)
