-- Laws: how often a number stands in a list, and the list without it.
use Rattle.std.proofs.Common.{◌≡◌, ◌≢◌, ℕ, ◌+◌, ◌<◌, ◌≤◌, Bool, true, false, cond, not, List, [], ◌∷◌, ◌++◌, length, refl, sym, ap, ◌∙◌, arith, eqb-true, eq-eqb, ne_eqb}
use Rattle.std.specs.Prelude.{◌==◌}
use Rattle.std.proofs.lemmas.List.Sums.{sum_by-cons, sum_by-append, count_by-le-length}
use Rattle.std.proofs.lemmas.List.Elements.{filter-append}
use Rattle.std.proofs.lemmas.List.{append-nil}
use mathlib.Core.Logic.{dite}
use native.Mathlib.Decide.{ℕ_discrete}
use Rattle.claim_rule.specs.Views.{times, without}

pub times-append : (x : ℕ) (xs ys : List ℕ) → times x (xs ++ ys) ≡ times x xs + times x ys
times-append x xs ys = sum_by-append (λ y. cond (y == x) 1 0) xs ys

pub times-le-length : (x : ℕ) (xs : List ℕ) → times x xs ≤ length xs
times-le-length x xs = count_by-le-length (λ y. y == x) xs

pub times_none : (x : ℕ) (xs : List ℕ) → length xs ≡ 0 → times x xs ≡ 0
times_none x xs none = let few = times-le-length x xs in omega arith

-- the list without x
pub length-without : (x : ℕ) (xs : List ℕ) → length (without x xs) + times x xs ≡ length xs
length-without x [] = refl
length-without x (y ∷ ys) = by (y == x) refl (length-without x ys)
  where
    by : (b : Bool) → (y == x) ≡ b → length (without x ys) + times x ys ≡ length ys → length (without x (y ∷ ys)) + times x (y ∷ ys) ≡ length (y ∷ ys)
    by true is rest = rw (sum_by-cons (λ z. cond (z == x) 1 0) y ys, is) (omega arith)
    by false is rest = rw (sum_by-cons (λ z. cond (z == x) 1 0) y ys, is) (omega arith)

-- how often another number stands there, and that x doesn't
pub times-without_other : (x z : ℕ) (xs : List ℕ) → z ≢ x → times z (without x xs) ≡ times z xs
times-without_other x z [] other = refl
times-without_other x z (y ∷ ys) other = by (y == x) refl (times-without_other x z ys other)
  where
    by : (b : Bool) → (y == x) ≡ b → times z (without x ys) ≡ times z ys → times z (without x (y ∷ ys)) ≡ times z (y ∷ ys)
    by true is rest =
        let no : (y == z) ≡ false = ne_eqb y z (λ e. other (sym e ∙ eqb-true y x is)) in
        rw (sum_by-cons (λ w. cond (w == z) 1 0) y ys, is, no) (omega arith)
    by false is rest = rw (sum_by-cons (λ w. cond (w == z) 1 0) y ys, is) (omega (arith, sum_by-cons (λ w. cond (w == z) 1 0) y (without x ys)))

pub times-without_same : (x : ℕ) (xs : List ℕ) → times x (without x xs) ≡ 0
times-without_same x [] = refl
times-without_same x (y ∷ ys) = by (y == x) refl (times-without_same x ys)
  where
    by : (b : Bool) → (y == x) ≡ b → times x (without x ys) ≡ 0 → times x (without x (y ∷ ys)) ≡ 0
    by true is rest = rw is rest
    by false is rest = rw is (sum_by-cons (λ w. cond (w == x) 1 0) y (without x ys) ∙ rw is (omega arith))

pub times-without-le : (x z : ℕ) (xs : List ℕ) → times z (without x xs) ≤ times z xs
times-without-le x z xs = dite (ℕ_discrete z x)
    (λ (same : z ≡ x). let none : times z (without x xs) ≡ 0 = ap (λ (n : ℕ). times n (without x xs)) same ∙ times-without_same x xs in omega arith)
    (λ (other : z ≢ x). let is = times-without_other x z xs other in omega arith)

-- a number that was put at the end stands there
pub times_pushed : (x : ℕ) (xs : List ℕ) → 0 < times x (xs ++ x ∷ [])
times_pushed x xs =
    let one : times x (x ∷ []) ≡ 1 = ap (λ (b : Bool). 0 + cond b 1 0) (eq-eqb x x refl) in
    omega (arith, times-append x xs (x ∷ []))

-- a list that lacks x is the list without it
pub without-absent : (x : ℕ) (xs : List ℕ) → times x xs ≡ 0 → without x xs ≡ xs
without-absent x [] none = refl
without-absent x (y ∷ ys) none = by (y == x) refl (λ e. without-absent x ys e)
  where
    by : (b : Bool) → (y == x) ≡ b → (times x ys ≡ 0 → without x ys ≡ ys) → without x (y ∷ ys) ≡ y ∷ ys
    by true is rest = let one : cond {A = ℕ} (y == x) 1 0 ≡ 1 = ap (λ (b : Bool). cond {A = ℕ} b 1 0) is in absurd (omega (arith, sum_by-cons (λ z. cond (z == x) 1 0) y ys))
    by false is rest =
        let none_there : times x ys ≡ 0 = omega (arith, sum_by-cons (λ z. cond (z == x) 1 0) y ys) in
        rw is (ap (λ (l : List ℕ). y ∷ l) (rest none_there))

-- what was put at the end is taken out again
pub without-pushed : (x : ℕ) (xs : List ℕ) → times x xs ≡ 0 → without x (xs ++ x ∷ []) ≡ xs
without-pushed x xs none =
    let last : without x (x ∷ []) ≡ [] = ap (λ (b : Bool). cond (not b) (x ∷ []) []) (eq-eqb x x refl) in
    filter-append (λ y. not (y == x)) xs (x ∷ []) ∙ ap (λ (l : List ℕ). without x xs ++ l) last ∙ append-nil (without x xs) ∙ without-absent x xs none
