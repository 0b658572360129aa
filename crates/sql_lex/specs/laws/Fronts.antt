-- Laws: the longest front of a list whose elements pass a test.
use Rattle.std.proofs.Common.{◌≡◌, ◌<◌, ◌+◌, ◌&&◌, ℕ, suc, Bool, true, false, cond, List, [], ◌∷◌, ◌++◌, length, take, drop, get_or, refl, subst, arith}
use Rattle.std.specs.List.{list_all, prefix_len}

-- the parts of a test of each element
pub first_passes : (p : ℕ → Bool) (x : ℕ) (xs : List ℕ) → list_all p (x ∷ xs) ≡ true → p x ≡ true
first_passes p x xs h = by (p x) h
  where
    by : (b : Bool) → (b && list_all p xs) ≡ true → b ≡ true
    by true h = refl
    by false h = h

pub rest_passes : (p : ℕ → Bool) (x : ℕ) (xs : List ℕ) → list_all p (x ∷ xs) ≡ true → list_all p xs ≡ true
rest_passes p x xs h = by (p x) h
  where
    by : (b : Bool) → (b && list_all p xs) ≡ true → list_all p xs ≡ true
    by true h = h
    by false h = cc

module _ (p : ℕ → Bool) where
  pub passing : (xs : List ℕ) → list_all p (take (prefix_len p xs) xs) ≡ true
  passing [] = refl
  passing (x ∷ xs) = by (p x) refl (passing xs)
    where
      by : (b : Bool) → p x ≡ b → list_all p (take (prefix_len p xs) xs) ≡ true → list_all p (take (cond b (1 + prefix_len p xs) 0) (x ∷ xs)) ≡ true
      by true e rest =
          let one : suc (prefix_len p xs) ≡ 1 + prefix_len p xs = omega arith in
          subst (λ n. list_all p (take n (x ∷ xs)) ≡ true) one (rw e rest)
      by false e rest = refl

  -- what follows it begins with no element that passes
  pub stopping : p 0 ≡ false → (xs : List ℕ) → p (get_or (drop (prefix_len p xs) xs) 0 0) ≡ false
  stopping none [] = none
  stopping none (x ∷ xs) = by (p x) refl (stopping none xs)
    where
      by : (b : Bool) → p x ≡ b → p (get_or (drop (prefix_len p xs) xs) 0 0) ≡ false → p (get_or (drop (cond b (1 + prefix_len p xs) 0) (x ∷ xs)) 0 0) ≡ false
      by true e rest =
          let one : suc (prefix_len p xs) ≡ 1 + prefix_len p xs = omega arith in
          subst (λ n. p (get_or (drop n (x ∷ xs)) 0 0) ≡ false) one rest
      by false e rest = e

  pub nonempty : p 0 ≡ false → (xs : List ℕ) → p (get_or xs 0 0) ≡ true → 0 < prefix_len p xs
  nonempty none [] first = cc
  nonempty none (x ∷ xs) first = rw first (omega arith)

  -- no other front is it
  pub exactly : (xs more : List ℕ) → list_all p xs ≡ true → p (get_or more 0 0) ≡ false → prefix_len p (xs ++ more) ≡ length xs
  exactly [] [] pass stop = refl
  exactly [] (y ∷ more) pass stop = rw stop refl
  exactly (x ∷ xs) more pass stop = rw (first_passes p x xs pass) (omega (arith, exactly xs more (rest_passes p x xs pass) stop))
