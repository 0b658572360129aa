-- Pairs that are kept one after another.
use Rattle.std.proofs.Common.{◌≡◌, ℕ, ◌+◌, ◌<◌, ◌≤◌, Bool, true, false, if◌then◌else◌, Option, Result, Ok, Err, inl, inr, List, [], ◌∷◌, ◌++◌, drop, get_or, length, refl, sym, ap, subst, ◌∙◌, append_assoc}
use Rattle.std.proofs.lemmas.List.{append-nil, drop_all, drop_more}
use Rattle.geo_base.specs.Results.{◌>>=◌, Fails}
use Rattle.geo_base.specs.declared.cell.Cell.{Cell}
use Rattle.geo_base.specs.declared.row_image.RowImage.{RowImage}
use Rattle.join_exec.specs.inner.Kept.{kept_behind, pair_of}
use Rattle.row_source.specs.Matches.{in_statement, kept_of, pair_cells, right_cells}
use Rattle.row_source.specs.declared.fault.ExecFault.{ExecFault}
use Rattle.row_source.specs.declared.fault.ExecFault.TheVariants as exec
use Rattle.row_source.specs.declared.pair.Pair.{Pair}
use Rattle.sql_expr.specs.Conditions.{kept}
use Rattle.sql_expr.specs.declared.expr.Expr.{Expr}

abbrev pub Answer : Type 0
Answer = Result (List Pair) ExecFault

-- a step that only answers again changes nothing
pub same_again : (r : Answer) → (r >>= λ x. Ok x) ≡ r
same_again (Ok x) = refl
same_again (Err e) = refl

-- ---- lists of pairs behind one another

-- a pair in front of those that are kept of the rest
abbrev in_front : Pair → Result Bool ExecFault → Answer → Answer
in_front x test rest = test >>= λ passes. rest >>= λ more. Ok (if passes then x ∷ more else more)

regrouped : (x : Pair) (test : Result Bool ExecFault) (front rest : Answer) →
    in_front x test (front >>= λ some. rest >>= λ more. Ok (some ++ more)) ≡ (in_front x test front >>= λ some. rest >>= λ more. Ok (some ++ more))
regrouped x (Err e) front rest = refl
regrouped x (Ok b) (Err e) rest = refl
regrouped x (Ok b) (Ok some) (Err e) = refl
regrouped x (Ok true) (Ok some) (Ok more) = refl
regrouped x (Ok false) (Ok some) (Ok more) = refl

pub appended : (tests : List Expr) (xs ys : List Pair) →
    kept_of pair_cells tests (xs ++ ys) ≡ (kept_of pair_cells tests xs >>= λ some. kept_of pair_cells tests ys >>= λ more. Ok (some ++ more))
appended tests [] ys = sym (same_again (kept_of pair_cells tests ys))
appended tests (x ∷ xs) ys =
    ap (in_front x (in_statement (kept (pair_cells x) tests))) (appended tests xs ys)
    ∙ regrouped x (in_statement (kept (pair_cells x) tests)) (kept_of pair_cells tests xs) (kept_of pair_cells tests ys)

same_list : (xs ys : List Pair) → (let r : Answer = Ok xs in r) ≡ Ok ys → xs ≡ ys
same_list xs ys same = cc

-- the front part is kept
goes_on : (tests : List Expr) (done more xs ys : List Pair) → kept_behind tests done xs ≡ Ok more → kept_behind tests done (xs ++ ys) ≡ kept_behind tests more ys
unfolding kept_behind
goes_on tests done more xs ys is =
    ap (λ (r : Answer). r >>= λ rest. Ok (done ++ rest)) (appended tests xs ys) ∙ by (kept_of pair_cells tests xs) (kept_of pair_cells tests ys) is
  where
    by : (front rest : Answer) → (front >>= λ some. Ok (done ++ some)) ≡ Ok more →
        ((front >>= λ some. rest >>= λ rest. Ok (some ++ rest)) >>= λ rest. Ok (done ++ rest)) ≡ (rest >>= λ rest. Ok (more ++ rest))
    by (Err e) rest is = absurd cc
    by (Ok some) (Err e) is = refl
    by (Ok some) (Ok rest) is =
        ap (λ (all : List Pair). let r : Answer = Ok all in r) (sym (append_assoc done some rest) ∙ ap (λ (front : List Pair). front ++ rest) (same_list (done ++ some) more is))

-- it has a fault
stops : (tests : List Expr) (done xs ys : List Pair) (e : ExecFault) → kept_behind tests done xs ≡ Err e → kept_behind tests done (xs ++ ys) ≡ Err e
unfolding kept_behind
stops tests done xs ys e is =
    ap (λ (r : Answer). r >>= λ rest. Ok (done ++ rest)) (appended tests xs ys) ∙ by (kept_of pair_cells tests xs) (kept_of pair_cells tests ys) is
  where
    by : (front rest : Answer) → (front >>= λ some. Ok (done ++ some)) ≡ Err e →
        ((front >>= λ some. rest >>= λ rest. Ok (some ++ rest)) >>= λ rest. Ok (done ++ rest)) ≡ Err e
    by (Err f) rest is = is
    by (Ok some) rest is = absurd cc

-- nothing is added
pub nothing : (tests : List Expr) (done : List Pair) → kept_behind tests done [] ≡ Ok done
unfolding kept_behind
nothing tests done = ap (λ (all : List Pair). let r : Answer = Ok all in r) (append-nil done)

-- nothing was kept before
pub begins : (tests : List Expr) (pairs : List Pair) → kept_behind tests [] pairs ≡ kept_of pair_cells tests pairs
unfolding kept_behind
begins tests pairs = same_again (kept_of pair_cells tests pairs)

-- ---- one pair

module _ (tests : List Expr) (done : List Pair) (left : RowImage) (right : Option RowImage) (l r : List Cell) (on_left : l ≡ left) (on_right : r ≡ right_cells right) where
  -- the cells are those of the pair
  of_pair : (answer : Result Bool ExecFault) → in_statement (kept (l ++ r) tests) ≡ answer → in_statement (kept (pair_cells (pair_of left right)) tests) ≡ answer
  of_pair answer test =
      subst (λ (cells : List Cell). in_statement (kept cells tests) ≡ answer) (ap (λ (cells : List Cell). cells ++ r) on_left ∙ ap (λ (cells : List Cell). left ++ cells) on_right) test

  pub one_kept : (b : Bool) (pair : Pair) (more : List Pair) → in_statement (kept (l ++ r) tests) ≡ Ok b → b ≡ true → pair ≡ pair_of left right → more ≡ done ++ pair ∷ [] →
      kept_behind tests done (pair_of left right ∷ []) ≡ Ok more
  unfolding kept_behind
  one_kept b pair more test passes copied pushed = rw (of_pair (Ok b) test, passes, pushed, copied) refl

  pub one_dropped : (b : Bool) → in_statement (kept (l ++ r) tests) ≡ Ok b → b ≡ false → kept_behind tests done (pair_of left right ∷ []) ≡ Ok done
  unfolding kept_behind
  one_dropped b test fails = rw (of_pair (Ok b) test, fails) (ap (λ (all : List Pair). let r : Answer = Ok all in r) (append-nil done))

  pub one_fault : (e : ExecFault) → in_statement (kept (l ++ r) tests) ≡ Err e → Fails exec.NoMemory e (kept_behind tests done (pair_of left right ∷ []))
  unfolding kept_behind
  one_fault e test = inr (rw (of_pair (Err e) test) refl)

-- ---- a loop that keeps pairs for each of some things

-- what was kept so far, and behind it what is kept of the rest, is what is kept of all
abbrev pub IsKeptTo : {A : Type 0} → List Expr → (List A → List Pair) → List Pair → List A → List Pair → ℕ → Type 0
IsKeptTo tests pairs start xs done i = kept_behind tests done (pairs (drop i xs)) ≡ kept_behind tests start (pairs xs)

module _ {A : Type 0} (tests : List Expr) (pairs : List A → List Pair) (one : A → List Pair) (first : (x : A) (xs : List A) → pairs (x ∷ xs) ≡ one x ++ pairs xs) (start : List Pair) (xs : List A) where
  from_here : (done : List Pair) (i : ℕ) (x : A) → i < length xs → x ≡ get_or xs i x → IsKeptTo tests pairs start xs done i →
      kept_behind tests done (one x ++ pairs (drop (i + 1) xs)) ≡ kept_behind tests start (pairs xs)
  from_here done i x within at before =
      let rest : drop i xs ≡ x ∷ drop (i + 1) xs = drop_more xs i x within ∙ ap (λ (y : A). y ∷ drop (i + 1) xs) (sym at) in
      let next : pairs (drop i xs) ≡ one x ++ pairs (drop (i + 1) xs) = ap pairs rest ∙ first x (drop (i + 1) xs) in
      ap (kept_behind tests done) (sym next) ∙ before

  pub turn : (done more : List Pair) (i : ℕ) (x : A) → i < length xs → x ≡ get_or xs i x → IsKeptTo tests pairs start xs done i →
      kept_behind tests done (one x) ≡ Ok more → IsKeptTo tests pairs start xs more (i + 1)
  turn done more i x within at before step = sym (goes_on tests done more (one x) (pairs (drop (i + 1) xs)) step) ∙ from_here done i x within at before

  pub fault : (done : List Pair) (i : ℕ) (x : A) (e : ExecFault) → i < length xs → x ≡ get_or xs i x → IsKeptTo tests pairs start xs done i →
      Fails exec.NoMemory e (kept_behind tests done (one x)) → Fails exec.NoMemory e (kept_behind tests start (pairs xs))
  fault done i x e within at before (inl lost) = inl lost
  fault done i x e within at before (inr is) =
      inr (sym (from_here done i x within at before) ∙ stops tests done (one x) (pairs (drop (i + 1) xs)) e is)

pub end : {A : Type 0} (tests : List Expr) (pairs : List A → List Pair) (start : List Pair) (xs : List A) (done : List Pair) (i : ℕ) → pairs [] ≡ [] →
    length xs ≤ i → IsKeptTo tests pairs start xs done i → kept_behind tests start (pairs xs) ≡ Ok done
end tests pairs start xs done i empty past before =
    sym before ∙ ap (kept_behind tests done) (ap pairs (drop_all i xs past) ∙ empty) ∙ nothing tests done
