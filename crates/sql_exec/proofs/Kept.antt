-- A loop over rows that pushes those that the tests keep.
use Rattle.std.proofs.Common.{◌≡◌, ℕ, ◌+◌, ◌<◌, ◌≤◌, Bool, true, false, Result, Ok, Err, List, [], ◌∷◌, ◌++◌, drop, get_or, length, map, refl, sym, ap, subst, ◌∙◌, append_assoc}
use Rattle.std.proofs.lemmas.List.{append-nil, drop_all, drop_more, map-append}
use Rattle.geo_base.specs.Results.{◌>>=◌}
use Rattle.geo_base.specs.declared.cell.Cell.{Cell}
use Rattle.row_source.specs.Matches.{in_statement, kept_of}
use Rattle.row_source.specs.declared.fault.ExecFault.{ExecFault}
use Rattle.sql_exec.specs.inner.Plain.{kept_behind, kept_rows}
use Rattle.sql_expr.specs.Conditions.{kept}
use Rattle.sql_expr.specs.declared.expr.Expr.{Expr}

abbrev Rows : Type 0
Rows = List (List Cell)

abbrev Answer : Type 0
Answer = Result Rows ExecFault

in_front : (done : Rows) (row : List Cell) (rest : Answer) →
    ((rest >>= λ more. Ok (row ∷ more)) >>= λ more. Ok (done ++ more)) ≡ (rest >>= λ more. Ok ((done ++ row ∷ []) ++ more))
in_front done row (Ok more) = ap (λ (rows : Rows). let r : Answer = Ok rows in r) (sym (append_assoc done (row ∷ []) more))
in_front done row (Err e) = refl

-- the next row is kept
goes_on : (tests : List Expr) (done : Rows) (row : List Cell) (rows : Rows) → in_statement (kept row tests) ≡ Ok true →
    kept_behind tests done (row ∷ rows) ≡ kept_behind tests (done ++ row ∷ []) rows
unfolding kept_behind
goes_on tests done row rows is = rw is (in_front done row (kept_of (λ r. r) tests rows))

-- the next row is dropped
passes_over : (tests : List Expr) (done : Rows) (row : List Cell) (rows : Rows) → in_statement (kept row tests) ≡ Ok false →
    kept_behind tests done (row ∷ rows) ≡ kept_behind tests done rows
unfolding kept_behind
passes_over tests done row rows is = rw is (by (kept_of (λ r. r) tests rows))
  where
    by : (rest : Answer) → ((rest >>= λ more. Ok more) >>= λ more. Ok (done ++ more)) ≡ (rest >>= λ more. Ok (done ++ more))
    by (Ok more) = refl
    by (Err e) = refl

-- a test of the next row has a fault
stops : (tests : List Expr) (done : Rows) (row : List Cell) (rows : Rows) (e : ExecFault) → in_statement (kept row tests) ≡ Err e →
    kept_behind tests done (row ∷ rows) ≡ Err e
unfolding kept_behind
stops tests done row rows e is = rw is refl

-- there is no next row
ends : (tests : List Expr) (done : Rows) → kept_behind tests done [] ≡ Ok done
unfolding kept_behind
ends tests done = ap (λ (rows : Rows). let r : Answer = Ok rows in r) (append-nil done)

-- there is no row before the first
pub begins : (tests : List Expr) (rows : Rows) → kept_behind tests [] rows ≡ kept_rows tests rows
unfolding kept_behind kept_rows
begins tests rows = by (kept_of (λ r. r) tests rows)
  where
    by : (rest : Answer) → (rest >>= λ more. Ok ([] ++ more)) ≡ rest
    by (Ok more) = refl
    by (Err e) = refl

-- ---- the loop, over anything that has cells

module _ {A : Type 0} (cells : A → List Cell) (tests : List Expr) where
  -- the rows are kept up to a place: those so far, and behind them those that the tests keep of the rest
  abbrev pub IsKeptTo : List A → List A → ℕ → Type 0
  IsKeptTo rows done i = kept_behind tests (map cells done) (map cells (drop i rows)) ≡ kept_rows tests (map cells rows)

  next_row : (rows : List A) (i : ℕ) (row : A) → i < length rows → row ≡ get_or rows i row → map cells (drop i rows) ≡ cells row ∷ map cells (drop (i + 1) rows)
  next_row rows i row within at =
      ap (map cells) (drop_more rows i row within) ∙ ap (λ (r : A). cells r ∷ map cells (drop (i + 1) rows)) (sym at)

  -- from the place of a row on
  from_row : (rows done : List A) (i : ℕ) (row : A) → i < length rows → row ≡ get_or rows i row → IsKeptTo rows done i →
      kept_behind tests (map cells done) (cells row ∷ map cells (drop (i + 1) rows)) ≡ kept_rows tests (map cells rows)
  from_row rows done i row within at before = ap (kept_behind tests (map cells done)) (sym (next_row rows i row within at)) ∙ before

  pub one_kept : (rows done more : List A) (i : ℕ) (row : A) (seen : List Cell) (b : Bool) → i < length rows → row ≡ get_or rows i row → IsKeptTo rows done i →
      seen ≡ cells row → in_statement (kept seen tests) ≡ Ok b → b ≡ true → more ≡ done ++ row ∷ [] → IsKeptTo rows more (i + 1)
  one_kept rows done more i row seen b within at before shown test passes pushed =
      let kept_on : in_statement (kept (cells row) tests) ≡ Ok true =
      subst (λ (r : List Cell). in_statement (kept r tests) ≡ Ok true) shown (subst (λ (x : Bool). in_statement (kept seen tests) ≡ Ok x) passes test) in
      rw (pushed, map-append cells done (row ∷ []))
      (sym (goes_on tests (map cells done) (cells row) (map cells (drop (i + 1) rows)) kept_on) ∙ from_row rows done i row within at before)

  pub one_dropped : (rows done more : List A) (i : ℕ) (row : A) (seen : List Cell) (b : Bool) → i < length rows → row ≡ get_or rows i row → IsKeptTo rows done i →
      seen ≡ cells row → in_statement (kept seen tests) ≡ Ok b → b ≡ false → more ≡ done → IsKeptTo rows more (i + 1)
  one_dropped rows done more i row seen b within at before shown test fails same =
      let dropped : in_statement (kept (cells row) tests) ≡ Ok false =
      subst (λ (r : List Cell). in_statement (kept r tests) ≡ Ok false) shown (subst (λ (x : Bool). in_statement (kept seen tests) ≡ Ok x) fails test) in
      rw same
      (sym (passes_over tests (map cells done) (cells row) (map cells (drop (i + 1) rows)) dropped) ∙ from_row rows done i row within at before)

  pub one_fault : (rows done : List A) (i : ℕ) (row : A) (seen : List Cell) (e : ExecFault) → i < length rows → row ≡ get_or rows i row → IsKeptTo rows done i →
      seen ≡ cells row → in_statement (kept seen tests) ≡ Err e → kept_rows tests (map cells rows) ≡ Err e
  one_fault rows done i row seen e within at before shown test =
      let fault : in_statement (kept (cells row) tests) ≡ Err e = subst (λ (r : List Cell). in_statement (kept r tests) ≡ Err e) shown test in
      sym (from_row rows done i row within at before) ∙ stops tests (map cells done) (cells row) (map cells (drop (i + 1) rows)) e fault

  pub all_kept : (rows done : List A) (i : ℕ) → length rows ≤ i → IsKeptTo rows done i → kept_rows tests (map cells rows) ≡ Ok (map cells done)
  all_kept rows done i past before =
      sym before ∙ ap (λ (more : List A). kept_behind tests (map cells done) (map cells more)) (drop_all i rows past) ∙ ends tests (map cells done)
