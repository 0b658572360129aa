-- How long runs are, and the lines of runs.
use Rattle.std.proofs.Common.{◌≡◌, ℕ, zero, suc, ◌+◌, ◌-◌, ◌<◌, ◌≤◌, Bool, true, false, if◌then◌else◌, List, [], ◌∷◌, ◌++◌, drop, take, get_or, length, map, Result, Ok, refl, sym, ap, subst, ◌∙◌, arith}
use Rattle.std.specs.Ordering.{is_eq, is_ne}
use Rattle.std.specs.declared.cmp.Ordering.{Ordering}
use Rattle.std.specs.declared.cmp.Ordering.TheVariants.{Less, Equal, Greater}
use Rattle.std.proofs.lemmas.List.{drop-drop, drop-map, length-drop, length-map, length-take-le, take-map}
use Rattle.geo_base.specs.Results.{Fails}
use Rattle.row_source.specs.declared.fault.ExecFault.{ExecFault}
use Rattle.row_source.specs.declared.fault.ExecFault.TheVariants as fault
use Rattle.sql_bind.specs.Steps.{each, each_behind}
use Rattle.sql_bind.specs.declared.bound.Item.{Item}
use Rattle.sql_bind.specs.declared.bound.Sort.{Sort}
use Rattle.group_exec.specs.Groups.{RowWithArguments, groups_of}
use Rattle.group_exec.specs.Results.{LineOfRow, by_all, group_line, ordered}
use Rattle.group_exec.specs.declared.made.Made.{Made}
use Rattle.group_exec.specs.inner.Made.{seen_line, seen_row}
use Rattle.group_exec.specs.inner.Runs.{as_row, joined, rising_by, run_length, runs}
use Rattle.group_exec.proofs.Making.{each_seen, one_made, one_refused}
use Rattle.group_exec.proofs.Runs.{groups_are_runs}

apart_is : (o : Ordering) → is_ne o ≡ true → is_eq o ≡ false
apart_is Less h = refl
apart_is Equal h = absurd cc
apart_is Greater h = refl

tied_is : (o : Ordering) → is_ne o ≡ false → is_eq o ≡ true
tied_is Less h = absurd cc
tied_is Equal h = refl
tied_is Greater h = absurd cc

module _ (sorts : List Sort) where
  -- the run goes on behind a place, or ends there
  run_at : (lines : List LineOfRow) (k : ℕ) (d : LineOfRow) → suc k < length lines →
      run_length sorts (drop k lines) ≡ (if is_eq (by_all sorts (get_or lines k d) (get_or lines (suc k) d)) then suc (run_length sorts (drop (suc k) lines)) else 1)
  run_at [] k d within = absurd (omega arith)
  run_at (l ∷ []) k d within = absurd (omega arith)
  run_at (l ∷ m ∷ lines) zero d within = refl
  run_at (l ∷ m ∷ lines) (suc k) d within = run_at (m ∷ lines) k d (omega arith)

  last_one : (lines : List LineOfRow) (k : ℕ) → suc k ≡ length lines → run_length sorts (drop k lines) ≡ 1
  last_one [] k is = absurd (omega arith)
  last_one (l ∷ []) zero is = refl
  last_one (l ∷ []) (suc k) is = absurd (omega arith)
  last_one (l ∷ m ∷ lines) zero is = absurd (omega arith)
  last_one (l ∷ m ∷ lines) (suc k) is = last_one (m ∷ lines) k (omega arith)

  -- the same over what is made of rows, where two stand side by side
  tests : (rows : List Made) (k : ℕ) (a b : Made) → suc k < length rows → a ≡ get_or rows k a → b ≡ get_or rows (suc k) b →
      run_length sorts (drop k (map seen_line rows)) ≡ (if is_eq (by_all sorts (seen_line a) (seen_line b)) then suc (run_length sorts (drop (suc k) (map seen_line rows))) else 1)
  tests [] k a b within at next = absurd (omega arith)
  tests (x ∷ []) k a b within at next = absurd (omega arith)
  tests (x ∷ y ∷ rows) zero a b within at next = rw (sym at, sym next) refl
  tests (x ∷ y ∷ rows) (suc k) a b within at next = tests (y ∷ rows) k a b (omega arith) at next

  run_ends : (rows : List Made) (k : ℕ) (a b : Made) → suc k < length rows → a ≡ get_or rows k a → b ≡ get_or rows (suc k) b →
      is_eq (by_all sorts (seen_line a) (seen_line b)) ≡ false → run_length sorts (map seen_line rows) ≡ k + run_length sorts (drop k (map seen_line rows)) →
      suc k ≡ run_length sorts (map seen_line rows)
  run_ends rows k a b within at next apart so_far =
      let one : run_length sorts (drop k (map seen_line rows)) ≡ 1 =
      tests rows k a b within at next ∙ ap (λ (t : Bool). if t then suc (run_length sorts (drop (suc k) (map seen_line rows))) else 1) apart in
      omega arith

  run_goes_on : (rows : List Made) (k : ℕ) (a b : Made) → suc k < length rows → a ≡ get_or rows k a → b ≡ get_or rows (suc k) b →
      is_eq (by_all sorts (seen_line a) (seen_line b)) ≡ true → run_length sorts (map seen_line rows) ≡ k + run_length sorts (drop k (map seen_line rows)) →
      run_length sorts (map seen_line rows) ≡ suc k + run_length sorts (drop (suc k) (map seen_line rows))
  run_goes_on rows k a b within at next tied so_far =
      let more : run_length sorts (drop k (map seen_line rows)) ≡ suc (run_length sorts (drop (suc k) (map seen_line rows))) =
      tests rows k a b within at next ∙ ap (λ (t : Bool). if t then suc (run_length sorts (drop (suc k) (map seen_line rows))) else 1) tied in
      omega arith

  run_is_all : (rows : List Made) (k : ℕ) → suc k ≡ length rows → run_length sorts (map seen_line rows) ≡ k + run_length sorts (drop k (map seen_line rows)) →
      length rows ≡ run_length sorts (map seen_line rows)
  run_is_all rows k is so_far =
      let many : length (map seen_line rows) ≡ length rows = length-map rows seen_line in
      let one : run_length sorts (drop k (map seen_line rows)) ≡ 1 = last_one (map seen_line rows) k (is ∙ sym many) in
      omega arith

  -- the same of the place behind
  module _ (rows : List Made) (place : ℕ) (some_place : 1 ≤ place) (so_far : run_length sorts (map seen_line rows) ≡ (place - 1) + run_length sorts (drop (place - 1) (map seen_line rows))) where
    behind : suc (place - 1) ≡ place
    behind = omega arith

    module _ (a b : Made) (within : place < length rows) (at : a ≡ get_or rows (place - 1) a) (next : b ≡ get_or rows place b) where
      next_is : b ≡ get_or rows (suc (place - 1)) b
      next_is = next ∙ ap (λ (k : ℕ). get_or rows k b) (sym behind)

      inside : suc (place - 1) < length rows
      inside = omega arith

      pub ends_at : is_ne (by_all sorts (seen_line a) (seen_line b)) ≡ true → place ≡ run_length sorts (map seen_line rows)
      ends_at apart = sym behind ∙ run_ends rows (place - 1) a b inside at next_is (apart_is (by_all sorts (seen_line a) (seen_line b)) apart) so_far

      pub goes_on : is_ne (by_all sorts (seen_line a) (seen_line b)) ≡ false →
          run_length sorts (map seen_line rows) ≡ (place + 1 - 1) + run_length sorts (drop (place + 1 - 1) (map seen_line rows))
      goes_on tied =
          let here : suc (place - 1) ≡ place + 1 - 1 = omega arith in
          subst (λ (k : ℕ). run_length sorts (map seen_line rows) ≡ k + run_length sorts (drop k (map seen_line rows))) here
          (run_goes_on rows (place - 1) a b inside at next_is (tied_is (by_all sorts (seen_line a) (seen_line b)) tied) so_far)

    pub all_of_it : place ≡ length rows → length rows ≡ run_length sorts (map seen_line rows)
    all_of_it is = run_is_all rows (place - 1) (behind ∙ is) so_far

  -- a run has a first line
  some : (l : LineOfRow) (lines : List LineOfRow) → (k : ℕ) × (run_length sorts (l ∷ lines) ≡ suc k)
  some l [] = (0, refl)
  some l (m ∷ lines) = by (is_eq (by_all sorts l m)) refl
    where
      by : (b : Bool) → is_eq (by_all sorts l m) ≡ b → (k : ℕ) × (run_length sorts (l ∷ m ∷ lines) ≡ suc k)
      by true is = (run_length sorts (m ∷ lines), rw is refl)
      by false is = (0, rw is refl)

  -- the first run, and those of the rest
  pub first_run : (lines : List LineOfRow) → 1 ≤ length lines → runs sorts lines ≡ take (run_length sorts lines) lines ∷ runs sorts (drop (run_length sorts lines) lines)
  first_run [] h = absurd (omega arith)
  first_run (l ∷ []) h = refl
  first_run (l ∷ m ∷ lines) h = by (is_eq (by_all sorts l m)) refl (some m lines) (first_run (m ∷ lines) (omega arith))
    where
      by : (b : Bool) → is_eq (by_all sorts l m) ≡ b → ((k : ℕ) × (run_length sorts (m ∷ lines) ≡ suc k)) →
          runs sorts (m ∷ lines) ≡ take (run_length sorts (m ∷ lines)) (m ∷ lines) ∷ runs sorts (drop (run_length sorts (m ∷ lines)) (m ∷ lines)) →
          runs sorts (l ∷ m ∷ lines) ≡ take (run_length sorts (l ∷ m ∷ lines)) (l ∷ m ∷ lines) ∷ runs sorts (drop (run_length sorts (l ∷ m ∷ lines)) (l ∷ m ∷ lines))
      by true is (k, many) rest =
          let shape : runs sorts (m ∷ lines) ≡ (m ∷ take k lines) ∷ runs sorts (drop k lines) = rest ∙ ap (λ (n : ℕ). take n (m ∷ lines) ∷ runs sorts (drop n (m ∷ lines))) many in
          let long : run_length sorts (l ∷ m ∷ lines) ≡ suc (suc k) = rw (is, many) refl in
          let one : joined sorts l ((m ∷ take k lines) ∷ runs sorts (drop k lines)) ≡ (l ∷ m ∷ take k lines) ∷ runs sorts (drop k lines) = rw is refl in
          ap (joined sorts l) shape ∙ one ∙ ap (λ (n : ℕ). take n (l ∷ m ∷ lines) ∷ runs sorts (drop n (l ∷ m ∷ lines))) (sym long)
      by false is (k, many) rest =
          let shape : runs sorts (m ∷ lines) ≡ (m ∷ take k lines) ∷ runs sorts (drop k lines) = rest ∙ ap (λ (n : ℕ). take n (m ∷ lines) ∷ runs sorts (drop n (m ∷ lines))) many in
          let long : run_length sorts (l ∷ m ∷ lines) ≡ 1 = rw is refl in
          let one : joined sorts l ((m ∷ take k lines) ∷ runs sorts (drop k lines)) ≡ (l ∷ []) ∷ (m ∷ take k lines) ∷ runs sorts (drop k lines) = rw is refl in
          ap (joined sorts l) shape ∙ one ∙ ap (λ (more : List (List LineOfRow)). (l ∷ []) ∷ more) (sym shape)
          ∙ ap (λ (n : ℕ). take n (l ∷ m ∷ lines) ∷ runs sorts (drop n (l ∷ m ∷ lines))) (sym long)

  -- the same of what is made of rows, from a place on
  pub run_is : (rows : List Made) (start n : ℕ) → start < length rows → n ≡ run_length sorts (map seen_line (drop start rows)) → n ≤ length (drop start rows) →
      runs sorts (map seen_line (drop start rows))
      ≡ map seen_line (take (start + n - start) (drop start rows)) ∷ runs sorts (map seen_line (drop (start + length (take (start + n - start) (drop start rows))) rows))
  run_is rows start n inside is within =
      let rest : List Made = drop start rows in
      let many : start + n - start ≡ n = omega arith in
      let long : length (take n rest) ≡ n = length-take-le n rest within in
      let left : length rest ≡ length rows - start = length-drop start rows in
      let seen : length (map seen_line rest) ≡ length rest = length-map rest seen_line in
      let there : 1 ≤ length (map seen_line rest) = omega arith in
      first_run (map seen_line rest) there
      ∙ ap (λ (k : ℕ). take k (map seen_line rest) ∷ runs sorts (drop k (map seen_line rest))) (sym is)
      ∙ ap (λ (xs : List LineOfRow). xs ∷ runs sorts (drop n (map seen_line rest))) (take-map seen_line n rest)
      ∙ ap (λ (xs : List LineOfRow). map seen_line (take n rest) ∷ runs sorts xs) (drop-map seen_line n rest ∙ ap (map seen_line) (drop-drop n start rows))
      ∙ ap (λ (k : ℕ). map seen_line (take n rest) ∷ runs sorts (map seen_line (drop (start + k) rows))) (sym long)
      ∙ ap (λ (k : ℕ). map seen_line (take k rest) ∷ runs sorts (map seen_line (drop (start + length (take k rest)) rows))) (sym many)

-- ---- lines

rows_are : (run : List Made) → map as_row (map seen_line run) ≡ map seen_row run
rows_are [] = refl
rows_are (m ∷ run) = ap (λ (rest : List RowWithArguments). seen_row m ∷ rest) (rows_are run)

abbrev Answer : Type 0
Answer = Result (List LineOfRow) ExecFault

module _ (items : List Item) where
  abbrev line_of_run : List LineOfRow → Result LineOfRow ExecFault
  line_of_run run = group_line items (map as_row run)

  pub run_made : (run : List Made) (all rest : List (List LineOfRow)) (done : List Made) (x : Made) (whole : Answer) → all ≡ map seen_line run ∷ rest →
      group_line items (map seen_row run) ≡ Ok (seen_line x) → each_behind (λ _. line_of_run) (map seen_line done) all ≡ whole →
      each_behind (λ _. line_of_run) (map seen_line (done ++ x ∷ [])) rest ≡ whole
  run_made run all rest done x whole is made h =
      one_made line_of_run seen_line (map seen_line run) rest done x whole (ap (group_line items) (rows_are run) ∙ made)
      (ap (each_behind (λ _. line_of_run) (map seen_line done)) (sym is) ∙ h)

  pub run_refused : (run : List Made) (all rest : List (List LineOfRow)) (done : List Made) (e : ExecFault) (whole : Answer) → all ≡ map seen_line run ∷ rest →
      Fails fault.NoMemory e (group_line items (map seen_row run)) → each_behind (λ _. line_of_run) (map seen_line done) all ≡ whole → Fails fault.NoMemory e whole
  run_refused run all rest done e whole is fails h =
      one_refused line_of_run seen_line (map seen_line run) rest done e whole
      (subst (λ (rows : List RowWithArguments). Fails fault.NoMemory e (group_line items rows)) (sym (rows_are run)) fails)
      (ap (each_behind (λ _. line_of_run) (map seen_line done)) (sym is) ∙ h)

  -- the lines of the runs of rows that are sorted by the columns of GROUP BY
  pub lines_are : (columns : List ℕ) (sorts : List Sort) (before after : List Made) → 1 ≤ length columns → sorts ≡ map rising_by columns →
      map seen_line after ≡ ordered sorts (map seen_line before) →
      each line_of_run (runs sorts (map seen_line after)) ≡ each (group_line items) (groups_of columns (map seen_row before))
  lines_are columns sorts before after some is sorted =
      ap (λ (lines : List LineOfRow). each line_of_run (runs sorts lines)) sorted
      ∙ ap (λ (s : List Sort). each line_of_run (runs s (ordered s (map seen_line before)))) is
      ∙ each_seen (group_line items) (map as_row) (runs (map rising_by columns) (ordered (map rising_by columns) (map seen_line before))) []
      ∙ ap (each (group_line items)) (groups_are_runs columns (map seen_line before) some)
      ∙ ap (λ (rows : List RowWithArguments). each (group_line items) (groups_of columns rows)) (rows_are before)
