-- Rows with their names that tests keep: they are those whose images the tests keep, and names follow from images.
use Rattle.std.proofs.Common.{◌≡◌, ℕ, Bool, true, false, if◌then◌else◌, nat_eq, Result, Ok, Err, List, [], ◌∷◌, map, refl, sym, ap, subst, ◌∙◌}
use Rattle.std.specs.List.{All, filter}
use Rattle.std.proofs.lemmas.Bool.{eqb-true}
use Rattle.std.proofs.lemmas.List.Elements.{All-cons, All-head, All-nil, All-tail}
use Rattle.geo_base.specs.Results.{◌>>=◌}
use Rattle.geo_base.specs.declared.cell.Cell.{Cell}
use Rattle.geo_base.specs.declared.row_id.RowId.{RowId}
use Rattle.geo_schema.specs.Rows.{key_cells}
use Rattle.geo_schema.specs.Schemas.{Tables, table_at}
use Rattle.row_source.specs.Handing.{row_named}
use Rattle.row_source.specs.Matches.{in_statement, kept_of}
use Rattle.row_source.specs.Sources.{Entry, Fits, images}
use Rattle.row_source.specs.declared.fault.ExecFault.{ExecFault}
use Rattle.sql_exec.specs.inner.Naming.{name_in}
use Rattle.sql_exec.specs.inner.Plain.{kept_rows}
use Rattle.sql_expr.specs.Conditions.{kept}
use Rattle.sql_expr.specs.declared.expr.Expr.{Expr}
use Rattle.sql_expr.specs.declared.fault.EvalFault.{EvalFault}
use Rattle.write_set.specs.Overlay.{Table}

abbrev Kept : Type 0 → Type 0
Kept X = Result (List X) ExecFault

ok_same : {X : Type 0} {a b : List X} → (let r : Kept X = Ok a in r ≡ Ok b) → a ≡ b
ok_same e = cc

-- ---- things that are seen as cells

module _ {X : Type 0} (view : X → List Cell) (tests : List Expr) where
  -- the cells of things
  abbrev pub cells_of : Kept X → Kept (List Cell)
  cells_of some = some >>= λ xs. Ok (map view xs)

  seen : (test : Result Bool ExecFault) (rest : Kept X) (x : X) →
      cells_of (test >>= λ passes. rest >>= λ more. Ok (if passes then x ∷ more else more)) ≡ (test >>= λ passes. cells_of rest >>= λ more. Ok (if passes then view x ∷ more else more))
  seen (Err e) rest x = refl
  seen (Ok b) (Err e) x = refl
  seen (Ok true) (Ok more) x = refl
  seen (Ok false) (Ok more) x = refl

  -- the cells of those that are kept are the cells that are kept
  pub kept_cells : (xs : List X) → cells_of (kept_of view tests xs) ≡ kept_of (λ row. row) tests (map view xs)
  kept_cells [] = refl
  kept_cells (x ∷ xs) =
      seen (in_statement (kept (view x) tests)) (kept_of view tests xs) x
      ∙ ap (λ (rest : Kept (List Cell)). in_statement (kept (view x) tests) >>= λ passes. rest >>= λ more. Ok (if passes then view x ∷ more else more)) (kept_cells xs)

-- ---- rows

-- the images of the rows that are kept are the images that are kept
pub kept_images : (tests : List Expr) (rows : Table) → cells_of (λ (entry : Entry). entry.1) tests (kept_of (λ (entry : Entry). entry.1) tests rows) ≡ kept_rows tests (images rows)
unfolding kept_rows
kept_images tests rows = kept_cells (λ (entry : Entry). entry.1) tests rows

-- ---- those that are kept are some of them

-- a test that is true, without a fault
abbrev pub passes : Result Bool EvalFault → Bool
passes (Ok b) = b
passes (Err e) = false

module _ {X : Type 0} (view : X → List Cell) (tests : List Expr) where
  pub are_some : (xs ys : List X) → kept_of view tests xs ≡ Ok ys → ys ≡ filter (λ x. passes (kept (view x) tests)) xs
  are_some [] ys is = sym (ok_same is)
  are_some (x ∷ xs) ys is = by (kept (view x) tests) refl (kept_of view tests xs) refl is (λ zs rest. are_some xs zs rest)
    where
      by : (test : Result Bool EvalFault) → kept (view x) tests ≡ test → (rest : Kept X) → kept_of view tests xs ≡ rest →
          (in_statement test >>= λ b. rest >>= λ more. Ok (if b then x ∷ more else more)) ≡ Ok ys →
          ((zs : List X) → kept_of view tests xs ≡ Ok zs → zs ≡ filter (λ z. passes (kept (view z) tests)) xs) →
          ys ≡ filter (λ z. passes (kept (view z) tests)) (x ∷ xs)
      by (Err e) test rest same h more = absurd cc
      by (Ok b) test (Err e) same h more = absurd cc
      by (Ok true) test (Ok zs) same h more = rw test (sym (ok_same h) ∙ ap (λ (l : List X). x ∷ l) (more zs same))
      by (Ok false) test (Ok zs) same h more = rw test (sym (ok_same h) ∙ more zs same)

-- ---- names

-- the row is of the table, and its cells give its name
pub record IsNamed (tables : Tables) (number : ℕ) (entry : Entry) : Type 0 where
  pub name : entry.0 ≡ row_named number (key_cells (table_at tables number) entry.1)

pub names_of : (tables : Tables) (number : ℕ) (rows : Table) → All (IsNamed tables number) rows →
    map (λ entry. entry.0) rows ≡ map (name_in tables number) (images rows)
unfolding name_in
names_of tables number [] all = refl
names_of tables number (e ∷ rows) all =
    ap (λ (name : RowId). name ∷ map (λ (entry : Entry). entry.0) rows) (All-head (IsNamed tables number) e rows all).name
    ∙ ap (λ (more : List RowId). row_named number (key_cells (table_at tables number) e.1) ∷ more) (names_of tables number rows (All-tail (IsNamed tables number) e rows all))

pub is_named : (tables : Tables) (number : ℕ) (entry : Entry) → Fits tables entry → entry.0.table ≡ number → IsNamed tables number entry
is_named tables number entry fits here =
    subst (λ (n : ℕ). IsNamed tables n entry) here (record { name = ap (λ (key : List Cell). row_named entry.0.table key) (sym fits.key) })

-- of rows that pass a test which only rows of the table pass
pub all_named : (tables : Tables) (number : ℕ) (p : Entry → Bool) (rows : Table) → ((e : Entry) → p e ≡ true → nat_eq e.0.table number ≡ true) → All (Fits tables) rows →
    All (IsNamed tables number) (filter p rows)
all_named tables number p [] within fit = All-nil (IsNamed tables number)
all_named tables number p (e ∷ rows) within fit = by (p e) refl (all_named tables number p rows within (All-tail (Fits tables) e rows fit))
  where
    by : (b : Bool) → p e ≡ b → All (IsNamed tables number) (filter p rows) → All (IsNamed tables number) (filter p (e ∷ rows))
    by true is rest =
        rw is (All-cons (IsNamed tables number) e (filter p rows)
        (is_named tables number e (All-head (Fits tables) e rows fit) (eqb-true e.0.table number (within e is))) rest)
    by false is rest = rw is rest
