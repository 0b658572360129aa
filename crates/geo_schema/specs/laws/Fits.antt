-- Laws: cells are a row of a table exactly where they have no fault, and the fault that is found is that of the least column that has one.
use Rattle.std.proofs.Common.{◌≡◌, ◌≢◌, ◌⊎◌, inl, inr, ℕ, ◌+◌, ◌<◌, zero, suc, Bool, true, false, ◌||◌, ◌&&◌, ◌==◌, if◌then◌else◌, List, [], ◌∷◌, Option, Some, None, length, get_or, refl, sym, ap, subst, arith}
use Rattle.std.specs.List.{slice_get}
use Rattle.std.specs.Option.{option_or}
use Rattle.std.proofs.lemmas.Bool.{eq-eqb, ne_eqb, cases_eq}
use Rattle.std.proofs.lemmas.Bool.Decides.{nat_tests}
use Rattle.std.proofs.lemmas.Option.{none-some, slice_get_within, get_or_from_slice_get}
use Rattle.geo_base.specs.declared.cell.Cell.{Cell}
use Rattle.geo_base.specs.declared.cell.Cell.TheVariants as cell
use Rattle.geo_base.specs.Cells.{is_null, has_type}
use Rattle.geo_schema.specs.declared.column.ColumnDef.{ColumnDef}
use Rattle.geo_schema.specs.declared.column.Kind.{Kind}
use Rattle.geo_schema.specs.declared.column.Kind.TheVariants as kind
use Rattle.geo_schema.specs.declared.fault.CellFault.{CellFault}
use Rattle.geo_schema.specs.declared.fault.CellFault.TheVariants as fault
use Rattle.geo_schema.specs.declared.table.TableDef.{TableDef}
use Rattle.geo_schema.specs.Rows.{type_of, is_too_long, is_in, Suits, IsCause, IsRow, IsFirstCause, IsRowFault}
use Rattle.geo_schema.specs.inner.Rows.{cell_fault, cells_fault, row_fault}
use Rattle.geo_schema.specs.Tables.{no_column}
use Rattle.geo_schema.specs.laws.Keys.{cell_faultless, row_count, row_cells}

-- ---- a cell

pub suits : (key : List ℕ) (column : ColumnDef) (place : ℕ) (x : Cell) → cell_fault key column place x ≡ None → Suits key column place x
unfolding cell_fault
suits key column place x h = record { type = grind arith; null = λ n. grind arith; short = grind arith }

pub suits_faultless : (key : List ℕ) (column : ColumnDef) (place : ℕ) (x : Cell) → Suits key column place x → cell_fault key column place x ≡ None
unfolding cell_fault
suits_faultless key column place x s = grind (arith, s.type, s.null, s.short)

-- a NULL is of each type and has no length, and what is too long is of the type and no NULL
null_typed : (k : Kind) (x : Cell) → is_null x ≡ true → (has_type (type_of k) x ≡ true) × (is_too_long k x ≡ false)
null_typed kind.Int cell.Null h = (refl, refl)
null_typed (kind.Text max) cell.Null h = (refl, refl)
null_typed kind.Truth cell.Null h = (refl, refl)
null_typed k (cell.Int x) h = cc
null_typed k (cell.Text x) h = cc
null_typed k (cell.Truth x) h = cc

long_typed : (k : Kind) (x : Cell) → is_too_long k x ≡ true → (has_type (type_of k) x ≡ true) × (is_null x ≡ false)
long_typed (kind.Text max) (cell.Text x) h = (refl, refl)
long_typed (kind.Text max) cell.Null h = cc
long_typed (kind.Text max) (cell.Int x) h = cc
long_typed (kind.Text max) (cell.Truth x) h = cc
long_typed kind.Int cell.Null h = cc
long_typed kind.Int (cell.Int x) h = cc
long_typed kind.Int (cell.Text x) h = cc
long_typed kind.Int (cell.Truth x) h = cc
long_typed kind.Truth cell.Null h = cc
long_typed kind.Truth (cell.Int x) h = cc
long_typed kind.Truth (cell.Text x) h = cc
long_typed kind.Truth (cell.Truth x) h = cc

-- what is wrong with a cell, of its three tests
abbrev judged : ℕ → Bool → Bool → Bool → Bool → Option CellFault
judged place typed null wanted long =
    if typed then (if null && wanted then Some (fault.NullNotAllowed place) else (if long then Some (fault.TextTooLong place) else None)) else Some (fault.TypeClash place)

abbrev Judged : ℕ → Bool → Bool → Bool → Bool → CellFault → Type 0
Judged place typed null wanted long fault.WrongCount = ⊥
Judged place typed null wanted long (fault.TypeClash at) = (at ≡ place) × (typed ≡ false)
Judged place typed null wanted long (fault.NullNotAllowed at) = (at ≡ place) × (null ≡ true) × (wanted ≡ true)
Judged place typed null wanted long (fault.TextTooLong at) = (at ≡ place) × (long ≡ true)

same_fault : (a b : CellFault) → Some a ≡ Some b → a ≡ b
same_fault a b e = cc

judged_is : (place : ℕ) (typed null wanted long : Bool) (why : CellFault) → judged place typed null wanted long ≡ Some why → Judged place typed null wanted long why
judged_is place false null wanted long why h = subst (Judged place false null wanted long) (same_fault (fault.TypeClash place) why h) (refl, refl)
judged_is place true true true long why h = subst (Judged place true true true long) (same_fault (fault.NullNotAllowed place) why h) (refl, refl, refl)
judged_is place true true false true why h = subst (Judged place true true false true) (same_fault (fault.TextTooLong place) why h) (refl, refl)
judged_is place true true false false why h = absurd (none-some why h)
judged_is place true false wanted true why h = subst (Judged place true false wanted true) (same_fault (fault.TextTooLong place) why h) (refl, refl)
judged_is place true false wanted false why h = absurd (none-some why h)

pub cause_found : (key : List ℕ) (column : ColumnDef) (place : ℕ) (x : Cell) (why : CellFault) → cell_fault key column place x ≡ Some why → IsCause key column place x why
unfolding cell_fault
cause_found key column place x why h =
    as_cause why (judged_is place (has_type (type_of column.kind) x) (is_null x) (column.not_null || is_in key place) (is_too_long column.kind x) why h)
  where
    as_cause : (w : CellFault) → Judged place (has_type (type_of column.kind) x) (is_null x) (column.not_null || is_in key place) (is_too_long column.kind x) w → IsCause key column place x w
    as_cause fault.WrongCount j = j
    as_cause (fault.TypeClash at) j = j
    as_cause (fault.NullNotAllowed at) j = j
    as_cause (fault.TextTooLong at) j = j

pub found_cause : (key : List ℕ) (column : ColumnDef) (place : ℕ) (x : Cell) (why : CellFault) → IsCause key column place x why → cell_fault key column place x ≡ Some why
unfolding cell_fault
found_cause key column place x fault.WrongCount c = absurd c
found_cause key column place x (fault.TypeClash at) c = rw c.1 (ap (λ (n : ℕ). Some (fault.TypeClash n)) (sym c.0))
found_cause key column place x (fault.NullNotAllowed at) c =
    rw ((null_typed column.kind x c.1).0, c.1, c.2) (ap (λ (n : ℕ). Some (fault.NullNotAllowed n)) (sym c.0))
found_cause key column place x (fault.TextTooLong at) c =
    let typed = long_typed column.kind x c.1 in
    rw (typed.0, typed.1, c.1) (ap (λ (n : ℕ). Some (fault.TextTooLong n)) (sym c.0))

-- ---- a row

all_faultless : (key : List ℕ) (place : ℕ) (columns : List ColumnDef) (cells : List Cell) →
    ((k at : ℕ) (column : ColumnDef) (x : Cell) → slice_get columns k ≡ Some column → slice_get cells k ≡ Some x → at ≡ place + k → cell_fault key column at x ≡ None) →
    cells_fault key place columns cells ≡ None
all_faultless key place [] cells h = refl
all_faultless key place (column ∷ columns) [] h = refl
all_faultless key place (column ∷ columns) (x ∷ cells) h =
    let first : cell_fault key column place x ≡ None = h 0 place column x refl refl (omega arith) in
    rw first (all_faultless key (place + 1) columns cells (λ k at c y hc hy e. h (suc k) at c y hc hy (omega arith)))

pub row_fits : (table : TableDef) (cells : List Cell) → row_fault table cells ≡ None → IsRow table cells
row_fits table cells h =
    record {
      count = row_count table cells h;
      suits = λ place column x hc hx.
          let faultless = cell_faultless table.key 0 table.columns cells place place (row_cells table cells h)
          (slice_get_within table.columns place column hc) (slice_get_within cells place x hx) (omega arith) in
          suits table.key column place x
          (subst (λ c. cell_fault table.key c place x ≡ None) (get_or_from_slice_get table.columns place column no_column hc)
          (subst (λ y. cell_fault table.key (get_or table.columns place no_column) place y ≡ None) (get_or_from_slice_get cells place x cell.Null hx) faultless));
    }

pub fit_rows : (table : TableDef) (cells : List Cell) → IsRow table cells → row_fault table cells ≡ None
unfolding row_fault
fit_rows table cells row =
    let count = row.count in
    let none : cells_fault table.key 0 table.columns cells ≡ None =
    all_faultless table.key 0 table.columns cells (λ k at column x hc hx e.
    let here : at ≡ k = omega arith in
    rw here (suits_faultless table.key column k x (row.suits k column x hc hx))) in
    grind (arith, nat_tests)

-- ---- a row's fault

-- the first of the cells that is at fault, where the first column stands at the place
record Found (key : List ℕ) (start : ℕ) (columns : List ColumnDef) (cells : List Cell) (why : CellFault) : Type 0 where
  pub k : ℕ
  pub column : ColumnDef
  pub cell : Cell
  pub has_column : slice_get columns k ≡ Some column
  pub has_cell : slice_get cells k ≡ Some cell
  pub cause : cell_fault key column (start + k) cell ≡ Some why
  pub before : (j : ℕ) (c : ColumnDef) (x : Cell) → j < k → slice_get columns j ≡ Some c → slice_get cells j ≡ Some x → cell_fault key c (start + j) x ≡ None

or_cases : {A : Type 0} (a b : Option A) (x : A) → option_or a b ≡ Some x → (a ≡ Some x) ⊎ ((a ≡ None) × (b ≡ Some x))
or_cases (Some y) b x h = inl h
or_cases None b x h = inr (refl, h)

find : (key : List ℕ) (start : ℕ) (columns : List ColumnDef) (cells : List Cell) (why : CellFault) → cells_fault key start columns cells ≡ Some why → Found key start columns cells why
find key start [] cells why h = absurd (none-some why h)
find key start (column ∷ columns) [] why h = absurd (none-some why h)
find key start (column ∷ columns) (x ∷ cells) why h =
    let later : cells_fault key (start + 1) columns cells ≡ Some why → Found key (start + 1) columns cells why = find key (start + 1) columns cells why in
    elim (or_cases (cell_fault key column start x) (cells_fault key (start + 1) columns cells) why h) [
      | inl here ↦ record {
        k = 0;
        column = column;
        cell = x;
        has_column = refl;
        has_cell = refl;
        cause = at_start here;
        before = λ j c y lt hc hy. absurd (omega arith);
      }
      | inr rest ↦
          let f = later rest.1 in
          record {
            k = suc f.k;
            column = f.column;
            cell = f.cell;
            has_column = f.has_column;
            has_cell = f.has_cell;
            cause = one_on f.k f.column f.cell (Some why) f.cause;
            before = λ j c y lt hc hy. behind f.k rest.0 f.before j c y lt hc hy;
          }
    ]
  where
    at_start : cell_fault key column start x ≡ Some why → cell_fault key column (start + 0) x ≡ Some why
    at_start here = let e : start + 0 ≡ start = omega arith in rw e here

    one_on : (j : ℕ) (c : ColumnDef) (y : Cell) (o : Option CellFault) → cell_fault key c ((start + 1) + j) y ≡ o → cell_fault key c (start + suc j) y ≡ o
    one_on j c y o h = let e : start + suc j ≡ (start + 1) + j = omega arith in rw e h

    behind : (k : ℕ) → cell_fault key column start x ≡ None →
        ((j : ℕ) (c : ColumnDef) (y : Cell) → j < k → slice_get columns j ≡ Some c → slice_get cells j ≡ Some y → cell_fault key c ((start + 1) + j) y ≡ None) →
        (j : ℕ) (c : ColumnDef) (y : Cell) → j < suc k → slice_get (column ∷ columns) j ≡ Some c → slice_get (x ∷ cells) j ≡ Some y → cell_fault key c (start + j) y ≡ None
    behind k none before zero c y lt hc hy =
        let e : start + 0 ≡ start = omega arith in
        rw e (subst (λ d. cell_fault key d start y ≡ None) (same_column column c hc) (subst (λ z. cell_fault key column start z ≡ None) (same_cell x y hy) none))
      where
        same_column : (a b : ColumnDef) → Some a ≡ Some b → a ≡ b
        same_column a b e = cc

        same_cell : (a b : Cell) → Some a ≡ Some b → a ≡ b
        same_cell a b e = cc
    behind k none before (suc j) c y lt hc hy = one_on j c y None (before j c y (omega arith) hc hy)

at_fault : (key : List ℕ) (start : ℕ) (columns : List ColumnDef) (cells : List Cell) (k : ℕ) (column : ColumnDef) (x : Cell) (why : CellFault) →
    slice_get columns k ≡ Some column → slice_get cells k ≡ Some x → ((at : ℕ) → at ≡ start + k → cell_fault key column at x ≡ Some why) →
    ((j at : ℕ) (c : ColumnDef) (y : Cell) → j < k → slice_get columns j ≡ Some c → slice_get cells j ≡ Some y → at ≡ start + j → cell_fault key c at y ≡ None) →
    cells_fault key start columns cells ≡ Some why
at_fault key start [] cells k column x why hc hx here before = absurd (none-some column hc)
at_fault key start (c ∷ columns) [] k column x why hc hx here before = absurd (none-some x hx)
at_fault key start (c ∷ columns) (y ∷ cells) zero column x why hc hx here before =
    let now : cell_fault key c start y ≡ Some why =
    subst (λ d. cell_fault key d start y ≡ Some why) (sym (same_column c column hc)) (subst (λ z. cell_fault key column start z ≡ Some why) (sym (same_cell y x hx)) (here start (omega arith))) in
    rw now refl
  where
    same_column : (a b : ColumnDef) → Some a ≡ Some b → a ≡ b
    same_column a b e = cc

    same_cell : (a b : Cell) → Some a ≡ Some b → a ≡ b
    same_cell a b e = cc
at_fault key start (c ∷ columns) (y ∷ cells) (suc k) column x why hc hx here before =
    let none : cell_fault key c start y ≡ None = before 0 start c y (omega arith) refl refl (omega arith) in
    rw none
    (at_fault key (start + 1) columns cells k column x why hc hx (λ at e. here at (omega arith))
    (λ j at d z lt hd hz e. before (suc j) at d z (omega arith) hd hz (omega arith)))

-- the count is wrong, or there is one cell for each column and one is at fault
row_cases : (table : TableDef) (cells : List Cell) (why : CellFault) → row_fault table cells ≡ Some why →
    ((length cells ≢ length table.columns) × (fault.WrongCount ≡ why)) ⊎ ((length cells ≡ length table.columns) × (cells_fault table.key 0 table.columns cells ≡ Some why))
unfolding row_fault
row_cases table cells why h =
    elim (cases_eq (length cells) (length table.columns)) [
      | inl same ↦ inr (same, let t : (length cells == length table.columns) ≡ true = eq-eqb (length cells) (length table.columns) same in rw t at h)
      | inr other ↦ inl (other, same_fault fault.WrongCount why (let t : (length cells == length table.columns) ≡ false = ne_eqb (length cells) (length table.columns) other in rw t at h))
    ]

first_cause : (table : TableDef) (cells : List Cell) (why : CellFault) → length cells ≡ length table.columns → cells_fault table.key 0 table.columns cells ≡ Some why → IsFirstCause table cells why
first_cause table cells why count h =
    let f = find table.key 0 table.columns cells why h in
    let here : 0 + f.k ≡ f.k = omega arith in
    record {
      count = count;
      place = f.k;
      column = f.column;
      cell = f.cell;
      has_column = f.has_column;
      has_cell = f.has_cell;
      cause = cause_found table.key f.column f.k f.cell why (subst (λ (n : ℕ). cell_fault table.key f.column n f.cell ≡ Some why) here f.cause);
      before = λ j c x lt hc hx.
          let there : 0 + j ≡ j = omega arith in
          suits table.key c j x (subst (λ (n : ℕ). cell_fault table.key c n x ≡ None) there (f.before j c x lt hc hx));
    }

pub is_row_fault : (table : TableDef) (cells : List Cell) (why : CellFault) → row_fault table cells ≡ Some why → IsRowFault table cells why
is_row_fault table cells why h =
    elim (row_cases table cells why h) [
      | inl wrong ↦ subst (IsRowFault table cells) wrong.1 wrong.0
      | inr p ↦ of_cell why (first_cause table cells why p.0 p.1)
    ]
  where
    of_cell : (w : CellFault) → IsFirstCause table cells w → IsRowFault table cells w
    of_cell fault.WrongCount c = absurd c.cause
    of_cell (fault.TypeClash at) c = c
    of_cell (fault.NullNotAllowed at) c = c
    of_cell (fault.TextTooLong at) c = c

cause_row : (table : TableDef) (cells : List Cell) (why : CellFault) → IsFirstCause table cells why → row_fault table cells ≡ Some why
unfolding row_fault
cause_row table cells why r =
    let t : (length cells == length table.columns) ≡ true = eq-eqb (length cells) (length table.columns) r.count in
    rw t
    (at_fault table.key 0 table.columns cells r.place r.column r.cell why r.has_column r.has_cell
    (λ at e. let here : at ≡ r.place = omega arith in rw here (found_cause table.key r.column r.place r.cell why r.cause))
    (λ j at c x lt hc hx e. let here : at ≡ j = omega arith in rw here (suits_faultless table.key c j x (r.before j c x lt hc hx))))

pub row_fault_is : (table : TableDef) (cells : List Cell) (why : CellFault) → IsRowFault table cells why → row_fault table cells ≡ Some why
unfolding row_fault
row_fault_is table cells fault.WrongCount h =
    let t : (length cells == length table.columns) ≡ false = ne_eqb (length cells) (length table.columns) h in rw t refl
row_fault_is table cells (fault.TypeClash at) h = cause_row table cells (fault.TypeClash at) h
row_fault_is table cells (fault.NullNotAllowed at) h = cause_row table cells (fault.NullNotAllowed at) h
row_fault_is table cells (fault.TextTooLong at) h = cause_row table cells (fault.TextTooLong at) h
