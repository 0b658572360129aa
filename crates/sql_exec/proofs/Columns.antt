-- Cells that are tested as a row of a table have the fault that a statement is refused for.
use Rattle.std.proofs.Common.{◌≡◌, ℕ, zero, suc, ◌+◌, ◌<◌, true, false, List, [], ◌∷◌, Some, None, Ok, Err, length, get_or, refl, sym, ap, subst, ◌∙◌, arith}
use Rattle.std.specs.List.{slice_get}
use Rattle.std.proofs.lemmas.Bool.{both_ways}
use Rattle.std.proofs.lemmas.Option.{none-some, slice_get_within, get_or_from_slice_get}
use Rattle.geo_base.specs.declared.cell.Cell.{Cell}
use Rattle.geo_base.specs.declared.cell.Cell.TheVariants as cell
use Rattle.geo_base.specs.Cells.{IsRowImage, has_type, is_null}
use Rattle.geo_schema.specs.declared.column.ColumnDef.{ColumnDef}
use Rattle.geo_schema.specs.declared.column.Kind.{Kind}
use Rattle.geo_schema.specs.declared.column.Kind.TheVariants as kind
use Rattle.geo_schema.specs.declared.fault.CellFault.{CellFault}
use Rattle.geo_schema.specs.declared.fault.CellFault.TheVariants as why
use Rattle.geo_schema.specs.declared.table.TableDef.{TableDef}
use Rattle.geo_schema.specs.Rows.{IsCause, IsFirstCause, IsRow, IsRowFault, Suits, is_too_long, type_of}
use Rattle.geo_schema.specs.Tables.{TakesRows}
use Rattle.row_source.specs.declared.fault.ExecFault.{ExecFault}
use Rattle.row_source.specs.declared.fault.ExecFault.TheVariants as fault
use Rattle.sql_exec.specs.Effects.{column_fault, first_column_fault, fitting}
use Rattle.sql_exec.specs.inner.Fitting.{AreTyped}

-- ---- one cell

suits : (table : TableDef) (place : ℕ) (column : ColumnDef) (c : Cell) → Suits table.key column place c → column_fault table place column c ≡ None
suits table place column c s = grind (arith, s.null, s.short)

long_is_text : (k : Kind) (c : Cell) → is_too_long k c ≡ true → is_null c ≡ false
long_is_text k (cell.Int x) h = refl
long_is_text k (cell.Text x) h = refl
long_is_text k (cell.Truth x) h = refl
long_is_text kind.Int cell.Null h = cc
long_is_text (kind.Text max) cell.Null h = cc
long_is_text kind.Truth cell.Null h = cc

null_is : (table : TableDef) (place at : ℕ) (column : ColumnDef) (c : Cell) → IsCause table.key column place c (why.NullNotAllowed at) →
    column_fault table place column c ≡ Some (fault.NullNotAllowed column.name)
null_is table place at column c is = rw (is.1, is.2) refl

long_is : (table : TableDef) (place at : ℕ) (column : ColumnDef) (c : Cell) → IsCause table.key column place c (why.TextTooLong at) →
    column_fault table place column c ≡ Some (fault.TextTooLong column.name)
long_is table place at column c is = rw (long_is_text column.kind c is.1, is.1) refl

-- ---- the first cell that is at fault

module _ (table : TableDef) where
  none_from : (start : ℕ) (columns : List ColumnDef) (cells : List Cell) →
      ((k at : ℕ) (column : ColumnDef) (c : Cell) → slice_get columns k ≡ Some column → slice_get cells k ≡ Some c → at ≡ start + k → column_fault table at column c ≡ None) →
      first_column_fault table start columns cells ≡ None
  none_from start [] cells h = refl
  none_from start (column ∷ columns) [] h = refl
  none_from start (column ∷ columns) (c ∷ cells) h =
      let first : column_fault table start column c ≡ None = h 0 start column c refl refl (omega arith) in
      rw first (none_from (start + 1) columns cells (λ k at d y hd hy e. h (suc k) at d y hd hy (omega arith)))

  first_from : (start : ℕ) (columns : List ColumnDef) (cells : List Cell) (k : ℕ) (column : ColumnDef) (c : Cell) (e : ExecFault) →
      slice_get columns k ≡ Some column → slice_get cells k ≡ Some c → ((at : ℕ) → at ≡ start + k → column_fault table at column c ≡ Some e) →
      ((j at : ℕ) (d : ColumnDef) (y : Cell) → j < k → slice_get columns j ≡ Some d → slice_get cells j ≡ Some y → at ≡ start + j → column_fault table at d y ≡ None) →
      first_column_fault table start columns cells ≡ Some e
  first_from start [] cells k column c e hc hx here before = absurd (none-some column hc)
  first_from start (d ∷ columns) [] k column c e hc hx here before = absurd (none-some c hx)
  first_from start (d ∷ columns) (y ∷ cells) zero column c e hc hx here before =
      let now : column_fault table start d y ≡ Some e =
      subst (λ (x : ColumnDef). column_fault table start x y ≡ Some e) (sym (same_column d column hc))
      (subst (λ (z : Cell). column_fault table start column z ≡ Some e) (sym (same_cell y c hx)) (here start (omega arith))) in
      rw now refl
    where
      same_column : (a b : ColumnDef) → Some a ≡ Some b → a ≡ b
      same_column a b e = cc

      same_cell : (a b : Cell) → Some a ≡ Some b → a ≡ b
      same_cell a b e = cc
  first_from start (d ∷ columns) (y ∷ cells) (suc k) column c e hc hx here before =
      let none : column_fault table start d y ≡ None = before 0 start d y (omega arith) refl refl (omega arith) in
      rw none
      (first_from (start + 1) columns cells k column c e hc hx (λ at is. here at (omega arith))
      (λ j at x z lt hd hz is. before (suc j) at x z (omega arith) hd hz (omega arith)))

-- ---- rows, and what is none

pub no_fault : (table : TableDef) (cells : List Cell) → IsRow table cells → first_column_fault table 0 table.columns cells ≡ None
no_fault table cells row =
    none_from table 0 table.columns cells (λ k at column c hc hx e.
    let here : at ≡ k = omega arith in
    rw here (suits table k column c (row.suits k column c hc hx)))

-- the columns before the first fault have none
before_suits : (table : TableDef) (cells : List Cell) (place : ℕ) →
    ((k : ℕ) (c : ColumnDef) (x : Cell) → k < place → slice_get table.columns k ≡ Some c → slice_get cells k ≡ Some x → Suits table.key c k x) →
    (j at : ℕ) (d : ColumnDef) (y : Cell) → j < place → slice_get table.columns j ≡ Some d → slice_get cells j ≡ Some y → at ≡ 0 + j → column_fault table at d y ≡ None
before_suits table cells place before j at d y lt hd hy is =
    let here : at ≡ j = omega arith in
    rw here (suits table j d y (before j d y lt hd hy))

-- the fault of the first cell that has one
first_of : (table : TableDef) (cells : List Cell) (w : CellFault) (f : IsFirstCause table cells w) (e : ExecFault) →
    column_fault table f.place f.column f.cell ≡ Some e → first_column_fault table 0 table.columns cells ≡ Some e
first_of table cells w f e is =
    first_from table 0 table.columns cells f.place f.column f.cell e f.has_column f.has_cell
    (λ at here. let e : at ≡ f.place = omega arith in rw e is)
    (before_suits table cells f.place f.before)

-- the column at the place of the fault
column_of : (table : TableDef) (cells : List Cell) (w : CellFault) (f : IsFirstCause table cells w) (at : ℕ) (column d : ColumnDef) → at ≡ f.place →
    column ≡ get_or table.columns at d → f.column ≡ column
column_of table cells w f at column d place is =
    sym (is ∙ ap (λ (n : ℕ). get_or table.columns n d) place ∙ get_or_from_slice_get table.columns f.place f.column d f.has_column)

pub null_fault : (table : TableDef) (cells : List Cell) (at : ℕ) (column d : ColumnDef) → IsRowFault table cells (why.NullNotAllowed at) → column ≡ get_or table.columns at d →
    first_column_fault table 0 table.columns cells ≡ Some (fault.NullNotAllowed column.name)
null_fault table cells at column d f is =
    subst (λ (c : ColumnDef). first_column_fault table 0 table.columns cells ≡ Some (fault.NullNotAllowed c.name)) (column_of table cells (why.NullNotAllowed at) f at column d f.cause.0 is)
    (first_of table cells (why.NullNotAllowed at) f (fault.NullNotAllowed f.column.name) (null_is table f.place at f.column f.cell f.cause))

pub long_fault : (table : TableDef) (cells : List Cell) (at : ℕ) (column d : ColumnDef) → IsRowFault table cells (why.TextTooLong at) → column ≡ get_or table.columns at d →
    first_column_fault table 0 table.columns cells ≡ Some (fault.TextTooLong column.name)
long_fault table cells at column d f is =
    subst (λ (c : ColumnDef). first_column_fault table 0 table.columns cells ≡ Some (fault.TextTooLong c.name)) (column_of table cells (why.TextTooLong at) f at column d f.cause.0 is)
    (first_of table cells (why.TextTooLong at) f (fault.TextTooLong f.column.name) (long_is table f.place at f.column f.cell f.cause))

-- the place of a fault is that of a column
place_within : (table : TableDef) (cells : List Cell) (w : CellFault) (f : IsFirstCause table cells w) (at : ℕ) → at ≡ f.place → at < length table.columns
place_within table cells w f at is = let within : f.place < length table.columns = slice_get_within table.columns f.place f.column f.has_column in omega arith

pub null_place : (table : TableDef) (cells : List Cell) (at : ℕ) → IsRowFault table cells (why.NullNotAllowed at) → at < length table.columns
null_place table cells at f = place_within table cells (why.NullNotAllowed at) f at f.cause.0

pub long_place : (table : TableDef) (cells : List Cell) (at : ℕ) → IsRowFault table cells (why.TextTooLong at) → at < length table.columns
long_place table cells at f = place_within table cells (why.TextTooLong at) f at f.cause.0

-- cells of their columns' types have no other fault
pub counted : (table : TableDef) (cells : List Cell) → AreTyped table.columns cells → IsRowFault table cells why.WrongCount → ⊥
counted table cells typed f = f typed.count

pub no_clash : (table : TableDef) (cells : List Cell) (at : ℕ) → AreTyped table.columns cells → IsRowFault table cells (why.TypeClash at) → ⊥
no_clash table cells at typed f = both_ways (has_type (type_of f.column.kind) f.cell) f.cause.1 (typed.types f.place f.column f.cell f.has_column f.has_cell)

-- a row is short enough for an image
pub row_image : (table : TableDef) (cells : List Cell) → TakesRows table → IsRow table cells → IsRowImage cells
row_image table cells takes row =
    let count = row.count in
    let some = takes.some in
    let few = takes.few in
    record { some = omega arith; few = omega arith }

-- ---- cells that fit

pub fits : (table : TableDef) (cells : List Cell) → first_column_fault table 0 table.columns cells ≡ None → fitting table cells ≡ Ok cells
fits table cells none = rw none refl

pub unfit : (table : TableDef) (cells : List Cell) (e : ExecFault) → first_column_fault table 0 table.columns cells ≡ Some e → fitting table cells ≡ Err e
unfit table cells e some = rw some refl
