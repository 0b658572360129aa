-- Laws: cells of their columns' types fit exactly where they are a row of the table, and else the fault names the column
-- of the first that doesn't suit it.
use Rattle.std.proofs.Common.{◌≡◌, ◌↔◌, ℕ, suc, ◌+◌, Bool, true, false, ◌&&◌, ◌||◌, if◌then◌else◌, Option, Some, None, List, [], ◌∷◌, length, Result, Ok, Err, refl, sym, ap, ◌∙◌, subst, zero-add, arith}
use Rattle.std.specs.List.{slice_get}
use Rattle.std.specs.Option.{option_map, option_or}
use Rattle.std.proofs.lemmas.Bool.{eq-eqb}
use Rattle.std.proofs.lemmas.Option.{get_or_from_slice_get, none-some, same_Some, slice_get-map}
use Rattle.geo_base.specs.Cells.{has_type, is_null}
use Rattle.geo_base.specs.declared.cell.Cell.{Cell}
use Rattle.geo_base.specs.laws.Results.{fault_is, not_done, ok_is}
use Rattle.geo_schema.specs.declared.column.ColumnDef.{ColumnDef}
use Rattle.geo_schema.specs.declared.column.Kind.{Kind}
use Rattle.geo_schema.specs.declared.column.Kind.TheVariants as kind
use Rattle.geo_schema.specs.declared.fault.CellFault.{CellFault}
use Rattle.geo_schema.specs.declared.fault.CellFault.TheVariants as why
use Rattle.geo_schema.specs.declared.table.TableDef.{TableDef}
use Rattle.geo_schema.specs.inner.Rows.{cell_fault, cells_fault, row_fault}
use Rattle.geo_schema.specs.laws.Fits.{fit_rows, is_row_fault, row_fault_is, row_fits}
use Rattle.geo_schema.specs.Rows.{IsRow, IsRowFault, is_in, is_too_long, type_of}
use Rattle.geo_schema.specs.Tables.{no_column}
use Rattle.row_source.specs.declared.fault.ExecFault.{ExecFault}
use Rattle.row_source.specs.declared.fault.ExecFault.TheVariants as fault
use Rattle.sql_bind.specs.Names.{column_types, kind_type}
use Rattle.sql_exec.specs.Changes.{IsFaultFor, name_at}
use Rattle.sql_exec.specs.Effects.{column_fault, first_column_fault, fitting, unless}
use Rattle.sql_expr.specs.Rows.{HasTypes}
use Rattle.sql_expr.specs.Types as types

-- ---- cells of their columns' types

-- each cell is of its column's type
abbrev pub AreOfTypes : List ColumnDef → List Cell → Type 0
AreOfTypes columns cells = (k : ℕ) (column : ColumnDef) (c : Cell) → slice_get columns k ≡ Some column → slice_get cells k ≡ Some c → has_type (type_of column.kind) c ≡ true

of_kind : (k : Kind) (c : Cell) → types.has_type (kind_type k) c ≡ true → has_type (type_of k) c ≡ true
of_kind kind.Int c h = h
of_kind (kind.Text max) c h = h
of_kind kind.Truth c h = h

are_of_types : (columns : List ColumnDef) (cells : List Cell) → HasTypes (column_types columns) cells → AreOfTypes columns cells
are_of_types columns cells typed k column c here there =
    of_kind column.kind c
    (typed.types k (kind_type column.kind) c
    (slice_get-map (λ (d : ColumnDef). kind_type d.kind) columns k ∙ ap (option_map (λ (d : ColumnDef). kind_type d.kind)) here) there)

types_count : (columns : List ColumnDef) → length (column_types columns) ≡ length columns
types_count [] = refl
types_count (c ∷ columns) = ap suc (types_count columns)

-- ---- the two faults agree

module _ (table : TableDef) where
  -- the fault of the schema's rule, and the statement's
  abbrev Agree : Option CellFault → Option ExecFault → Type 0
  Agree None None = Unit {0}
  Agree None (Some e) = ⊥
  Agree (Some w) None = ⊥
  Agree (Some w) (Some e) = IsFaultFor table w e

  cell_agrees : (place : ℕ) (column : ColumnDef) (c : Cell) → has_type (type_of column.kind) c ≡ true → name_at table place ≡ column.name →
      Agree (cell_fault table.key column place c) (column_fault table place column c)
  unfolding cell_fault
  cell_agrees place column c typed named = rw typed (by (is_null c && (column.not_null || is_in table.key place)) (is_too_long column.kind c))
    where
      by : (null long : Bool) → Agree (if null then Some (why.NullNotAllowed place) else (if long then Some (why.TextTooLong place) else None))
          (if null then Some (fault.NullNotAllowed column.name) else if long then Some (fault.TextTooLong column.name) else None)
      by true long = ap fault.NullNotAllowed (sym named)
      by false true = ap fault.TextTooLong (sym named)
      by false false = tt

  either_agrees : (a c : Option CellFault) (b d : Option ExecFault) → Agree a b → Agree c d → Agree (option_or a c) (option_or b d)
  either_agrees None c None d h k = k
  either_agrees None c (Some e) d h k = absurd h
  either_agrees (Some w) c None d h k = absurd h
  either_agrees (Some w) c (Some e) d h k = h

  -- the columns from a place on have their names
  abbrev AreNamedFrom : ℕ → List ColumnDef → Type 0
  AreNamedFrom place columns = (k : ℕ) (column : ColumnDef) → slice_get columns k ≡ Some column → name_at table (place + k) ≡ column.name

  named_first : (place : ℕ) (column : ColumnDef) (columns : List ColumnDef) → AreNamedFrom place (column ∷ columns) → name_at table place ≡ column.name
  named_first place column columns named =
      let e : place + 0 ≡ place = omega arith in
      subst (λ (n : ℕ). name_at table n ≡ column.name) e (named 0 column refl)

  named_rest : (place : ℕ) (column : ColumnDef) (columns : List ColumnDef) → AreNamedFrom place (column ∷ columns) → AreNamedFrom (place + 1) columns
  named_rest place column columns named k d here =
      let e : place + suc k ≡ (place + 1) + k = omega arith in
      subst (λ (n : ℕ). name_at table n ≡ d.name) e (named (suc k) d here)

  cells_agree : (place : ℕ) (columns : List ColumnDef) (cells : List Cell) → AreOfTypes columns cells → AreNamedFrom place columns →
      Agree (cells_fault table.key place columns cells) (first_column_fault table place columns cells)
  cells_agree place [] cells typed named = tt
  cells_agree place (column ∷ columns) [] typed named = tt
  cells_agree place (column ∷ columns) (c ∷ cells) typed named =
      either_agrees (cell_fault table.key column place c) (cells_fault table.key (place + 1) columns cells)
      (column_fault table place column c) (first_column_fault table (place + 1) columns cells)
      (cell_agrees place column c (typed 0 column c refl refl) (named_first place column columns named))
      (cells_agree (place + 1) columns cells (λ k. typed (suc k)) (named_rest place column columns named))

  named : AreNamedFrom 0 table.columns
  named k column here =
      subst (λ (n : ℕ). name_at table n ≡ column.name) (sym (zero-add k)) (ap (λ (d : ColumnDef). d.name) (get_or_from_slice_get table.columns k column no_column here))

  row_fault_counted : (cells : List Cell) → length cells ≡ length table.columns → row_fault table cells ≡ cells_fault table.key 0 table.columns cells
  unfolding row_fault
  row_fault_counted cells count = rw (eq-eqb (length cells) (length table.columns) count) refl

  rows_agree : (cells : List Cell) → length cells ≡ length table.columns → AreOfTypes table.columns cells →
      Agree (row_fault table cells) (first_column_fault table 0 table.columns cells)
  rows_agree cells count typed =
      subst (λ (o : Option CellFault). Agree o (first_column_fault table 0 table.columns cells)) (sym (row_fault_counted cells count))
      (cells_agree 0 table.columns cells typed named)

  none_if : (a : Option CellFault) (b : Option ExecFault) → Agree a b → a ≡ None → b ≡ None
  none_if None None h is = refl
  none_if None (Some e) h is = absurd h
  none_if (Some w) b h is = absurd (none-some w (sym is))

  if_none : (a : Option CellFault) (b : Option ExecFault) → Agree a b → b ≡ None → a ≡ None
  if_none None b h is = refl
  if_none (Some w) None h is = absurd h
  if_none (Some w) (Some e) h is = absurd (none-some e (sym is))

  has_why : (a : Option CellFault) (b : Option ExecFault) (e : ExecFault) → Agree a b → b ≡ Some e → (w : CellFault) × (a ≡ Some w) × IsFaultFor table w e
  has_why None None e h is = absurd (none-some e is)
  has_why None (Some f) e h is = absurd h
  has_why (Some w) None e h is = absurd h
  has_why (Some w) (Some f) e h is = (w, refl, subst (IsFaultFor table w) (same_Some f e is) h)

  has_fault : (a : Option CellFault) (b : Option ExecFault) (w : CellFault) → Agree a b → a ≡ Some w → (f : ExecFault) × (b ≡ Some f) × IsFaultFor table w f
  has_fault None b w h is = absurd (none-some w is)
  has_fault (Some v) None w h is = absurd h
  has_fault (Some v) (Some f) w h is = (f, refl, subst (λ (u : CellFault). IsFaultFor table u f) (same_Some v w is) h)

  one_fault : (w : CellFault) (e f : ExecFault) → IsFaultFor table w e → IsFaultFor table w f → e ≡ f
  one_fault why.WrongCount e f h k = absurd h
  one_fault (why.TypeClash place) e f h k = absurd h
  one_fault (why.NullNotAllowed place) e f h k = h ∙ sym k
  one_fault (why.TextTooLong place) e f h k = h ∙ sym k

-- ---- what fits

unless_done : (o : Option ExecFault) (cells out : List Cell) → unless o cells ≡ Ok out → (o ≡ None) × (cells ≡ out)
unless_done None cells out h = (refl, ok_is cells out h)
unless_done (Some e) cells out h = absurd (not_done out e (sym h))

unless_refused : (o : Option ExecFault) (cells : List Cell) (e : ExecFault) → unless o cells ≡ Err e → o ≡ Some e
unless_refused None cells e h = absurd (not_done cells e h)
unless_refused (Some f) cells e h = ap (λ (x : ExecFault). Some x) (fault_is {A = List Cell} f e h)

-- cells that fit are a row of the table
pub fitted : (table : TableDef) (cells out : List Cell) → length cells ≡ length table.columns → AreOfTypes table.columns cells → fitting table cells ≡ Ok out →
    IsRow table cells × (cells ≡ out)
fitted table cells out count typed h =
    let done = unless_done (first_column_fault table 0 table.columns cells) cells out h in
    (row_fits table cells (if_none table (row_fault table cells) (first_column_fault table 0 table.columns cells) (rows_agree table cells count typed) done.0), done.1)

module _ (table : TableDef) (cells : List Cell) (typed : HasTypes (column_types table.columns) cells) where
  count_is : length cells ≡ length table.columns
  count_is = typed.count ∙ types_count table.columns

  are_typed : AreOfTypes table.columns cells
  are_typed = are_of_types table.columns cells typed

  agreed : Agree table (row_fault table cells) (first_column_fault table 0 table.columns cells)
  agreed = rows_agree table cells count_is are_typed

  pub fits_as_row : (fitting table cells ≡ Ok cells) ↔ IsRow table cells
  fits_as_row = (
    λ h. (fitted table cells cells count_is are_typed h).0,
    λ row. ap (λ (o : Option ExecFault). unless o cells) (none_if table (row_fault table cells) (first_column_fault table 0 table.columns cells) agreed (fit_rows table cells row)),
  )

  pub refused_as_row : (e : ExecFault) → (fitting table cells ≡ Err e) ↔ ((w : CellFault) × IsRowFault table cells w × IsFaultFor table w e)
  refused_as_row e = (
    λ h. let p = has_why table (row_fault table cells) (first_column_fault table 0 table.columns cells) e agreed (unless_refused (first_column_fault table 0 table.columns cells) cells e h) in
        (p.0, is_row_fault table cells p.0 p.1, p.2),
    λ p. let q = has_fault table (row_fault table cells) (first_column_fault table 0 table.columns cells) p.0 agreed (row_fault_is table cells p.0 p.1) in
        ap (λ (o : Option ExecFault). unless o cells) q.1 ∙ ap (λ (f : ExecFault). let r : Result (List Cell) ExecFault = Err f in r) (one_fault table p.0 q.0 e q.2 p.2),
  )
