-- The key of a row that fits its table.
use Rattle.std.proofs.Common.{◌≡◌, ℕ, ◌<◌, Bool, true, false, if◌then◌else◌, nat_eq, List, Option, Some, None, Result, Ok, Err, MatchResult, IsOk, length, map, get_or, slice_index_or, refl, sym, ap, ◌∙◌, arith}
use Rattle.std.specs.List.{All}
use Rattle.std.proofs.lemmas.List.{length-map, get_or-map}
use Rattle.std.proofs.lemmas.List.Folds.{list_any_at}
use Rattle.std.proofs.lemmas.Bool.{eq-eqb, or_right}
use Rattle.std.proofs.lemmas.Option.{none-some}
use Rattle.geo_base.specs.declared.cell.Cell.{Cell}
use Rattle.geo_base.specs.declared.cell.Cell.TheVariants as cell
use Rattle.geo_base.specs.Cells.{IsKey, is_null, key_fault}
use Rattle.geo_base.specs.laws.Keys.{key_fault_none}
use Rattle.geo_schema.specs.declared.column.ColumnDef.{ColumnDef}
use Rattle.geo_schema.specs.declared.fault.CellFault.TheVariants as fault
use Rattle.geo_schema.specs.declared.table.TableDef.{TableDef}
use Rattle.geo_schema.specs.Rows.{is_in, is_too_long, key_cells}
use Rattle.geo_schema.specs.Tables.{TakesRows, no_column}
use Rattle.geo_schema.specs.inner.Rows.{cell_fault, row_fault}
use Rattle.geo_schema.specs.laws.Keys.{cell_faultless, row_count, row_cells}
use Rattle.geo_schema.specs.laws.Places.{none_found}

-- the cell of a key column that isn't at fault is no NULL
not_null : (key : List ℕ) (column : ColumnDef) (place : ℕ) (x : Cell) → is_in key place ≡ true → cell_fault key column place x ≡ None → is_null x ≡ false
unfolding cell_fault
not_null key column place cell.Null within h =
    let wants = or_right column.not_null (is_in key place) within in
    let rest = if is_too_long column.kind cell.Null then Some (fault.TextTooLong place) else None in
    absurd (none-some (fault.NullNotAllowed place) (sym h ∙ ap (λ (b : Bool). if b then Some (fault.NullNotAllowed place) else rest) wants))
not_null key column place (cell.Int x) within h = refl
not_null key column place (cell.Text x) within h = refl
not_null key column place (cell.Truth x) within h = refl

-- each place of the key is that of a cell of the row
pub places_within : (table : TableDef) (cells : List Cell) → TakesRows table → row_fault table cells ≡ None → All (λ place. place < length cells) table.key
places_within table cells good fits k d within =
    let column = good.key.within k d within in
    let count = row_count table cells fits in
    omega arith

-- no cell at a place of the key is NULL
key_cell_not_null : (table : TableDef) (cells : List Cell) → TakesRows table → row_fault table cells ≡ None →
    (k : ℕ) → k < length table.key → is_null (get_or cells (get_or table.key k 0) cell.Null) ≡ false
key_cell_not_null table cells good fits k within =
    let place = get_or table.key k 0 in
    let column = get_or table.columns place no_column in
    let x = get_or cells place cell.Null in
    let in_key : is_in table.key place ≡ true = list_any_at (λ p. nat_eq p place) table.key k 0 within (eq-eqb place place refl) in
    let faultless : cell_fault table.key column place x ≡ None =
    cell_faultless table.key 0 table.columns cells place place (row_cells table cells fits) (good.key.within k 0 within)
    (places_within table cells good fits k 0 within) (omega arith) in
    not_null table.key column place x in_key faultless

-- the cells at the key's places are a key
key_is_key : (table : TableDef) (cells : List Cell) → TakesRows table → row_fault table cells ≡ None → IsKey (key_cells table cells)
unfolding key_cells
key_is_key table cells good fits =
    let read : ℕ → Cell = λ place. slice_index_or cells place cell.Null in
    let count : length (map read table.key) ≡ length table.key = length-map table.key read in
    let rules = good.key in
    record {
      some = rw count rules.some;
      few = rw count rules.few;
      whole = none_found is_null (map read table.key) cell.Null (λ k within.
          let inside : k < length table.key = omega arith in
          rw (get_or-map read table.key k 0 cell.Null inside) (key_cell_not_null table cells good fits k inside));
    }

pub key_is_faultless : (table : TableDef) (cells : List Cell) → TakesRows table → row_fault table cells ≡ None → key_fault (key_cells table cells) ≡ None
key_is_faultless table cells good fits = key_fault_none (key_cells table cells) (key_is_key table cells good fits)

-- where there is no fault, the answer that tells it is none
pub answers : {A E : Type 0} (r : Result A E) (P : A → Type 0) (f : Option E) → MatchResult r P (λ e. f ≡ Some e) → f ≡ None → IsOk r
answers (Ok x) P f h none = refl
answers (Err e) P f h none = absurd (none-some e (sym none ∙ h))
