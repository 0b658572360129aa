-- Cells that are no key are the key of no row.
use Rattle.std.proofs.Common.{◌≡◌, ℕ, ◌<◌, Bool, true, false, ◌||◌, nat_eq, Some, List, [], ◌∷◌, length, map, get_or, slice_index_or, refl, sym, ap, ◌∙◌, arith}
use Rattle.std.specs.List.{All, filter}
use Rattle.std.proofs.lemmas.List.{length-map, get_or-map}
use Rattle.std.proofs.lemmas.List.Elements.{All-head, All-tail}
use Rattle.std.proofs.lemmas.List.Folds.{list_any_at}
use Rattle.std.proofs.lemmas.Bool.{both_ways, eq-eqb, or_right}
use Rattle.std.proofs.lemmas.Option.{none-some, slice_get-get_or}
use Rattle.geo_base.specs.Cells.{IsKey, is_null, key_fault}
use Rattle.geo_base.specs.Order.{row_eq}
use Rattle.geo_base.specs.declared.cell.Cell.{Cell}
use Rattle.geo_base.specs.declared.cell.Cell.TheVariants as cell
use Rattle.geo_base.specs.declared.key.KeyFault.{KeyFault}
use Rattle.geo_base.specs.declared.row_id.RowId.{RowId}
use Rattle.geo_base.specs.laws.Keys.{key_fault_none}
use Rattle.geo_base.specs.laws.Orders.{row_eq_decides}
use Rattle.geo_schema.specs.declared.table.TableDef.{TableDef}
use Rattle.geo_schema.specs.Rows.{IsRow, is_in, key_cells}
use Rattle.geo_schema.specs.Schemas.{IsSchema, Tables, table_at}
use Rattle.geo_schema.specs.Tables.{TakesRows, no_column}
use Rattle.geo_schema.specs.laws.Numbers.{takes_rows}
use Rattle.geo_schema.specs.laws.Places.{none_found}
use Rattle.row_source.specs.Handing.{row_named}
use Rattle.row_source.specs.Sources.{AreRowsOf, Entry, Fits, images}
use Rattle.write_set.specs.Overlay.{Table}

module _ (table : TableDef) (cells : List Cell) (takes : TakesRows table) (row : IsRow table cells) where
  -- the cell at a place of the key isn't NULL
  not_null : (k : ℕ) → k < length table.key → is_null (get_or cells (get_or table.key k 0) cell.Null) ≡ false
  not_null k within =
      let place = get_or table.key k 0 in
      let inside : place < length table.columns = takes.key.within k 0 within in
      let has : place < length cells = omega (arith, inside, row.count) in
      let fits = row.suits place (get_or table.columns place no_column) (get_or cells place cell.Null)
      (slice_get-get_or table.columns place no_column inside) (slice_get-get_or cells place cell.Null has) in
      let of_key : is_in table.key place ≡ true = list_any_at (λ p. nat_eq p place) table.key k 0 within (eq-eqb place place refl) in
      by (is_null (get_or cells place cell.Null)) refl (λ null. both_ways ((get_or table.columns place no_column).not_null || is_in table.key place) (fits.null null) (or_right (get_or table.columns place no_column).not_null (is_in table.key place) of_key))
    where
      by : (b : Bool) → is_null (get_or cells (get_or table.key k 0) cell.Null) ≡ b → (is_null (get_or cells (get_or table.key k 0) cell.Null) ≡ true → ⊥) →
          is_null (get_or cells (get_or table.key k 0) cell.Null) ≡ false
      by true is never = absurd (never is)
      by false is never = is

  pub is_key : IsKey (key_cells table cells)
  unfolding key_cells
  is_key =
      let read : ℕ → Cell = λ place. slice_index_or cells place cell.Null in
      let count : length (map read table.key) ≡ length table.key = length-map table.key read in
      record {
        some = rw count takes.key.some;
        few = rw count takes.key.few;
        whole = none_found is_null (map read table.key) cell.Null (λ k within.
            let inside : k < length table.key = omega arith in
            rw (get_or-map read table.key k 0 cell.Null inside) (not_null k inside));
      }

-- no row has such a name
module _ (tables : Tables) (number : ℕ) (cells : List Cell) (why : KeyFault) (schema : IsSchema tables) (no_key : key_fault cells ≡ Some why) where
  unnamed : (entry : Entry) → Fits tables entry → row_eq (row_named number cells) entry.0 ≡ true → ⊥
  unnamed entry fits is =
      let named = (row_eq_decides (row_named number cells) entry.0).0 is in
      let same : entry.0.key ≡ cells = sym (ap (λ (name : RowId). name.key) named) in
      let key : IsKey (key_cells (table_at tables entry.0.table) entry.1) =
      is_key (table_at tables entry.0.table) entry.1 (takes_rows tables entry.0.table schema fits.is_table) fits.row in
      none-some why (sym (key_fault_none (key_cells (table_at tables entry.0.table) entry.1) key) ∙ ap key_fault (fits.key ∙ same) ∙ no_key)

  none_named : (rows : Table) → All (Fits tables) rows → filter (λ entry. row_eq (row_named number cells) entry.0) rows ≡ []
  none_named [] fit = refl
  none_named (entry ∷ rows) fit = by (row_eq (row_named number cells) entry.0) refl (none_named rows (All-tail (Fits tables) entry rows fit))
    where
      by : (b : Bool) → row_eq (row_named number cells) entry.0 ≡ b → filter (λ e. row_eq (row_named number cells) e.0) rows ≡ [] →
          filter (λ e. row_eq (row_named number cells) e.0) (entry ∷ rows) ≡ []
      by true is rest = absurd (unnamed entry (All-head (Fits tables) entry rows fit) is)
      by false is rest = rw is rest

  pub no_row : (rows : Table) → AreRowsOf tables rows → [] ≡ images (filter (λ entry. row_eq (row_named number cells) entry.0) rows)
  no_row rows are = ap images (sym (none_named rows are.fit))
