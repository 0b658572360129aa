-- What is found by a search is there or not, and is one thing.
use Rattle.std.proofs.Common.{◌≡◌, ◌⊎◌, ℕ, inl, inr, Option, Some, None, List, sym, ◌∙◌, refl}
use Rattle.std.proofs.lemmas.Option.{none-some}
use Rattle.geo_base.specs.declared.cell.Cell.{Cell}
use Rattle.geo_schema.specs.declared.column.ColumnDef.{ColumnDef}
use Rattle.geo_schema.specs.declared.fault.CellFault.{CellFault}
use Rattle.geo_schema.specs.declared.fault.SchemaFault.{SchemaFault}
use Rattle.geo_schema.specs.declared.table.TableDef.{TableDef}
use Rattle.geo_schema.specs.Rows.{Suits, IsCause, IsRow, IsRowFault}
use Rattle.geo_schema.specs.Schemas.{Tables, IsSchema, IsSchemaFault}
use Rattle.geo_schema.specs.inner.Rows.{cell_fault, row_fault}
use Rattle.geo_schema.specs.inner.Schemas.{schema_fault}
use Rattle.geo_schema.specs.laws.Fits.{suits, suits_faultless, cause_found, found_cause, row_fits, fit_rows, is_row_fault, row_fault_is}
use Rattle.geo_schema.specs.laws.Schemas.{is_schema, no_fault, is_schema_fault, schema_fault_is}

module _ {E : Type 0} (found : Option E) (Good : Type 0) (Bad : E → Type 0) (good : found ≡ None → Good) (bad : (e : E) → found ≡ Some e → Bad e)
    (none : Good → found ≡ None) (some : (e : E) → Bad e → found ≡ Some e) where
  either : Good ⊎ ((e : E) × Bad e)
  either = by found refl
    where
      by : (o : Option E) → found ≡ o → Good ⊎ ((e : E) × Bad e)
      by None is = inl (good is)
      by (Some e) is = inr (e, bad e is)

  not_both : (e : E) → Good → ¬ Bad e
  not_both e g b = none-some e (sym (none g) ∙ some e b)

  one : (a b : E) → Bad a → Bad b → a ≡ b
  one a b x y = inside (sym (some a x) ∙ some b y)
    where
      inside : Some a ≡ Some b → a ≡ b
      inside e = cc

pub cell_or_fault : (key : List ℕ) (column : ColumnDef) (place : ℕ) (cell : Cell) → Suits key column place cell ⊎ ((why : CellFault) × IsCause key column place cell why)
cell_or_fault key column place cell =
    either (cell_fault key column place cell) (Suits key column place cell) (IsCause key column place cell) (suits key column place cell) (cause_found key column place cell)
    (suits_faultless key column place cell) (found_cause key column place cell)

pub cell_no_fault : (key : List ℕ) (column : ColumnDef) (place : ℕ) (cell : Cell) (why : CellFault) → Suits key column place cell → ¬ IsCause key column place cell why
cell_no_fault key column place cell =
    not_both (cell_fault key column place cell) (Suits key column place cell) (IsCause key column place cell) (suits key column place cell) (cause_found key column place cell)
    (suits_faultless key column place cell) (found_cause key column place cell)

pub one_cell_fault : (key : List ℕ) (column : ColumnDef) (place : ℕ) (cell : Cell) (a b : CellFault) → IsCause key column place cell a → IsCause key column place cell b → a ≡ b
one_cell_fault key column place cell =
    one (cell_fault key column place cell) (Suits key column place cell) (IsCause key column place cell) (suits key column place cell) (cause_found key column place cell)
    (suits_faultless key column place cell) (found_cause key column place cell)

pub row_or_fault : (table : TableDef) (cells : List Cell) → IsRow table cells ⊎ ((why : CellFault) × IsRowFault table cells why)
row_or_fault table cells =
    either (row_fault table cells) (IsRow table cells) (IsRowFault table cells) (row_fits table cells) (is_row_fault table cells) (fit_rows table cells) (row_fault_is table cells)

pub row_no_fault : (table : TableDef) (cells : List Cell) (why : CellFault) → IsRow table cells → ¬ IsRowFault table cells why
row_no_fault table cells =
    not_both (row_fault table cells) (IsRow table cells) (IsRowFault table cells) (row_fits table cells) (is_row_fault table cells) (fit_rows table cells) (row_fault_is table cells)

pub one_row_fault : (table : TableDef) (cells : List Cell) (a b : CellFault) → IsRowFault table cells a → IsRowFault table cells b → a ≡ b
one_row_fault table cells =
    one (row_fault table cells) (IsRow table cells) (IsRowFault table cells) (row_fits table cells) (is_row_fault table cells) (fit_rows table cells) (row_fault_is table cells)

pub schema_or_fault : (tables : Tables) → IsSchema tables ⊎ ((why : SchemaFault) × IsSchemaFault tables why)
schema_or_fault tables =
    either (schema_fault tables) (IsSchema tables) (IsSchemaFault tables) (is_schema tables) (is_schema_fault tables) (no_fault tables) (schema_fault_is tables)

pub schema_no_fault : (tables : Tables) (why : SchemaFault) → IsSchema tables → ¬ IsSchemaFault tables why
schema_no_fault tables =
    not_both (schema_fault tables) (IsSchema tables) (IsSchemaFault tables) (is_schema tables) (is_schema_fault tables) (no_fault tables) (schema_fault_is tables)

pub one_schema_fault : (tables : Tables) (a b : SchemaFault) → IsSchemaFault tables a → IsSchemaFault tables b → a ≡ b
one_schema_fault tables =
    one (schema_fault tables) (IsSchema tables) (IsSchemaFault tables) (is_schema tables) (is_schema_fault tables) (no_fault tables) (schema_fault_is tables)
