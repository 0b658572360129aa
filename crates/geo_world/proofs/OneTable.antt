-- The table of every play is a schema, and its rows fit it.
use Rattle.std.proofs.Common.{◌≡◌, ℤ, List, [], ◌∷◌, None, refl, sym, ap, ◌∙◌, subst}
use Rattle.std.proofs.lemmas.Option.{none-some}
use Rattle.geo_base.specs.declared.cell.Cell.{Cell}
use Rattle.geo_base.specs.declared.cell.Cell.TheVariants as cell
use Rattle.geo_base.specs.declared.row_id.RowId.{RowId}
use Rattle.geo_schema.specs.Rows.{IsRow, key_cells}
use Rattle.geo_schema.specs.Schemas.{IsSchemaFault, IsTableNo, table_numbered, table_at}
use Rattle.geo_schema.specs.declared.fault.SchemaFault.{SchemaFault}
use Rattle.geo_schema.specs.inner.Rows.{cell_fault, row_fault}
use Rattle.geo_schema.specs.inner.Schemas.{schema_fault}
use Rattle.geo_schema.specs.inner.Tables.{is_column, are_columns, are_places, are_indexes, is_table}
use Rattle.geo_schema.specs.laws.Fits.{row_fits}
use Rattle.geo_schema.specs.laws.Schemas.{schema_fault_is}
use Rattle.geo_world.specs.Step.{kv_row}
use Rattle.geo_world.specs.Tables.{kv_table, kv_tables, kv_cells}

kv_faultless : schema_fault kv_tables ≡ None
unfolding schema_fault is_table are_columns is_column are_places are_indexes
kv_faultless = refl

-- the tables have no fault, so they are a schema
pub kv_no_fault : (why : SchemaFault) → IsSchemaFault kv_tables why → ⊥
kv_no_fault why fault = none-some why (sym kv_faultless ∙ schema_fault_is kv_tables why fault)

-- the table has the number 0
pub kv_numbered : IsTableNo kv_tables 0
unfolding table_numbered
kv_numbered = refl

pub kv_at : table_at kv_tables 0 ≡ kv_table
unfolding table_numbered
kv_at = refl

kv_fits : (key value : ℤ) → row_fault kv_table (kv_cells key value) ≡ None
unfolding row_fault cell_fault
kv_fits key value = refl

kv_key : (key value : ℤ) → key_cells kv_table (kv_cells key value) ≡ cell.Int key ∷ []
unfolding key_cells
kv_key key value = refl

-- the cells of a row of the table fit it
pub kv_fitting : (key value : ℤ) (cells : List Cell) → cells ≡ kv_cells key value → IsRow kv_table cells
kv_fitting key value cells is = subst (IsRow kv_table) (sym is) (row_fits kv_table (kv_cells key value) (kv_fits key value))

-- the name by the table's key is that of the row with this key
pub kv_named : (key value : ℤ) (cells : List Cell) (row : RowId) → cells ≡ kv_cells key value → row ≡ record { table = 0; key = key_cells kv_table cells } → row ≡ kv_row key
kv_named key value cells row is named =
    named
    ∙ ap (λ (x : List Cell). record { table = 0; key = key_cells kv_table x }) is
    ∙ ap (λ (x : List Cell). record { table = 0; key = x }) (kv_key key value)
