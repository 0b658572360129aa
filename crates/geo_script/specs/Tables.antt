-- What a line that declares an index adds to the tables.
use Rattle.std.specs.Prelude.{ℕ, List, [], ◌∷◌, ◌++◌, slice_set}
use Rattle.geo_schema.specs.declared.index.IndexDef.{IndexDef}
use Rattle.geo_schema.specs.declared.table.TableDef.{TableDef}
use Rattle.geo_schema.specs.Tables.{table_in}

-- the tables, where the one with this number has an index more
abbrev pub add_index : List TableDef → ℕ → IndexDef → List TableDef
add_index tables at index =
    slice_set tables at (record (table_in tables at) { indexes = (table_in tables at).indexes ++ index ∷ [] })
