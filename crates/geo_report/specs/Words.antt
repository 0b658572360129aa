-- What lines are made of.
use Rattle.std.specs.Prelude.{ℕ, List, [], ◌∷◌, ◌++◌, codes}
use Rattle.std.specs.List.{flat_map}
use Rattle.std.specs.Fmt.{decimal}
use Rattle.geo_base.specs.Texts.{row_text}
use Rattle.geo_base.specs.declared.cell.Cell.{Cell}
use Rattle.geo_base.specs.declared.numbers.CandId.{CandId}
use Rattle.geo_base.specs.declared.row_id.RowId.{RowId}
use Rattle.geo_schema.specs.Schemas.{Tables, table_at}

-- the text as a line: a line feed ends it
abbrev pub line : List ℕ → List ℕ
line text = text ++ 10 ∷ []

-- a line for each row
abbrev pub row_lines : List (List Cell) → List ℕ
row_lines rows = flat_map (λ cells. line (row_text cells)) rows

-- a candidate: its epoch, its region and its commit number
abbrev pub id_text : CandId → List ℕ
id_text id = decimal id.epoch ++ codes "." ++ decimal id.region ++ codes "." ++ decimal id.csn

-- a row by its table's name and its key; a hidden table has the name of its unique
abbrev pub row_name : Tables → RowId → List ℕ
row_name tables row = (table_at tables row.table).name ++ row_text row.key
