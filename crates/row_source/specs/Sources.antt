-- What a source of rows hands out: parts of its list of rows.
use Rattle.std.specs.Prelude.{◌≡◌, ℕ, Bool, ◌&&◌, nat_eq, Option, Some, None, List, [], ◌∷◌, filter, map}
use Rattle.std.specs.List.{All}
use Rattle.geo_base.specs.declared.row_id.RowId.{RowId}
use Rattle.geo_base.specs.declared.row_image.RowImage.{RowImage}
use Rattle.geo_schema.specs.declared.index.IndexDef.{IndexDef}
use Rattle.geo_schema.specs.declared.range.KeyRange.{KeyRange}
use Rattle.geo_schema.specs.Indexes.{index_at, index_cells}
use Rattle.geo_schema.specs.Ranges.{is_within}
use Rattle.geo_schema.specs.Rows.{IsRow, key_cells}
use Rattle.geo_schema.specs.Schemas.{Tables, IsTableNo, table_at}
use Rattle.write_set.specs.Overlay.{Table}
use Rattle.write_set.specs.Sets.{Rises}

-- a row with its image
abbrev pub Entry : Type 0
Entry = RowId × RowImage

-- the images of rows, in their order
abbrev pub images : Table → List RowImage
images rows = map (λ entry. entry.1) rows

-- the rows of a table, in the order of their keys
abbrev pub of_table : ℕ → Table → Table
of_table table rows = filter (λ entry. nat_eq entry.0.table table) rows

-- the row is of the table, and its key lies in the range
abbrev pub is_by_key : ℕ → KeyRange → Entry → Bool
is_by_key table range entry = nat_eq entry.0.table table && is_within range entry.0.key

-- the images of the table's rows whose keys lie in the range, in the order of their keys
unfoldable pub images_by_key : ℕ → KeyRange → Table → List RowImage
images_by_key table range rows = images (filter (is_by_key table range) rows)

-- the row is of the table, and its cells in the index lie in the range
abbrev pub is_by_index : IndexDef → ℕ → KeyRange → Entry → Bool
is_by_index index table range entry = nat_eq entry.0.table table && is_within range (index_cells index entry.1)

-- the images of the table's rows whose cells in the index lie in the range, in the order of their keys
unfoldable pub images_by_index : Tables → ℕ → ℕ → KeyRange → Table → List RowImage
images_by_index tables table place range rows =
    images (filter (is_by_index (index_at (table_at tables table) place) table range) rows)

-- the image of a row as a list, which is empty where there is none
abbrev pub listed : Option RowImage → List RowImage
listed (Some image) = image ∷ []
listed None = []

-- the row is of a table that there is, its image is a row of that table, and the key is that row's
pub record Fits (tables : Tables) (entry : Entry) : Type 0 where
  pub is_table : IsTableNo tables entry.0.table
  pub row : IsRow (table_at tables entry.0.table) entry.1
  pub key : key_cells (table_at tables entry.0.table) entry.1 ≡ entry.0.key

-- rows of these tables, each once and in rising order
pub record AreRowsOf (tables : Tables) (rows : Table) : Type 0 where
  pub rising : Rises rows
  pub fit : All (Fits tables) rows
