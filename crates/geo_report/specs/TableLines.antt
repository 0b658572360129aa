-- What tables print.
use Rattle.std.specs.Prelude.{ℕ, List, ◌++◌, length, codes}
use Rattle.std.specs.List.{flat_map, range_with_len}
use Rattle.std.specs.Fmt.{decimal}
use Rattle.geo_base.specs.declared.row_image.RowImage.{RowImage}
use Rattle.geo_schema.specs.Schemas.{Tables, table_at}
use Rattle.row_source.specs.Sources.{images, of_table}
use Rattle.write_set.specs.Overlay.{Table}
use Rattle.geo_report.specs.Words.{line, row_lines}

-- the lines of a table: its name, how many rows it has, and each of them
abbrev pub lines_of_table : List ℕ → List RowImage → List ℕ
lines_of_table name rows = line (codes "table " ++ name ++ codes " " ++ decimal (length rows) ++ codes " rows") ++ row_lines rows

-- the lines of a table with its rows among those of all tables, in the order of their keys
abbrev pub lines_of_number : Tables → Table → ℕ → List ℕ
lines_of_number tables rows number = lines_of_table (table_at tables number).name (images (of_table number rows))

-- the lines of all tables that are shown, in the order of the schema
unfoldable pub table_lines_of : Tables → Table → List ℕ
table_lines_of tables rows = flat_map (lines_of_number tables rows) (range_with_len 0 (length tables.shown))
