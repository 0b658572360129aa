-- What only the bodies of this crate speak of: the rows that an access has reached.
use Rattle.std.specs.Prelude.{List, map}
use Rattle.std.specs.Option.{option_copied}
use Rattle.geo_base.specs.declared.row_image.RowImage.{RowImage}
use Rattle.row_source.specs.Sources.{listed}
use Rattle.sql_exec.specs.declared.reaching.Reached.{Reached}
use Rattle.sql_exec.specs.declared.reaching.Reached.TheVariants.{Listed, Named}

-- their images
abbrev pub rows_in : Reached → List RowImage
rows_in (Named row) = listed (option_copied row)
rows_in (Listed rows) = map (λ row. row.now) rows.items
