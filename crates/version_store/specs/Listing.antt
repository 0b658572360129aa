-- The rows that there are at an epoch, in rising order.
use Rattle.std.specs.Prelude.{ℕ, Option, List}
use Rattle.std.specs.List.{filter_map}
use Rattle.std.specs.Option.{option_map}
use Rattle.geo_base.specs.declared.row_id.RowId.{RowId}
use Rattle.geo_base.specs.declared.row_image.RowImage.{RowImage}
use Rattle.write_set.specs.Overlay.{Table}
use Rattle.version_store.specs.Chains.{Chain, image_at}
use Rattle.version_store.specs.History.{Kept}

-- the row with its image after the epoch, if there was such a row
abbrev pub row_at : ℕ → RowId × Chain → Option (RowId × RowImage)
row_at epoch pair = option_map (λ image. (pair.0, image)) (image_at pair.1 epoch)

-- of these rows those that there were after the epoch
abbrev pub rows_at : ℕ → List (RowId × Chain) → Table
rows_at epoch pairs = filter_map (row_at epoch) pairs

-- the rows that there were after the epoch
abbrev pub table_at : Kept → ℕ → Table
table_at kept epoch = rows_at epoch kept.rows
