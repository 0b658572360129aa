-- Inner: which pairs rows lose and get in an epoch, as the code finds them.
use Rattle.std.specs.Prelude.{ℕ, ◌+◌, Bool, Option, List, [], ◌∷◌, ◌++◌, if◌then◌else◌}
use Rattle.std.specs.List.{cons_option, flat_map}
use Rattle.std.specs.Option.{option_map, option_eq}
use Rattle.geo_base.specs.Order.{cells_eq}
use Rattle.geo_base.specs.declared.row_id.RowId.{RowId}
use Rattle.geo_base.specs.declared.row_image.RowImage.{RowImage}
use Rattle.geo_schema.specs.declared.index.IndexDef.{IndexDef}
use Rattle.geo_schema.specs.Schemas.{Tables, table_at}
use Rattle.geo_schema.specs.Indexes.{index_cells}
use Rattle.page_map.specs.Pairs.{put_in}
use Rattle.index_store.specs.declared.gain.Gain.{Gain}
use Rattle.index_store.specs.declared.pair.IndexPair.{IndexPair}
use Rattle.index_store.specs.Order.{pair_cmp}

-- the pair of the row with an image, if there is one, in the index at the place
abbrev pub pair_in : RowId → ℕ → IndexDef → Option RowImage → Option IndexPair
pair_in row place index image =
    option_map (λ cells. record { table = row.table; index = place; cells = index_cells index cells; key = row.key }) image

-- with both images the row has the same cells in the index, or with both there is no row
abbrev pub are_alike : IndexDef → Option RowImage → Option RowImage → Bool
are_alike index a b = option_eq cells_eq (option_map (index_cells index) a) (option_map (index_cells index) b)

-- the pair of the row with the first image in the index at the place, unless it has that one with the second too
abbrev pub only_first : RowId → ℕ → IndexDef → Option RowImage → Option RowImage → List IndexPair
only_first row place index a b = if are_alike index a b then [] else cons_option (pair_in row place index a) []

-- the same in these indexes, the first of which has the place
abbrev pub apart_from : RowId → Option RowImage → Option RowImage → ℕ → List IndexDef → List IndexPair
apart_from row a b place [] = []
apart_from row a b place (index ∷ more) = only_first row place index a b ++ apart_from row a b (place + 1) more

-- the same in all indexes of its table
abbrev pub apart : Tables → RowId → Option RowImage → Option RowImage → List IndexPair
apart tables row a b = apart_from row a b 0 (table_at tables row.table).indexes

-- the same of several rows, by images of each
abbrev pub all_apart : Tables → (RowId → Option RowImage) → (RowId → Option RowImage) → List RowId → List IndexPair
all_apart tables a b rows = flat_map (λ row. apart tables row (a row) (b row)) rows

-- the entries with these pairs, each of them beside the epoch
abbrev pub all_added : ℕ → List IndexPair → List (IndexPair × Gain) → List (IndexPair × Gain)
all_added epoch [] entries = entries
all_added epoch (pair ∷ more) entries = all_added epoch more (put_in pair_cmp pair (record { epoch = epoch }) entries)
