-- Inner: where a row stands among entries that rise by row.
use Rattle.std.specs.Prelude.{◌≡◌, ℕ, ◌<◌, ◌≤◌, List, length, slice_index_or}
use Rattle.std.specs.declared.cmp.Ordering.TheVariants.{Less, Equal, Greater}
use Rattle.geo_base.specs.declared.row_id.RowId.{RowId}
use Rattle.geo_base.specs.Order.{row_cmp}

-- the row is greater than those of the entries below the place
abbrev pub IsAbove : {X : Type 0} → List (RowId × X) → RowId → ℕ → Type 0
IsAbove {X} entries row place = (j : ℕ) (d : RowId × X) → j < place → row_cmp row (slice_index_or entries j d).0 ≡ Greater

-- the entry at the place is the row's
pub record StandsAt {X : Type 0} (entries : List (RowId × X)) (row : RowId) (place : ℕ) : Type 0 where
  pub within : place < length entries
  pub above : IsAbove entries row place
  pub here : (d : RowId × X) → row_cmp row (slice_index_or entries place d).0 ≡ Equal

-- no entry is the row's, and one would go to the place
pub record FitsAt {X : Type 0} (entries : List (RowId × X)) (row : RowId) (place : ℕ) : Type 0 where
  pub within : place ≤ length entries
  pub above : IsAbove entries row place
  pub below : (j : ℕ) (d : RowId × X) → place ≤ j → j < length entries → row_cmp row (slice_index_or entries j d).0 ≡ Less
