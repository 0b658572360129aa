-- The plain merge: the epochs that it has merged, and the rows that they leave.
use Rattle.std.specs.Prelude.{◌≡◌, ℕ, List, length, unwrap_or}
use Rattle.std.specs.Map.{lookup}
use Rattle.std.specs.BTreeMap.{is_at}
use Rattle.geo_base.specs.declared.row_id.RowId.{RowId}
use Rattle.geo_base.specs.Order.{row_cmp}
use Rattle.write_set.specs.Journal.{Epochs}
use Rattle.write_set.specs.Merge.{last_change}
use Rattle.write_set.specs.Overlay.{Table}
use Rattle.write_set.specs.Snapshot.{snap_rows}

-- the number of regions, the epochs done, the rows, and a list of rows with the last change of each, to judge the next epoch by
pub record Merged : Type 0 where
  pub regions : ℕ
  pub epoch : ℕ
  pub rows : Table
  pub changes : List (RowId × ℕ)

-- the last change of a row by that list, or 0 where it lacks the row
abbrev pub last_in : List (RowId × ℕ) → RowId → ℕ
last_in changes row = unwrap_or (lookup (is_at (row_cmp row)) changes) 0

-- by that list each row has its last change in these epochs
abbrev pub HasLastChanges : Epochs → List (RowId × ℕ) → Type 0
HasLastChanges epochs changes = (row : RowId) → last_in changes row ≡ last_change epochs row

-- these epochs, newest first, were merged: so many are done, their snapshot's rows are there, and so are the last changes
pub record IsMergeOf (epochs : Epochs) (merged : Merged) : Type 0 where
  pub count : merged.epoch ≡ length epochs
  pub table : merged.rows ≡ snap_rows epochs
  pub last : HasLastChanges epochs merged.changes
