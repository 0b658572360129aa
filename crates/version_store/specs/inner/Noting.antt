-- Inner: which rows each epoch changed, as it is noted.
use Rattle.std.specs.Prelude.{◌≡◌, ℕ, ◌<◌, Bool, true, nat_eq, nat_le, ◌&&◌, Some, List, [], ◌∷◌, ◌++◌, All, if◌then◌else◌}
use Rattle.std.specs.List.{list_any}
use Rattle.geo_base.specs.declared.row_id.RowId.{RowId}
use Rattle.geo_base.specs.Order.{row_cmp, row_eq}
use Rattle.page_map.specs.Pairs.{found_at}
use Rattle.version_store.specs.Chains.{Chain}
use Rattle.version_store.specs.inner.Writing.{Rows}

-- the rows that an epoch changed
pub record Note : Type 0 where
  pub epoch : ℕ
  pub rows : List RowId

-- the row is noted as changed in the epoch
abbrev pub is_noted : List Note → ℕ → RowId → Bool
is_noted notes epoch row = list_any (λ n. nat_eq n.epoch epoch && list_any (row_eq row) n.rows) notes

-- the rows that were changed in epochs up to this one
abbrev pub rows_upto : ℕ → List Note → List RowId
rows_upto epoch [] = []
rows_upto epoch (n ∷ notes) = if nat_le n.epoch epoch then n.rows ++ rows_upto epoch notes else rows_upto epoch notes

-- each version of the row that is newer than the horizon is noted
abbrev pub AreNoted : List Note → ℕ → RowId → Chain → Type 0
AreNoted notes horizon row chain = All (λ v. horizon < v.epoch → is_noted notes v.epoch row ≡ true) chain

-- so is that of each row
abbrev pub Notes : List Note → ℕ → Rows → Type 0
Notes notes horizon rows = (row : RowId) (chain : Chain) → found_at row_cmp row rows ≡ Some chain → AreNoted notes horizon row chain
