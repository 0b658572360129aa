-- The rules of verdicts and of last changes, as what has to hold of them. It is said again here, not for the first time: the
-- description to believe is Merge, and the laws `verdicts_are_by_the_rules` and `last_changes_are_last` tie this one to it: it holds
-- of what those functions give alone.
use Rattle.std.specs.Prelude.{◌≡◌, ℕ, ◌<◌, ◌≤◌, true, List, Contains}
use Rattle.std.specs.declared.cmp.Ordering.TheVariants as order
use Rattle.geo_base.specs.declared.row_id.RowId.{RowId}
use Rattle.geo_base.specs.declared.outcome.Outcome.{Outcome}
use Rattle.geo_base.specs.declared.outcome.Outcome.TheVariants.{Committed, Changed, Beaten}
use Rattle.geo_base.specs.Order.{row_cmp}
use Rattle.write_set.specs.Sets.{has_row, changes_row}
use Rattle.write_set.specs.Journal.{Journal, Placed, epochs_of}
use Rattle.write_set.specs.Merge.{wins, id_of, committed}

-- the epoch is the last one, up to the given one, in which a candidate that commits changes the row; or it is 0 and there is none
pub record IsLastChange (journal : Journal) (upto : ℕ) (row : RowId) (epoch : ℕ) : Type 0 where
  pub within : epoch ≤ upto
  pub changed : 1 ≤ epoch → (c : Placed) × Contains (committed (epochs_of journal epoch)) c × (changes_row row c.set ≡ true)
  pub last : (e : ℕ) (c : Placed) → e ≤ upto → Contains (committed (epochs_of journal e)) c → changes_row row c.set ≡ true → e ≤ epoch

-- of the candidate's rows that are such, changed or touched, this one is the least
pub record IsLeast (Such : RowId → Type 0) (c : Placed) (row : RowId) : Type 0 where
  pub has : has_row row c.set ≡ true
  pub such : Such row
  pub least : (lower : RowId) → has_row lower c.set ≡ true → row_cmp lower row ≡ order.Less → Such lower → ⊥

-- none of its rows was changed after its start
abbrev pub IsFresh : (RowId → ℕ) → Placed → Type 0
IsFresh last c = (row : RowId) → has_row row c.set ≡ true → last row ≤ c.start

-- a fresh candidate of the epoch that has the row
pub record IsContender (last : RowId → ℕ) (all : List Placed) (row : RowId) (d : Placed) : Type 0 where
  pub among : Contains all d
  pub fresh : IsFresh last d
  pub has : has_row row d.set ≡ true

-- such a one beats the candidate
abbrev pub IsBeaten : (RowId → ℕ) → List Placed → Placed → RowId → Type 0
IsBeaten last all c row = (d : Placed) × IsContender last all row d × (wins d c ≡ true)

-- one that no other such one beats
pub record IsBest (last : RowId → ℕ) (all : List Placed) (row : RowId) (w : Placed) : Type 0 where
  pub contender : IsContender last all row w
  pub unbeaten : IsBeaten last all w row → ⊥

-- the outcome is the verdict on the candidate of the epoch whose candidates are `all`
abbrev pub IsVerdict : (RowId → ℕ) → ℕ → List Placed → Placed → Outcome → Type 0
IsVerdict last epoch all c Committed = IsFresh last c × ((row : RowId) → has_row row c.set ≡ true → IsBeaten last all c row → ⊥)
IsVerdict last epoch all c (Changed row f) = IsLeast (λ r. c.start < last r) c row × (f ≡ last row)
IsVerdict last epoch all c (Beaten row id) =
    IsFresh last c × IsLeast (IsBeaten last all c) c row × ((w : Placed) × IsBest last all row w × (id ≡ id_of epoch w))
