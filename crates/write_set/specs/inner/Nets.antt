-- Inner: the net write set as it is worked out, change by change. The description to believe is `IsNet`, and the law
-- `nets_have_last_changes` ties this one to it.
use Rattle.std.specs.Prelude.{ℕ, Bool, true, false, Option, Some, None, unwrap_or, is_some, if◌then◌else◌, List, [], ◌∷◌, sum_by}
use Rattle.std.specs.Map.{lookup, remove_entry}
use Rattle.std.specs.BTreeMap.{insert_entry, is_at}
use Rattle.geo_base.specs.declared.row_id.RowId.{RowId}
use Rattle.geo_base.specs.Order.{row_cmp}
use Rattle.write_set.specs.declared.change.Change.{Change}
use Rattle.write_set.specs.declared.change.Change.TheVariants.{Put, Remove, Touch}
use Rattle.write_set.specs.declared.row_change.RowChange.{RowChange}
use Rattle.write_set.specs.Sets.{ChangeOfRow}
use Rattle.write_set.specs.Net.{change_in}

-- the set with one change of the row made
abbrev pub made : RowId → Bool → Change → List ChangeOfRow → List ChangeOfRow
made row before (Put image) set = insert_entry row_cmp set row (Put image)
made row true Remove set = insert_entry row_cmp set row Remove
made row false Remove set = remove_entry (is_at (row_cmp row)) set
made row before Touch set = if is_some (change_in set row) then set else insert_entry row_cmp set row Touch

-- the set with the changes made, in their order
abbrev pub net_of : List ChangeOfRow → List RowChange → List ChangeOfRow
net_of set [] = set
net_of set (c ∷ cs) = net_of (made c.row c.before c.change set) cs

-- ---- the same, of the rows that the changes name alone

-- what is left of some rows: a change of each, or none; in rising order of rows
abbrev pub Left : Type 0
Left = List (RowId × Option Change)

-- what is left of the row: of one that isn't named, what the set has of it
abbrev pub left_in : List ChangeOfRow → Left → RowId → Option Change
left_in set left row = unwrap_or (lookup (is_at (row_cmp row)) left) (change_in set row)

-- what is left after one change more
abbrev pub left_with : List ChangeOfRow → RowId → Bool → Change → Left → Left
left_with set row before (Put image) left = insert_entry row_cmp left row (Some (Put image))
left_with set row true Remove left = insert_entry row_cmp left row (Some Remove)
left_with set row false Remove left = insert_entry row_cmp left row None
left_with set row before Touch left = if is_some (left_in set left row) then left else insert_entry row_cmp left row (Some Touch)

-- what is left after these changes more, in their order
abbrev pub left_with_all : List ChangeOfRow → Left → List RowChange → Left
left_with_all set left [] = left
left_with_all set left (c ∷ cs) = left_with_all set (left_with set c.row c.before c.change left) cs

-- the set with what is left of a row in the place of what it has of it
abbrev pub replaced : RowId × Option Change → List ChangeOfRow → List ChangeOfRow
replaced (row, Some change) set = insert_entry row_cmp set row change
replaced (row, None) set = remove_entry (is_at (row_cmp row)) set

-- the set with what is left of each row in the place of what it has of it
abbrev pub all_replaced : List ChangeOfRow → Left → List ChangeOfRow
all_replaced set [] = set
all_replaced set (l ∷ ls) = all_replaced (replaced l set) ls

-- ---- sums over changes

-- what one change of the row, if there is one, adds to a sum
abbrev pub share : (ChangeOfRow → ℕ) → RowId → Option Change → ℕ
share f row None = 0
share f row (Some change) = f (row, change)

-- what is left of the rows adds so much, and what the set has of them makes up so much of its sum
abbrev pub gained : (ChangeOfRow → ℕ) → Left → ℕ
gained f left = sum_by (λ l. share f l.0 l.1) left

abbrev pub lost : (ChangeOfRow → ℕ) → List ChangeOfRow → Left → ℕ
lost f set left = sum_by (λ l. share f l.0 (change_in set l.0)) left

-- each change counts once
abbrev pub once : ChangeOfRow → ℕ
once _ = 1
