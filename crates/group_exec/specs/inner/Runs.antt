-- Runs of rows that an order doesn't tell apart; in a sorted list they are the groups.
use Rattle.std.specs.Prelude.{ℕ, suc, false, if◌then◌else◌, List, [], ◌∷◌}
use Rattle.std.specs.Ordering.{is_eq}
use Rattle.group_exec.specs.Groups.{RowWithArguments}
use Rattle.group_exec.specs.Results.{LineOfRow, by_all}
use Rattle.sql_bind.specs.declared.bound.Sort.{Sort}
use Rattle.sql_bind.specs.declared.bound.SortBy.TheVariants as by

-- the arguments of a row, as they are sorted by the columns of their row
abbrev pub as_row : LineOfRow → RowWithArguments
as_row l = record { row = l.row; arguments = l.line }

-- the order of the cells in some columns
abbrev pub rising_by : ℕ → Sort
rising_by column = record { by = by.Column column; descending = false }

-- one more in front: in the first run, where its first ties with it
abbrev pub joined : List Sort → LineOfRow → List (List LineOfRow) → List (List LineOfRow)
joined sorts l [] = (l ∷ []) ∷ []
joined sorts l ([] ∷ rest) = (l ∷ []) ∷ rest
joined sorts l ((m ∷ run) ∷ rest) = if is_eq (by_all sorts l m) then (l ∷ m ∷ run) ∷ rest else (l ∷ []) ∷ (m ∷ run) ∷ rest

-- the runs of those that tie with the one before them
abbrev pub runs : List Sort → List LineOfRow → List (List LineOfRow)
runs sorts [] = []
runs sorts (l ∷ rest) = joined sorts l (runs sorts rest)

-- how long the first run is
abbrev pub run_length : List Sort → List LineOfRow → ℕ
run_length sorts [] = 0
run_length sorts (l ∷ []) = 1
run_length sorts (l ∷ m ∷ rest) = if is_eq (by_all sorts l m) then suc (run_length sorts (m ∷ rest)) else 1
