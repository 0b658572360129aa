-- Inner: what the plain merge notes of an epoch, its number at each row that was changed in it.
use Rattle.std.specs.Prelude.{ℕ, List, [], ◌∷◌, filter}
use Rattle.std.specs.Map.{keys_of}
use Rattle.std.specs.BTreeMap.{insert_entry}
use Rattle.geo_base.specs.declared.row_id.RowId.{RowId}
use Rattle.geo_base.specs.Order.{row_cmp}
use Rattle.write_set.specs.Sets.{ChangeOfRow, alters}

-- the rows that the changes put or remove
abbrev pub rows_altered : List ChangeOfRow → List RowId
rows_altered changes = keys_of (filter (λ p. alters p.1) changes)

-- the list with the epoch at each of the rows
abbrev pub noted : ℕ → List (RowId × ℕ) → List RowId → List (RowId × ℕ)
noted epoch changes [] = changes
noted epoch changes (row ∷ rows) = noted epoch (insert_entry row_cmp changes row epoch) rows
