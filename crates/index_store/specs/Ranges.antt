-- Which keys a range of an index has.
use Rattle.std.specs.Prelude.{◌≡◌, ℕ, true, List, Contains}
use Rattle.std.specs.List.Sorted.{IsStrictlySortedBy}
use Rattle.geo_base.specs.declared.cell.Cell.{Cell}
use Rattle.geo_base.specs.Order.{cells_cmp}
use Rattle.geo_schema.specs.declared.range.KeyRange.{KeyRange}
use Rattle.geo_schema.specs.Ranges.{is_within}
use Rattle.index_store.specs.declared.pair.IndexPair.{IndexPair}

-- the pair is of the index of the table, and its cells lie in the range
pub record LiesIn (of_table of_index : ℕ) (range : KeyRange) (pair : IndexPair) : Type 0 where
  pub table : pair.table ≡ of_table
  pub index : pair.index ≡ of_index
  pub within : is_within range pair.cells ≡ true

-- the keys of the pairs that lie in the range of the index: they rise, so none comes twice; the key of each such pair is there; and each
-- is that of one
pub record AreKeysIn (table index : ℕ) (range : KeyRange) (pairs : List IndexPair) (keys : List (List Cell)) : Type 0 where
  pub rising : IsStrictlySortedBy cells_cmp keys
  pub each : (pair : IndexPair) → Contains pairs pair → LiesIn table index range pair → Contains keys pair.key
  pub only : (key : List Cell) → Contains keys key → (pair : IndexPair) × Contains pairs pair × LiesIn table index range pair × (pair.key ≡ key)
