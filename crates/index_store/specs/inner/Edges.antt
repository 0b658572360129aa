-- Inner: the edges of a range of an index as borders between pairs.
use Rattle.std.specs.Prelude.{ℕ, Bool, true, false, not}
use Rattle.std.specs.Ordering.{nat_cmp, ordering_then}
use Rattle.std.specs.declared.cmp.Ordering.{Ordering}
use Rattle.std.specs.declared.cmp.Ordering.TheVariants.{Less, Equal, Greater}
use Rattle.geo_schema.specs.declared.range.Edge.{Edge}
use Rattle.geo_schema.specs.Ranges.{is_from, is_up_to}
use Rattle.index_store.specs.declared.pair.IndexPair.{IndexPair}

-- how the pair's index compares with that of the table at the place
abbrev pub beside_index : ℕ → ℕ → IndexPair → Ordering
beside_index table index pair = ordering_then (nat_cmp pair.table table) (nat_cmp pair.index index)

-- what stands before something of the index: what is of an index before it, and of the index itself what is said
abbrev pub stands_before : Ordering → Bool → Bool
stands_before Less said = true
stands_before Equal said = said
stands_before Greater said = false

-- the pair stands before the low edge of a range of the index
abbrev pub is_before_low : ℕ → ℕ → Edge → IndexPair → Bool
is_before_low table index edge pair = stands_before (beside_index table index pair) (not (is_from edge pair.cells))

-- the pair stands before the high edge of a range of the index, or at it
abbrev pub is_before_high : ℕ → ℕ → Edge → IndexPair → Bool
is_before_high table index edge pair = stands_before (beside_index table index pair) (is_up_to edge pair.cells)
