-- The total order of pairs, and their equality.
use Rattle.std.specs.Prelude.{Bool}
use Rattle.std.specs.Ordering.{nat_cmp, ordering_then, eq_by_cmp}
use Rattle.std.specs.declared.cmp.Ordering.{Ordering}
use Rattle.geo_base.specs.Order.{cells_cmp}
use Rattle.index_store.specs.declared.pair.IndexPair.{IndexPair}

-- two pairs by their indexes: by the table, and then by the place of the index in it
abbrev pub index_cmp : IndexPair → IndexPair → Ordering
index_cmp a b = ordering_then (nat_cmp a.table b.table) (nat_cmp a.index b.index)

-- pairs are ordered by index, then by their cells, and then by key
unfoldable pub pair_cmp : IndexPair → IndexPair → Ordering
pair_cmp a b = ordering_then (index_cmp a b) (ordering_then (cells_cmp a.cells b.cells) (cells_cmp a.key b.key))

-- two pairs are one
unfoldable pub pair_eq : IndexPair → IndexPair → Bool
pair_eq = eq_by_cmp pair_cmp
