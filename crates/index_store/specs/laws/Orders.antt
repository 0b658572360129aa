-- Laws: the order of pairs is total, and pairs that compare equal are one pair.
use Rattle.std.proofs.Common.{◌≡◌, ℕ, List, refl, ap}
use Rattle.std.specs.Bool.{Decides}
use Rattle.std.specs.Cmp.{IsTotalOrder, IsEquivalence, then_total, on_total, nat_cmp_total}
use Rattle.std.specs.Ordering.{nat_cmp, eq_by_cmp}
use Rattle.std.proofs.lemmas.Cmp.{eq_by_cmp_equiv}
use Rattle.std.proofs.lemmas.Map.Lookups.{CmpEqualImpliesEq, exact_unsigned, exact_pairs}
use Rattle.geo_base.specs.declared.cell.Cell.{Cell}
use Rattle.geo_base.specs.Order.{cells_cmp}
use Rattle.geo_base.specs.laws.Orders.{cells_cmp_total, same_cells, eq_decides}
use Rattle.index_store.specs.declared.pair.IndexPair.{IndexPair}
use Rattle.index_store.specs.Order.{index_cmp, pair_cmp, pair_eq}

pub index_cmp_total : IsTotalOrder index_cmp
index_cmp_total = then_total (on_total (λ a. a.table) nat_cmp_total) (on_total (λ a. a.index) nat_cmp_total)

pub pair_cmp_total : IsTotalOrder pair_cmp
unfolding pair_cmp
pair_cmp_total = then_total index_cmp_total (then_total (on_total (λ a. a.cells) cells_cmp_total) (on_total (λ a. a.key) cells_cmp_total))

-- pairs that compare equal are one pair
pub same_pair : CmpEqualImpliesEq pair_cmp
unfolding pair_cmp
same_pair a b e =
    ap (λ (p : (ℕ × ℕ) × (List Cell × List Cell)). record { table = p.0.0; index = p.0.1; cells = p.1.0; key = p.1.1 })
    (exact_pairs _ _ (exact_pairs nat_cmp nat_cmp exact_unsigned exact_unsigned) (exact_pairs cells_cmp cells_cmp same_cells same_cells)
    ((a.table, a.index), (a.cells, a.key)) ((b.table, b.index), (b.cells, b.key)) e)

pub pair_eq_equiv : IsEquivalence pair_eq
unfolding pair_eq
pair_eq_equiv = eq_by_cmp_equiv pair_cmp_total

pub pair_eq_ties : (a b : IndexPair) → pair_eq a b ≡ eq_by_cmp pair_cmp a b
unfolding pair_eq
pair_eq_ties a b = refl

pub pair_eq_decides : (a b : IndexPair) → Decides (pair_eq a b) (a ≡ b)
unfolding pair_eq
pair_eq_decides = eq_decides pair_cmp_total same_pair
