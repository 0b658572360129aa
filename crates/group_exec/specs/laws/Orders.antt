-- Laws: the order of lines is total, where lines that no column tells apart are equal in it.
use Rattle.std.proofs.Common.{◌≡◌, Bool, true, false, List, [], ◌∷◌, refl, sym, ap, ◌∙◌, subst}
use Rattle.std.specs.Cmp.{IsTotalOrder, IsStrictWeakOrder, back_total, on_total, then_total}
use Rattle.std.specs.Ordering.{is_gt, is_lt, ordering_reverse}
use Rattle.std.specs.declared.cmp.Ordering.{Ordering}
use Rattle.std.specs.declared.cmp.Ordering.TheVariants.{Less, Equal, Greater}
use Rattle.std.proofs.lemmas.List.Sorted.{ranks_by}
use Rattle.geo_base.specs.laws.Orders.{cell_cmp_total}
use Rattle.sql_bind.specs.declared.bound.Sort.{Sort}
use Rattle.sql_bind.specs.declared.bound.SortBy.{SortBy}
use Rattle.group_exec.specs.Results.{LineOfRow, by_all, by_one, sort_cell}

-- ---- one column

either_way : (by : SortBy) (descending : Bool) → IsTotalOrder (by_one (record { by = by; descending = descending }))
either_way by false = on_total (sort_cell by) cell_cmp_total
either_way by true =
    subst IsTotalOrder (λ i a b. cell_cmp_total.antisymm (sort_cell by b) (sort_cell by a) i) (back_total (on_total (sort_cell by) cell_cmp_total))

pub by_one_total : (sort : Sort) → IsTotalOrder (by_one sort)
by_one_total sort = either_way sort.by sort.descending

-- ---- all columns

pub by_all_total : (sorts : List Sort) → IsTotalOrder (by_all sorts)
by_all_total [] = record { antisymm = λ a b. refl; trans = λ a b c p q. p; congr = λ a b c p. refl }
by_all_total (sort ∷ sorts) = then_total (by_one_total sort) (by_all_total sorts)

-- a line comes before another
abbrev pub is_less : List Sort → LineOfRow → LineOfRow → Bool
is_less sorts a b = is_lt (by_all sorts a b)

pub less_is_weak : (sorts : List Sort) → IsStrictWeakOrder (is_less sorts)
less_is_weak sorts = ranks_by (by_all_total sorts) (λ l. l)

greater_back : (o : Ordering) → is_gt o ≡ is_lt (ordering_reverse o)
greater_back Less = refl
greater_back Equal = refl
greater_back Greater = refl

-- a line is greater than another where the other is less
pub greater_is_less : (sorts : List Sort) (a b : LineOfRow) → is_gt (by_all sorts a b) ≡ is_less sorts b a
greater_is_less sorts a b = greater_back (by_all sorts a b) ∙ ap is_lt (sym ((by_all_total sorts).antisymm b a))
