-- Laws: the orders are total, and values that compare equal are one value.
use Rattle.std.proofs.Common.{◌≡◌, ◌≢◌, ◌⊎◌, inl, inr, ℕ, Bool, true, false, List, [], refl, ap, ◌∙◌, subst}
use Rattle.std.specs.Prelude.{ℤ, pos}
use Rattle.std.specs.Bool.{Decides}
use Rattle.std.specs.Cmp.{IsTotalOrder, IsEquivalence, then_total, on_total, nat_cmp_total, int_cmp_total, bool_cmp_total}
use Rattle.std.specs.Cmp.Lexicographic.{slice_cmp, lists_total, lists_ties, lists_equiv, nat_list_cmp_total, pointwise_decides, bytes_decides}
use Rattle.std.proofs.lemmas.Bool.{false≢true}
use Rattle.std.specs.Ordering.{nat_cmp, int_cmp, bool_cmp, ordering_then, then_cmp, on, eq_by_cmp, is_eq}
use Rattle.std.specs.declared.cmp.Ordering.{Ordering}
use Rattle.std.specs.declared.cmp.Ordering.TheVariants.{Less, Equal, Greater}
use Rattle.std.proofs.lemmas.Cmp.{tied_itself, eq_by_cmp_equiv}
use Rattle.std.proofs.lemmas.Map.Lookups.{CmpEqualImpliesEq, exact_unsigned, exact_signed, exact_bytes, exact_pairs}
use Rattle.geo_base.specs.declared.cell.Cell.{Cell}
use Rattle.geo_base.specs.declared.cell.Cell.TheVariants.{Null, Int, Text, Truth}
use Rattle.geo_base.specs.declared.row_id.RowId.{RowId}
use Rattle.geo_base.specs.Order.{text_cmp, text_eq, kind_of, cell_cmp, cell_eq, cells_cmp, cells_eq, row_cmp, row_eq}

-- ---- the order of cells is by four parts, of which a cell has at most two

abbrev number : Cell → ℤ
number (Int x) = x
number _ = pos 0

abbrev bytes : Cell → List ℕ
bytes (Text x) = x
bytes _ = []

abbrev truth : Cell → Bool
truth (Truth x) = x
truth _ = false

abbrev parts_cmp : Cell → Cell → Ordering
parts_cmp = then_cmp (on kind_of nat_cmp) (then_cmp (on number int_cmp) (then_cmp (on bytes text_cmp) (on truth bool_cmp)))

then-Equal : (o : Ordering) → ordering_then o Equal ≡ o
then-Equal Less = refl
then-Equal Equal = refl
then-Equal Greater = refl

by_parts : (a b : Cell) → parts_cmp a b ≡ cell_cmp a b
by_parts Null Null = refl
by_parts Null (Int y) = refl
by_parts Null (Text y) = refl
by_parts Null (Truth y) = refl
by_parts (Int x) Null = refl
by_parts (Int x) (Int y) = then-Equal (int_cmp x y)
by_parts (Int x) (Text y) = refl
by_parts (Int x) (Truth y) = refl
by_parts (Text x) Null = refl
by_parts (Text x) (Int y) = refl
by_parts (Text x) (Text y) = then-Equal (text_cmp x y)
by_parts (Text x) (Truth y) = refl
by_parts (Truth x) Null = refl
by_parts (Truth x) (Int y) = refl
by_parts (Truth x) (Text y) = refl
by_parts (Truth x) (Truth y) = refl

pub cell_cmp_total : IsTotalOrder cell_cmp
cell_cmp_total =
    subst IsTotalOrder (λ i a b. by_parts a b i)
    (then_total (on_total kind_of nat_cmp_total) (then_total (on_total number int_cmp_total) (then_total (on_total bytes nat_list_cmp_total) (on_total truth bool_cmp_total))))

same_truth : CmpEqualImpliesEq bool_cmp
same_truth true true e = refl
same_truth false false e = refl
same_truth true false e = cc
same_truth false true e = cc

-- cells that compare equal are one cell
pub same_cell : CmpEqualImpliesEq cell_cmp
same_cell Null Null e = refl
same_cell Null (Int y) e = cc
same_cell Null (Text y) e = cc
same_cell Null (Truth y) e = cc
same_cell (Int x) Null e = cc
same_cell (Int x) (Int y) e = ap Int (exact_signed x y e)
same_cell (Int x) (Text y) e = cc
same_cell (Int x) (Truth y) e = cc
same_cell (Text x) Null e = cc
same_cell (Text x) (Int y) e = cc
same_cell (Text x) (Text y) e = ap Text (exact_bytes x y e)
same_cell (Text x) (Truth y) e = cc
same_cell (Truth x) Null e = cc
same_cell (Truth x) (Int y) e = cc
same_cell (Truth x) (Text y) e = cc
same_cell (Truth x) (Truth y) e = ap Truth (same_truth x y e)

-- ---- what follows for each order that is total and tells all values apart

Equal-is_eq : (o : Ordering) → is_eq o ≡ true → o ≡ Equal
Equal-is_eq Less e = cc
Equal-is_eq Equal e = refl
Equal-is_eq Greater e = cc

module _ {K : Type 0} {R : K → K → Ordering} (total : IsTotalOrder R) (same : CmpEqualImpliesEq R) where
  -- `==` answers true exactly for one value twice
  pub eq_decides : (a b : K) → Decides (eq_by_cmp R a b) (a ≡ b)
  eq_decides a b = (λ e. same a b (Equal-is_eq (R a b) e), λ e. ap is_eq (subst (λ c. R a c ≡ Equal) e (tied_itself total a)))

  pub same_list : CmpEqualImpliesEq (slice_cmp R)
  same_list xs ys e = (pointwise_decides eq_decides xs ys).0 (lists_ties R (λ _ _. refl) xs ys ∙ ap is_eq e)

-- ---- lists of cells, and names of rows

pub cells_cmp_total : IsTotalOrder cells_cmp
cells_cmp_total = lists_total cell_cmp_total

pub same_cells : CmpEqualImpliesEq cells_cmp
same_cells = same_list cell_cmp_total same_cell

pub row_cmp_total : IsTotalOrder row_cmp
unfolding row_cmp
row_cmp_total = then_total (on_total (λ a. a.table) nat_cmp_total) (on_total (λ a. a.key) cells_cmp_total)

-- names of rows that compare equal are one name
pub same_row : CmpEqualImpliesEq row_cmp
unfolding row_cmp
same_row a b e =
    ap (λ (p : ℕ × List Cell). record { table = p.0; key = p.1 })
    (exact_pairs nat_cmp cells_cmp exact_unsigned same_cells (a.table, a.key) (b.table, b.key) e)

-- ---- what `==` answers, and the laws that it has

pub cells_eq_equiv : IsEquivalence cells_eq
cells_eq_equiv = lists_equiv (eq_by_cmp_equiv cell_cmp_total)

pub cells_eq_ties : (a b : List Cell) → cells_eq a b ≡ eq_by_cmp cells_cmp a b
cells_eq_ties = lists_ties cell_cmp (λ _ _. refl)

pub row_eq_equiv : IsEquivalence row_eq
unfolding row_eq
row_eq_equiv = eq_by_cmp_equiv row_cmp_total

pub row_eq_ties : (a b : RowId) → row_eq a b ≡ eq_by_cmp row_cmp a b
unfolding row_eq
row_eq_ties a b = refl

pub text_eq_decides : (a b : List ℕ) → Decides (text_eq a b) (a ≡ b)
text_eq_decides = bytes_decides

pub cell_eq_decides : (a b : Cell) → Decides (cell_eq a b) (a ≡ b)
cell_eq_decides = eq_decides cell_cmp_total same_cell

pub cells_eq_decides : (a b : List Cell) → Decides (cells_eq a b) (a ≡ b)
cells_eq_decides = pointwise_decides cell_eq_decides

pub row_eq_decides : (a b : RowId) → Decides (row_eq a b) (a ≡ b)
unfolding row_eq
row_eq_decides = eq_decides row_cmp_total same_row

-- the same, in the form by which `grind` takes both cases
tells : {P : Type 0} (r : Bool) → Decides r P → ((r ≡ true) × P) ⊎ ((r ≡ false) × (¬ P))
tells true d = inl (refl, d.0 refl)
tells false d = inr (refl, λ p. absurd (false≢true (d.1 p)))

pub text_eq_tells : (a b : List ℕ) → ((text_eq a b ≡ true) × (a ≡ b)) ⊎ ((text_eq a b ≡ false) × (a ≢ b))
text_eq_tells a b = tells (text_eq a b) (text_eq_decides a b)

pub cell_eq_tells : (a b : Cell) → ((cell_eq a b ≡ true) × (a ≡ b)) ⊎ ((cell_eq a b ≡ false) × (a ≢ b))
cell_eq_tells a b = tells (cell_eq a b) (cell_eq_decides a b)

pub cells_eq_tells : (a b : List Cell) → ((cells_eq a b ≡ true) × (a ≡ b)) ⊎ ((cells_eq a b ≡ false) × (a ≢ b))
cells_eq_tells a b = tells (cells_eq a b) (cells_eq_decides a b)

pub row_eq_tells : (a b : RowId) → ((row_eq a b ≡ true) × (a ≡ b)) ⊎ ((row_eq a b ≡ false) × (a ≢ b))
row_eq_tells a b = tells (row_eq a b) (row_eq_decides a b)

-- for `grind`, at goals that compare such values by `==`
pub ruleset equality = (text_eq_tells, cell_eq_tells, cells_eq_tells, row_eq_tells)
