-- A row's cells in an index beside the cells of an edge, from a place on.
use Rattle.std.proofs.Common.{◌≡◌, ℕ, zero, suc, ◌+◌, ◌<◌, Bool, true, false, List, [], ◌∷◌, length, map, drop, get_or, slice_index_or, refl, sym, ap, ◌∙◌, arith}
use Rattle.std.specs.Ordering.{is_eq, ordering_then}
use Rattle.std.specs.declared.cmp.Ordering.{Ordering}
use Rattle.std.specs.declared.cmp.Ordering.TheVariants.{Less, Equal, Greater}
use Rattle.geo_base.specs.declared.cell.Cell.{Cell}
use Rattle.geo_base.specs.declared.cell.Cell.TheVariants.{Null}
use Rattle.geo_base.specs.Order.{cell_cmp}
use Rattle.geo_schema.specs.Ranges.{beside}

-- what isn't equal decides, and behind what is equal the rest does
decides : (order rest : Ordering) → is_eq order ≡ false → order ≡ ordering_then order rest
decides Less rest differs = refl
decides Equal rest differs = absurd (cc)
decides Greater rest differs = refl

leaves : (order rest : Ordering) → is_eq order ≡ true → rest ≡ ordering_then order rest
leaves Less rest same = absurd (cc)
leaves Equal rest same = refl
leaves Greater rest same = absurd (cc)

-- how the row's cells at the places compare with the others, from a place on
abbrev pub beside_from : List Cell → List ℕ → List Cell → ℕ → Ordering
beside_from row places cells at = beside (drop at (map (λ place. slice_index_or row place Null) places)) (drop at cells)

module _ (row : List Cell) where
  -- how the row's cell at one of the places compares with the other one
  abbrev pub cell_beside : List ℕ → ℕ → Cell → Ordering
  cell_beside places at cell = cell_cmp (slice_index_or row (get_or places at 0) Null) cell

  one_beside : (places : List ℕ) (cells : List Cell) (at : ℕ) (cell : Cell) → at < length places → at < length cells → cell ≡ get_or cells at cell →
      beside_from row places cells at ≡ ordering_then (cell_beside places at cell) (beside_from row places cells (at + 1))
  one_beside [] cells at cell within in_cells is = absurd (omega (arith, within))
  one_beside (p ∷ places) [] at cell within in_cells is = absurd (omega (arith, in_cells))
  one_beside (p ∷ places) (c ∷ cells) zero cell within in_cells is =
      ap (λ d. ordering_then (cell_cmp (slice_index_or row p Null) d) (beside (map (λ place. slice_index_or row place Null) places) cells)) (sym is)
  one_beside (p ∷ places) (c ∷ cells) (suc at) cell within in_cells is =
      let next : suc (at + 1) ≡ suc at + 1 = omega arith in
      one_beside places cells at cell (omega (arith, within)) (omega (arith, in_cells)) is
      ∙ ap (λ n. ordering_then (cell_beside places at cell) (beside_from row (p ∷ places) (c ∷ cells) n)) next

  module _ (places : List ℕ) (cells : List Cell) (at index : ℕ) (cell : Cell) (order whole : Ordering) (place : at ≡ index) (within : at < length places)
      (in_cells : index < length cells) (is : cell ≡ get_or cells index cell) (compared : order ≡ cell_beside places at cell)
      (rest : beside_from row places cells at ≡ whole) where
    whole_is : ordering_then order (beside_from row places cells (at + 1)) ≡ whole
    whole_is =
        ap (λ o. ordering_then o (beside_from row places cells (at + 1))) compared
        ∙ (sym (one_beside places cells at cell within (omega (arith, place, in_cells)) (is ∙ ap (λ n. get_or cells n cell) (sym place))) ∙ rest)

    -- a cell that isn't the same decides
    pub cell_decides : (test : Bool) → test ≡ is_eq order → test ≡ false → order ≡ whole
    cell_decides test tested differs = decides order (beside_from row places cells (at + 1)) (sym tested ∙ differs) ∙ whole_is

    -- and behind one that is the same the others do
    pub others_decide : (test : Bool) → test ≡ is_eq order → test ≡ true → beside_from row places cells (at + 1) ≡ whole
    others_decide test tested same = leaves order (beside_from row places cells (at + 1)) (sym tested ∙ same) ∙ whole_is
