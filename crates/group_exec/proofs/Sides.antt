-- The cells of a pair, by the row that they are of.
use Rattle.std.proofs.Common.{◌≡◌, ℕ, ◌<◌, ◌≤◌, ◌-◌, Option, Some, None, List, ◌++◌, length, refl, ap, ◌∙◌, sym}
use Rattle.std.proofs.lemmas.List.{get_or_append_left, get_or-append_right}
use denote.Ref.{Bor}
use Rattle.geo_base.specs.declared.cell.Cell.{Cell}
use Rattle.geo_base.specs.declared.cell.Cell.TheVariants as cell
use Rattle.row_source.specs.Handing.{cell_at}
use Rattle.row_source.specs.declared.pair.Pair.{Pair}
use Rattle.group_exec.specs.inner.Made.{cells_of, left_of, right_of}

pub both_sides : (pair : Option (Bor Pair)) → left_of pair ++ right_of pair ≡ cells_of pair
both_sides None = refl
both_sides (Some pair) = refl

-- a column of the left row, and one of the right row
pub on_the_left : (pair : Option (Bor Pair)) (place : ℕ) → place < length (left_of pair) → cell_at (left_of pair) place ≡ cell_at (cells_of pair) place
on_the_left pair place within =
    sym (get_or_append_left (left_of pair) (right_of pair) cell.Null place within) ∙ ap (λ (cells : List Cell). cell_at cells place) (both_sides pair)

pub on_the_right : (pair : Option (Bor Pair)) (place : ℕ) → length (left_of pair) ≤ place → cell_at (right_of pair) (place - length (left_of pair)) ≡ cell_at (cells_of pair) place
on_the_right pair place behind =
    sym (get_or-append_right (left_of pair) (right_of pair) (length (left_of pair)) place cell.Null refl behind)
    ∙ ap (λ (cells : List Cell). cell_at cells place) (both_sides pair)
