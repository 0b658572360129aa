-- No spelling begins another: a reader of the longer one answers both.
use Rattle.std.proofs.Common.{◌≡◌, ℕ, List, ◌++◌, length, refl, sym, ap, ◌∙◌}
use Rattle.std.proofs.lemmas.List.{append_cancel_left}
use Rattle.geo_base.specs.declared.cell.Cell.{Cell}
use Rattle.geo_base.specs.laws.Results.{ok_is}
use Rattle.row_codec.specs.Alone.{NoCellBeginsAnother, NoCellsBeginOthers}
use Rattle.row_codec.specs.Spelling.{cell_spelling, cells_spelling}
use Rattle.row_codec.specs.inner.Reading.{cell_at, cells_at}
use Rattle.row_codec.specs.laws.Cells.{cell_tells, cells_tell}
use Rattle.row_codec.specs.laws.Places.{begin_stands}

pub cell_alone : NoCellBeginsAnother
cell_alone a b after_a after_b is_a is_b e =
    let read_a = (cell_tells (cell_spelling a ++ after_a) 0).only (a, length (cell_spelling a)) (is_a, begin_stands (cell_spelling a) after_a) in
    let read_b = (cell_tells (cell_spelling b ++ after_b) 0).only (b, length (cell_spelling b)) (is_b, begin_stands (cell_spelling b) after_b) in
    let both = ok_is (a, length (cell_spelling a)) (b, length (cell_spelling b)) (sym read_a ∙ ap (λ (t : List ℕ). cell_at t 0) e ∙ read_b) in
    let same : a ≡ b = ap (λ (p : Cell × ℕ). p.0) both in
    (same, append_cancel_left (cell_spelling a) after_a after_b (e ∙ ap (λ (c : Cell). cell_spelling c ++ after_b) (sym same)))

pub cells_alone : NoCellsBeginOthers
cells_alone a b after_a after_b are_a are_b len e =
    let read_a = (cells_tell (cells_spelling a ++ after_a) 0 (length a)).only (a, length (cells_spelling a)) (refl, (are_a, begin_stands (cells_spelling a) after_a)) in
    let read_b = (cells_tell (cells_spelling b ++ after_b) 0 (length b)).only (b, length (cells_spelling b)) (refl, (are_b, begin_stands (cells_spelling b) after_b)) in
    let between : cells_at (cells_spelling a ++ after_a) 0 (length a) ≡ cells_at (cells_spelling b ++ after_b) 0 (length b) = rw (e, len) refl in
    let both = ok_is (a, length (cells_spelling a)) (b, length (cells_spelling b)) (sym read_a ∙ between ∙ read_b) in
    let same : a ≡ b = ap (λ (p : List Cell × ℕ). p.0) both in
    (same, append_cancel_left (cells_spelling a) after_a after_b (e ∙ ap (λ (cs : List Cell). cells_spelling cs ++ after_b) (sym same)))
