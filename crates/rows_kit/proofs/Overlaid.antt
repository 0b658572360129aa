-- Changes that are laid over rows one after another.
use Rattle.std.proofs.Common.{◌≡◌, ℕ, ◌+◌, ◌<◌, ◌≤◌, List, ◌∷◌, drop, get_or, length, sym, ap, ◌∙◌}
use Rattle.std.proofs.lemmas.List.{drop_all, drop_more}
use Rattle.write_set.specs.Overlay.{Table, changed, overlay}
use Rattle.write_set.specs.Sets.{ChangeOfRow}

-- one change more
pub next_laid : (changes : List ChangeOfRow) (i : ℕ) (p : ChangeOfRow) (rows more all : Table) → i < length changes → p ≡ get_or changes i p → more ≡ changed p rows →
    overlay rows (drop i changes) ≡ all → overlay more (drop (i + 1) changes) ≡ all
next_laid changes i p rows more all within at made before =
    ap (λ (t : Table). overlay t (drop (i + 1) changes)) made
    ∙ sym (ap (overlay rows) (drop_more changes i p within ∙ ap (λ (q : ChangeOfRow). q ∷ drop (i + 1) changes) (sym at)))
    ∙ before

-- and none more
pub all_laid : (changes : List ChangeOfRow) (i : ℕ) (rows all : Table) → length changes ≤ i → overlay rows (drop i changes) ≡ all → rows ≡ all
all_laid changes i rows all past before = sym (ap (overlay rows) (drop_all i changes past)) ∙ before
