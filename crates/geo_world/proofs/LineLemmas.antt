-- Texts of rows and of some lines, taken piece by piece.
use Rattle.std.proofs.Common.{◌≡◌, ℕ, ◌+◌, List, [], ◌∷◌, ◌++◌, get_or, take, ap, sym, ◌∙◌, append_assoc}
use Rattle.std.specs.Prelude.{Some}
use Rattle.std.specs.List.{slice_get}
use Rattle.std.proofs.lemmas.List.{flat_map_more, take_more}
use Rattle.std.proofs.lemmas.Option.{slice_get_within, get_or_from_slice_get}
use Rattle.geo_base.specs.Texts.{row_text}
use Rattle.geo_base.specs.declared.row_id.RowId.{RowId}
use Rattle.geo_base.specs.declared.row_image.RowImage.{RowImage}
use Rattle.geo_world.specs.Lines.{line, rows_lines}
use Rattle.write_set.specs.Overlay.{Table}

-- one more row is one more line
pub rows_lines-more : (rows : Table) (i : ℕ) (r : RowId × RowImage) → slice_get rows i ≡ Some r →
    rows_lines (take (i + 1) rows) ≡ rows_lines (take i rows) ++ line (row_text r.1)
rows_lines-more rows i r e =
    let more : take (i + 1) rows ≡ take i rows ++ get_or rows i r ∷ [] = take_more rows i r (slice_get_within rows i r e) in
    let here : get_or rows i r ≡ r = get_or_from_slice_get rows i r r e in
    ap rows_lines (more ∙ ap (λ x. take i rows ++ x ∷ []) here)
    ∙ sym (flat_map_more (λ x. line (row_text x.1)) [] (take i rows) r)

-- a row is written behind the lines of the rows before it
pub rows-written : (out before row now : List ℕ) (rows : Table) (i : ℕ) (r : RowId × RowImage) → slice_get rows i ≡ Some r →
    before ≡ out ++ rows_lines (take i rows) → row ≡ before ++ row_text r.1 → now ≡ row ++ 10 ∷ [] →
    now ≡ out ++ rows_lines (take (i + 1) rows)
rows-written out before row now rows i r here a b c =
    let one : row ≡ (out ++ rows_lines (take i rows)) ++ row_text r.1 = rw a at b in
    let whole : now ≡ ((out ++ rows_lines (take i rows)) ++ row_text r.1) ++ 10 ∷ [] = rw one at c in
    rw (rows_lines-more rows i r here)
    (whole ∙ append_assoc (out ++ rows_lines (take i rows)) (row_text r.1) (10 ∷ []) ∙ append_assoc out (rows_lines (take i rows)) (line (row_text r.1)))

-- the pieces of the line that names a row that is there
pub duplicate-joined : (out front row now region dot session blank word table key feed : List ℕ) →
    front ≡ out ++ (region ++ (dot ++ (session ++ ((blank ++ word) ++ table)))) → row ≡ front ++ key → now ≡ row ++ feed →
    now ≡ out ++ ((region ++ dot ++ session ++ blank ++ (word ++ (table ++ key))) ++ feed)
duplicate-joined out front row now region dot session blank word table key feed a b c = rw (c, b, a) (simp append_assoc)

-- the pieces of the line on an epoch that was published
pub published-joined : (out front now name region blank word epoch commits committed aborts aborted feed : List ℕ) →
    front ≡ out ++ (name ++ (region ++ ((blank ++ word) ++ epoch))) → now ≡ front ++ (commits ++ (committed ++ (aborts ++ (aborted ++ feed)))) →
    now ≡ out ++ ((name ++ region ++ blank ++ (word ++ epoch ++ commits ++ committed ++ aborts ++ aborted)) ++ feed)
published-joined out front now name region blank word epoch commits committed aborts aborted feed a b = rw (b, a) (simp append_assoc)
