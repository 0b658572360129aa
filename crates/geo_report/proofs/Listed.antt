-- The rows of a table, as a range without edges finds them, and their lines.
use Rattle.std.proofs.Common.{◌≡◌, ℕ, Bool, true, false, ◌&&◌, nat_eq, List, [], ◌∷◌, ◌++◌, length, map, refl, sym, ap, ◌∙◌, append_assoc, ◌+◌, zero, suc, add-one, arith}
use Rattle.std.specs.Prelude.{Result, OnOk, codes}
use Rattle.std.specs.List.{flat_map, range_with_len}
use Rattle.std.specs.Fmt.{decimal}
use Rattle.std.proofs.lemmas.List.{length-map, flat_map_more}
use Rattle.std.proofs.lemmas.List.Elements.{filter_agree}
use Rattle.geo_base.specs.declared.cell.Cell.{Cell}
use Rattle.geo_schema.specs.Ranges.{is_within}
use Rattle.geo_schema.specs.declared.range.Edge.TheVariants.{Open}
use Rattle.geo_schema.specs.declared.range.KeyRange.{KeyRange}
use Rattle.row_source.specs.Sources.{Entry, images, images_by_key, is_by_key, of_table}
use Rattle.write_set.specs.Overlay.{Table}
use Rattle.geo_report.specs.TableLines.{lines_of_table}
use Rattle.geo_report.specs.Words.{line, row_lines}
use Rattle.geo_report.proofs.Lines.{adds_behind}

-- a range without edges has each key
is_open : (range : KeyRange) → range.low ≡ Open → range.high ≡ Open → (key : List Cell) → is_within range key ≡ true
unfolding is_within
is_open range low high key = rw (low, high) refl

and_true : (b : Bool) → (b && true) ≡ b
and_true true = refl
and_true false = refl

-- so it finds all rows of the table
pub all_found : (range : KeyRange) (number : ℕ) (rows : Table) → range.low ≡ Open → range.high ≡ Open →
    images_by_key number range rows ≡ images (of_table number rows)
unfolding images_by_key
all_found range number rows low high = ap images (filter_agree (is_by_key number range) (λ entry. nat_eq entry.0.table number) agree rows)
  where
    agree : (entry : Entry) → is_by_key number range entry ≡ nat_eq entry.0.table number
    agree entry = rw (is_open range low high entry.0.key) (and_true (nat_eq entry.0.table number))

-- the first line of a table, piece by piece
head_written : (out one two three name count : List ℕ) → one ≡ out ++ (codes "table " ++ name) → two ≡ one ++ (codes " " ++ count) → three ≡ two ++ codes " rows\n" →
    three ≡ out ++ line (codes "table " ++ name ++ codes " " ++ count ++ codes " rows")
head_written out one two three name count a b c = rw (c, b, a) (simp append_assoc)

-- the lines of a table are written: its first line with the number of rows that were found, and they themselves
pub table_written : {A E F : Type 0} (image : A → List Cell) (found : List A) (images : List (List Cell)) (result : Result E F) (out one two three now name : List ℕ) (count : ℕ) →
    map image found ≡ images → count ≡ length found → one ≡ out ++ (codes "table " ++ name) → two ≡ one ++ (codes " " ++ decimal count) →
    three ≡ two ++ codes " rows\n" → OnOk result (now ≡ three ++ row_lines (map image found)) → OnOk result (now ≡ out ++ lines_of_table name images)
table_written image found images result out one two three now name count same counted a b c h =
    let few : count ≡ length images = counted ∙ sym (length-map found image) ∙ ap length same in
    adds_behind result now three out _ (row_lines (map image found)) _ (head_written out one two three name (decimal count) a b c) (whole few) h
  where
    whole : count ≡ length images → line (codes "table " ++ name ++ codes " " ++ decimal count ++ codes " rows") ++ row_lines (map image found) ≡ lines_of_table name images
    whole few = rw (few, same) refl

-- one number more
more : (at count next : ℕ) → at + count ≡ next → range_with_len at (suc count) ≡ range_with_len at count ++ next ∷ []
more at zero next is = ap (λ n. n ∷ []) (omega arith)
more at (suc count) next is = ap (λ rest. at ∷ rest) (more (at + 1) count next (omega arith))

-- the lines of one table more are written
pub tables_written : (lines : ℕ → List ℕ) (out before now : List ℕ) (number : ℕ) → before ≡ out ++ flat_map lines (range_with_len 0 number) →
    now ≡ before ++ lines number → now ≡ out ++ flat_map lines (range_with_len 0 (number + 1))
tables_written lines out before now number a b =
    let numbers : range_with_len 0 number ++ number ∷ [] ≡ range_with_len 0 (number + 1) = rw add-one (sym (more 0 number number (omega arith))) in
    b ∙ ap (λ t. t ++ lines number) a ∙ flat_map_more lines out (range_with_len 0 number) number ∙ ap (λ all. out ++ flat_map lines all) numbers
