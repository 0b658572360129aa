-- Laws: how long spellings are.
use Rattle.std.proofs.Common.{◌≡◌, ℕ, suc, ◌+◌, ◌-◌, ◌<◌, ◌≤◌, Bool, true, false, List, [], ◌∷◌, ◌++◌, if◌then◌else◌, length, get_or, map, min, nat_eq, sum_by, refl, sym, ap, subst, ◌∙◌, arith}
use Rattle.std.specs.List.{All, AllByRecursion}
use Rattle.std.proofs.lemmas.Bool.Decides.{nat_tests}
use Rattle.std.proofs.lemmas.List.{length-append}
use Rattle.std.proofs.lemmas.List.Folds.{list_any_none}
use Rattle.std.proofs.lemmas.List.Sums.{sum_by-append}
use Rattle.std.proofs.lemmas.List.Elements.{recursion_from_All}
use Rattle.geo_base.specs.declared.cell.Cell.{Cell}
use Rattle.geo_base.specs.declared.cell.Cell.TheVariants as cell
use Rattle.geo_schema.specs.declared.table.TableDef.{TableDef}
use Rattle.geo_schema.specs.Repeats.{AreApart}
use Rattle.geo_schema.specs.Rows.{is_in, key_cells}
use Rattle.geo_schema.specs.Schemas.{Tables, IsSchema, table_at}
use Rattle.geo_schema.specs.Tables.{TakesRows}
use Rattle.geo_schema.specs.laws.Numbers.{takes_rows}
use Rattle.row_codec.specs.Spelling.{cell_spelling, cells_spelling}
use Rattle.write_set.specs.declared.batch.Batch.{Batch}
use Rattle.write_set.specs.declared.candidate.Candidate.{Candidate}
use Rattle.write_set.specs.declared.change.Change.TheVariants.{Put, Remove, Touch}
use Rattle.write_set.specs.Sets.{ChangeOfRow}
use Rattle.write_set.specs.BatchSizes.{candidate_size, batch_size}
use Rattle.write_set.specs.Sizes.{cell_size, change_size}
use Rattle.set_codec.specs.declared.format.Format.{Format}
use Rattle.set_codec.specs.declared.format.Format.TheVariants as format
use Rattle.set_codec.specs.Fits.{FitsTable}
use Rattle.set_codec.specs.Sizes.{CountsBytes, SizeIsLength, SetSizeIsLength}
use Rattle.set_codec.specs.Spelling.{other_cells, number_spelling, change_spelling, changes_spelling, candidate_spelling, candidates_spelling, mark, batch_spelling}

cell_len : (c : Cell) → length (cell_spelling c) ≡ cell_size c
cell_len cell.Null = refl
cell_len (cell.Int x) = refl
cell_len (cell.Text x) = omega arith
cell_len (cell.Truth true) = refl
cell_len (cell.Truth false) = refl

-- a sum over one more item
pub sum_more : {X : Type 0} (f : X → ℕ) (x : X) (xs : List X) → sum_by f (x ∷ xs) ≡ f x + sum_by f xs
sum_more f x xs =
    let both : sum_by f (x ∷ xs) ≡ (0 + f x) + sum_by f xs = sum_by-append f (x ∷ []) xs in
    omega (arith, both)

pub cells_len : (cells : List Cell) → length (cells_spelling cells) ≡ sum_by cell_size cells
cells_len [] = refl
cells_len (c ∷ cells) = omega (arith, length-append (cell_spelling c) (cells_spelling cells), cell_len c, cells_len cells, sum_more cell_size c cells)

-- where a place was left behind, a key with it leaves the same cells
behind : (p : ℕ) (ks : List ℕ) (place : ℕ) (cells : List Cell) → p < place → other_cells (p ∷ ks) place cells ≡ other_cells ks place cells
behind p ks place [] lt = refl
behind p ks place (c ∷ cells) lt =
    let rest = behind p ks (place + 1) cells (omega arith) in
    let other : nat_eq p place ≡ false = grind (arith, nat_tests) in
    rw (other, rest) refl

-- a key with one more place leaves one cell less
one_less : (p : ℕ) (ks : List ℕ) (place : ℕ) (cells : List Cell) → is_in ks p ≡ false → place ≤ p → p < place + length cells →
    sum_by cell_size (other_cells ks place cells) ≡ cell_size (get_or cells (p - place) cell.Null) + sum_by cell_size (other_cells (p ∷ ks) place cells)
one_less p ks place [] apart le lt = absurd (omega arith)
one_less p ks place (c ∷ cells) apart le lt = by (nat_eq p place) refl (λ above. one_less p ks (place + 1) cells apart above (omega arith))
  where
    under : (b : Bool) → sum_by cell_size (other_cells ks (place + 1) cells) ≡ cell_size (get_or cells (p - (place + 1)) cell.Null) + sum_by cell_size (other_cells (p ∷ ks) (place + 1) cells) →
        sum_by cell_size (if b then other_cells ks (place + 1) cells else c ∷ other_cells ks (place + 1) cells)
        ≡ cell_size (get_or cells (p - (place + 1)) cell.Null) + sum_by cell_size (if b then other_cells (p ∷ ks) (place + 1) cells else c ∷ other_cells (p ∷ ks) (place + 1) cells)
    under true rest = rest
    under false rest = omega (arith, rest, sum_more cell_size c (other_cells ks (place + 1) cells), sum_more cell_size c (other_cells (p ∷ ks) (place + 1) cells))

    by : (b : Bool) → nat_eq p place ≡ b →
        (place + 1 ≤ p → sum_by cell_size (other_cells ks (place + 1) cells) ≡ cell_size (get_or cells (p - (place + 1)) cell.Null) + sum_by cell_size (other_cells (p ∷ ks) (place + 1) cells)) →
        sum_by cell_size (other_cells ks place (c ∷ cells)) ≡ cell_size (get_or (c ∷ cells) (p - place) cell.Null) + sum_by cell_size (other_cells (p ∷ ks) place (c ∷ cells))
    by true e more =
        let same : p ≡ place = grind (arith, nat_tests) in
        let zero_off : p - place ≡ 0 = omega arith in
        let out : is_in ks place ≡ false = subst (λ (q : ℕ). is_in ks q ≡ false) same apart in
        let rest = behind p ks (place + 1) cells (omega arith) in
        rw (e, zero_off, out, rest) (sum_more cell_size c (other_cells ks (place + 1) cells))
    by false e more =
        let other : place + 1 ≤ p = grind (arith, nat_tests) in
        let off : p - place ≡ suc (p - (place + 1)) = omega arith in
        rw (e, off) (under (is_in ks place) (more other))

-- a key without places leaves all cells
no_key : (place : ℕ) (cells : List Cell) → other_cells [] place cells ≡ cells
no_key place [] = refl
no_key place (c ∷ cells) = ap (λ (cs : List Cell). c ∷ cs) (no_key (place + 1) cells)

-- places within the cells, each once
abbrev pub AreKeyPlaces : ℕ → List ℕ → Type 0
AreKeyPlaces count [] = Unit {0}
AreKeyPlaces count (p ∷ ps) = (p < count) × ((is_in ps p ≡ false) × AreKeyPlaces count ps)

-- the key's cells and the others are all of the row's
pub row_len : (key : List ℕ) (cells : List Cell) → AreKeyPlaces (length cells) key →
    sum_by cell_size (map (λ p. get_or cells p cell.Null) key) + sum_by cell_size (other_cells key 0 cells) ≡ sum_by cell_size cells
row_len [] cells are = omega (arith, ap (sum_by cell_size) (no_key 0 cells))
row_len (p ∷ ps) cells are =
    let no_step : cell_size (get_or cells (p - 0) cell.Null) ≡ cell_size (get_or cells p cell.Null) = ap (λ (n : ℕ). cell_size (get_or cells n cell.Null)) (omega arith) in
    omega (arith, row_len ps cells are.1.1, one_less p ps 0 cells are.1.0 (omega arith) (omega (arith, are.0)), sum_more cell_size (get_or cells p cell.Null) (map (λ q. get_or cells q cell.Null) ps), no_step)

-- ---- the places of a key

key_places : (count : ℕ) (places : List ℕ) → AllByRecursion (λ p. p < count) places → AreApart nat_eq places → AreKeyPlaces count places
key_places count [] within apart = tt
key_places count (p ∷ ps) within apart = (
  within.0,
  (
    list_any_none (λ q. nat_eq q p) ps (λ k d lt. let one : nat_eq p (get_or ps k d) ≡ false = apart 0 (suc k) d (omega arith) (omega arith) in grind (arith, nat_tests)),
    key_places count ps within.1 (λ i j d lt within_. apart (suc i) (suc j) d (omega arith) (omega arith)),
  ),
)

key_of : (table : TableDef) → TakesRows table → AreKeyPlaces (length table.columns) table.key
key_of table rules = key_places (length table.columns) table.key (recursion_from_All (λ p. p < length table.columns) table.key rules.key.within) rules.key.apart

-- ---- a change

change_len : (tables : Tables) (c : ChangeOfRow) → IsSchema tables → FitsTable tables c → length (change_spelling tables c) ≡ change_size c
unfolding change_spelling key_cells
change_len tables (row, Remove) schema fits = omega (arith, length-append (cells_spelling row.key) [], cells_len row.key)
change_len tables (row, Touch) schema fits = omega (arith, length-append (cells_spelling row.key) [], cells_len row.key)
change_len tables (row, Put image) schema fits =
    let table = table_at tables row.table in
    let rules : TakesRows table = takes_rows tables row.table schema fits.table in
    let len = fits.image.0.count in
    let places = subst (λ (n : ℕ). AreKeyPlaces n table.key) (sym len) (key_of table rules) in
    let all = row_len table.key image places in
    let same : sum_by cell_size row.key ≡ sum_by cell_size (map (λ p. get_or image p cell.Null) table.key) = ap (sum_by cell_size) (sym fits.image.1) in
    omega (arith, length-append (cells_spelling row.key) (cells_spelling (other_cells table.key 0 image)), cells_len row.key, cells_len (other_cells table.key 0 image), all, same)

-- ---- lists

changes_len : (tables : Tables) (cs : List ChangeOfRow) → IsSchema tables → AllByRecursion (FitsTable tables) cs → length (changes_spelling tables cs) ≡ sum_by change_size cs
changes_len tables [] schema fits = refl
changes_len tables (c ∷ cs) schema fits =
    omega (arith, length-append (change_spelling tables c) (changes_spelling tables cs), change_len tables c schema fits.0, changes_len tables cs schema fits.1, sum_more change_size c cs)

pub set_size_is_length : SetSizeIsLength
set_size_is_length tables changes schema fits = changes_len tables changes schema (recursion_from_All (FitsTable tables) changes fits)

candidate_len : (tables : Tables) (c : Candidate) → IsSchema tables → All (FitsTable tables) c.set → length (candidate_spelling tables c) ≡ candidate_size c
unfolding candidate_spelling
candidate_len tables c schema fits =
    omega (arith, set_size_is_length tables c.set schema fits)

candidates_len : (tables : Tables) (cs : List Candidate) → IsSchema tables → AllByRecursion (λ c. All (FitsTable tables) c.set) cs → length (candidates_spelling tables cs) ≡ sum_by candidate_size cs
candidates_len tables [] schema fits = refl
candidates_len tables (c ∷ cs) schema fits =
    omega (arith, length-append (candidate_spelling tables c) (candidates_spelling tables cs), candidate_len tables c schema fits.0, candidates_len tables cs schema fits.1, sum_more candidate_size c cs)

pub mark_len : (format : Format) → length (mark format) ≡ 4
mark_len format.Ggb1 = refl
mark_len format.Ggb2 = refl

-- a batch has as many bytes in one format as in the other
pub batch_len : (format : Format) (tables : Tables) (batch : Batch) → length (batch_spelling format tables batch) ≡ 13 + length (candidates_spelling tables batch.items)
unfolding batch_spelling
batch_len format tables batch =
    let behind = number_spelling batch.epoch ++ (number_spelling (length batch.items) ++ candidates_spelling tables batch.items) in
    omega (arith, length-append (mark format) (batch.region ∷ behind), mark_len format)

pub size_is_length : SizeIsLength
size_is_length format tables batch schema fits =
    omega (arith, batch_len format tables batch, candidates_len tables batch.items schema (recursion_from_All (λ c. All (FitsTable tables) c.set) batch.items fits))

-- so a size that is counted is that of the spelling
pub counts_bytes : (greatest : ℕ) (batch : Batch) (size : ℕ) → size ≡ min (batch_size batch.items) greatest → CountsBytes greatest batch size
counts_bytes greatest batch size e tables schema fits = e ∙ ap (λ (n : ℕ). min n greatest) (sym (size_is_length format.Ggb2 tables batch schema fits))
