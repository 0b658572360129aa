-- A row that is put has cells of the program where its key and its other cells are such.
use Rattle.std.proofs.Common.{◌≡◌, ℕ, suc, ◌+◌, ◌<◌, Bool, true, false, cond, Option, Some, None, List, [], ◌∷◌, length, get_or, take, refl, sym, ap, subst, ◌∙◌, add-zero, arith}
use Rattle.std.specs.List.{All}
use Rattle.std.proofs.lemmas.Bool.{both_ways}
use Rattle.std.proofs.lemmas.List.{length-map}
use Rattle.std.proofs.lemmas.List.Elements.{All-from_recursion, All-push}
use Rattle.geo_base.specs.declared.cell.Cell.{Cell}
use Rattle.geo_base.specs.declared.cell.Cell.TheVariants as cell
use Rattle.geo_schema.specs.declared.table.TableDef.{TableDef}
use Rattle.geo_schema.specs.Rows.{is_in, IsRow, key_cells}
use Rattle.row_codec.specs.Spelling.{IsCell, AreCells}
use Rattle.geo_schema.specs.laws.Steps.{take_at}
use Rattle.write_set.specs.Sets.{ChangeOfRow}
use Rattle.set_codec.specs.Fits.{FitsChange, HasCells}
use Rattle.set_codec.specs.Spelling.{other_cells}
use Rattle.write_set.specs.declared.change.Change.TheVariants.{Put}
use Rattle.set_codec.specs.laws.KeyPlaces.{place_in, found, not_in_key}
use Rattle.set_codec.specs.laws.Rows.{key_same}

all_cells : (key : List ℕ) (place : ℕ) (cells : List Cell) → AreCells (other_cells key place cells) → ((k : ℕ) → k < length cells → is_in key (place + k) ≡ true → IsCell (get_or cells k cell.Null)) → AreCells cells
all_cells key place [] others known = tt
all_cells key place (c ∷ cells) others known = by (is_in key place) refl others (λ left. all_cells key (place + 1) cells left rest)
  where
    rest : (k : ℕ) → k < length cells → is_in key (place + 1 + k) ≡ true → IsCell (get_or cells k cell.Null)
    rest k lt inside =
        let n_is : place + 1 + k ≡ place + suc k = omega arith in
        known (suc k) (omega (arith, lt)) (subst (λ (n : ℕ). is_in key n ≡ true) n_is inside)

    by : (b : Bool) → is_in key place ≡ b → AreCells (cond b (other_cells key (place + 1) cells) (c ∷ other_cells key (place + 1) cells)) → (AreCells (other_cells key (place + 1) cells) → AreCells cells) → AreCells (c ∷ cells)
    by true e left others_are = (known 0 (omega arith) (subst (λ (n : ℕ). is_in key n ≡ true) (sym (add-zero place)) e), others_are left)
    by false e left others_are = (left.0, others_are left.1)

put_are : (table : TableDef) (key image : List Cell) → FitsChange table key (Put image) → AreCells key → AreCells (other_cells table.key 0 image) → AreCells image
unfolding key_cells
put_are table key image fits key_are others = all_cells table.key 0 image others (λ k lt inside. by k lt inside (place_in table.key (0 + k)) refl)
  where
    key_len : length key ≡ length table.key
    key_len = sym (ap length fits.1) ∙ length-map table.key (λ p. get_or image p cell.Null)

    by : (k : ℕ) → k < length image → is_in table.key (0 + k) ≡ true → (o : Option ℕ) → place_in table.key (0 + k) ≡ o → IsCell (get_or image k cell.Null)
    by k lt inside (Some i) is =
        let within : i < length key = omega (arith, (found table.key (0 + k) i is).0, key_len) in
        subst IsCell (sym (key_same table key image fits.1 k i lt is)) (All-from_recursion IsCell key key_are i cell.Null within)
    by k lt inside None is = absurd (both_ways (is_in table.key (0 + k)) (not_in_key table.key (0 + k) is) inside)

pub put_cells : (table : TableDef) (key image : List Cell) → IsRow table image → key_cells table image ≡ key → AreCells key → AreCells (other_cells table.key 0 image) → AreCells image
put_cells table key image fits same key_are others = put_are table key image (fits, same) key_are others

-- one change more has cells of the program
pub more_have : (changes : List ChangeOfRow) (i : ℕ) (change : ChangeOfRow) → i < length changes → change ≡ get_or changes i change → All HasCells (take i changes) → HasCells change → All HasCells (take (i + 1) changes)
more_have changes i change lt here front has = subst (All HasCells) (sym (take_at changes i change lt here)) (All-push HasCells (take i changes) change front has)
