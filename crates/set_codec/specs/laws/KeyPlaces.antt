-- Laws: the place of a column in the key.
use Rattle.std.proofs.Common.{◌≡◌, ℕ, ◌<◌, Bool, true, false, cond, ltb, nat_eq, Option, Some, None, List, length, get_or, position, refl, subst, ap, ◌∙◌, arith}
use Rattle.std.specs.List.{position_or_len}
use Rattle.std.proofs.lemmas.Bool.{ltb-true, eqb-true, eq-eqb, lt-ltb}
use Rattle.std.proofs.lemmas.Option.{cond_some}
use Rattle.std.proofs.lemmas.List.Folds.{list_any_at, list_any_none}
use Rattle.std.proofs.lemmas.List.Sums.{passes_at_first, position_or_len_is}
use Rattle.geo_schema.specs.declared.table.TableDef.{TableDef}
use Rattle.geo_schema.specs.Rows.{is_in}
use Rattle.geo_schema.specs.Tables.{TakesRows}
use Rattle.geo_schema.specs.laws.Places.{none_passes}

abbrev pub place_in : List ℕ → ℕ → Option ℕ
place_in key place = position (λ p. nat_eq p place) key

pub found : (key : List ℕ) (place i : ℕ) → place_in key place ≡ Some i → (i < length key) × (get_or key i 0 ≡ place)
found key place i e =
    let first = position_or_len (λ p. nat_eq p place) key in
    let c = cond_some (ltb first (length key)) first i e in
    let within : first < length key = ltb-true _ _ c.0 in
    let same : get_or key first 0 ≡ place = eqb-true _ _ (passes_at_first (λ p. nat_eq p place) key 0 within) in
    (subst (λ (n : ℕ). n < length key) c.1 within, subst (λ (n : ℕ). get_or key n 0 ≡ place) c.1 same)

pub in_key : (key : List ℕ) (place i : ℕ) → place_in key place ≡ Some i → is_in key place ≡ true
in_key key place i e =
    let f = found key place i e in
    list_any_at (λ p. nat_eq p place) key i 0 f.0 (eq-eqb _ _ f.1)

pub not_in_key : (key : List ℕ) (place : ℕ) → place_in key place ≡ None → is_in key place ≡ false
not_in_key key place e = list_any_none (λ p. nat_eq p place) key (λ k d lt. none_passes (λ p. nat_eq p place) key k d e lt)

-- each place of a table's key is found where it stands
pub place_of : (table : TableDef) (j : ℕ) → TakesRows table → j < length table.key → place_in table.key (get_or table.key j 0) ≡ Some j
place_of table j h within =
    let key = table.key in
    let place = get_or key j 0 in
    let is : position_or_len (λ p. nat_eq p place) key ≡ j =
    position_or_len_is (λ p. nat_eq p place) key j 0 (omega (arith, within)) (λ k lt. h.key.apart k j 0 lt within) (λ _. eq-eqb _ _ refl) in
    ap (λ (n : ℕ). cond (ltb n (length key)) (Some n) None) is ∙ ap (λ (b : Bool). cond b (Some j) None) (lt-ltb j (length key) within)
