-- What std's `parse` answers for digits.
use Rattle.std.proofs.Common.{◌≡◌, ◌<◌, ◌^◌, ◌==◌, ℕ, ℤ, pos, Bool, true, false, cond, List, [], ◌∷◌, length, Some, None, Result, Ok, Err, nat_lt, refl, sym, ap, ◌∙◌, subst, arith, w64}
use Rattle.std.proofs.lemmas.Bool.Decides.{nat_tests}
use Rattle.std.specs.Char.{is_ascii_digit, digit_value}
use Rattle.std.specs.List.{list_all}
use Rattle.std.specs.Result.{result_ok}
use Rattle.std.specs.Str.Parse.{AllDigits, IsNumeral, ParsesSigned, digits_value, without_leading_sign, signed_digits_value}
use Rattle.std.specs.Prelude.{FitsSigned}
use Rattle.sql_lex.specs.inner.Pieces.{value_of}
use Rattle.sql_lex.specs.laws.Fronts.{first_passes, rest_passes}

digit_is_below_ten : (b : ℕ) → is_ascii_digit b ≡ true → digit_value b < 10
digit_is_below_ten b h = grind (arith, nat_tests)

all_digits : (bs : List ℕ) → list_all is_ascii_digit bs ≡ true → AllDigits 10 bs
all_digits [] all = tt
all_digits (b ∷ bs) all = (digit_is_below_ten b (first_passes is_ascii_digit b bs all), all_digits bs (rest_passes is_ascii_digit b bs all))

no_minus : (b : ℕ) → is_ascii_digit b ≡ true → (b == 45) ≡ false
no_minus b h = grind (arith, nat_tests)

no_plus : (b : ℕ) → is_ascii_digit b ≡ true → (b == 43) ≡ false
no_plus b h = grind (arith, nat_tests)

pub unsigned : (bs : List ℕ) → 0 < length bs → list_all is_ascii_digit bs ≡ true → (without_leading_sign bs ≡ bs) × (signed_digits_value 10 bs ≡ pos (digits_value 10 bs))
unsigned [] some all = absurd (omega arith)
unsigned (b ∷ bs) some all =
    let minus = no_minus b (first_passes is_ascii_digit b bs all) in
    let plus = no_plus b (first_passes is_ascii_digit b bs all) in
    (rw (minus, plus) refl, rw (minus, plus) refl)

fits_below : (n : ℕ) → FitsSigned w64 (pos n) → n < 2 ^ 63
fits_below n h = omega (arith, h)

below_fits : (n : ℕ) → n < 2 ^ 63 → FitsSigned w64 (pos n)
below_fits n h = omega arith

pub parsed_value : {E : Type 0} (bs : List ℕ) (r : Result ℤ E) → 0 < length bs → list_all is_ascii_digit bs ≡ true → ParsesSigned w64 10 bs r → result_ok r ≡ value_of bs
parsed_value bs (Ok x) some all h =
    let is = unsigned bs some all in
    let below : digits_value 10 bs < 2 ^ 63 = fits_below (digits_value 10 bs) (subst (FitsSigned w64) is.1 h.0.1) in
    let fits : nat_lt (digits_value 10 bs) (2 ^ 63) ≡ true = grind (arith, nat_tests) in
    ap Some (h.1 ∙ is.1) ∙ rw fits refl
parsed_value bs (Err e) some all h = by (nat_lt (digits_value 10 bs) (2 ^ 63)) refl
  where
    by : (v : Bool) → nat_lt (digits_value 10 bs) (2 ^ 63) ≡ v → None ≡ cond v (Some (pos (digits_value 10 bs))) None
    by false over = refl
    by true fits =
        let is = unsigned bs some all in
        let below : digits_value 10 bs < 2 ^ 63 = grind (arith, nat_tests) in
        let numeral : IsNumeral 10 (without_leading_sign bs) = subst (IsNumeral 10) (sym is.0) (some, all_digits bs all) in
        absurd (h (numeral, subst (FitsSigned w64) (sym is.1) (below_fits (digits_value 10 bs) below)))
