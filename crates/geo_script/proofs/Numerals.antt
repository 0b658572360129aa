-- The numbers that words spell, as std reads them.
use Rattle.std.proofs.Common.{◌≡◌, ◌<◌, ◌≤◌, ◌^◌, ◌==◌, ◌&&◌, ℕ, true, false, cond, List, [], ◌∷◌, Option, Some, None, Result, Ok, Err, refl, sym, ap, ◌∙◌, subst, arith, inl, inr, ◌⊎◌}
use Rattle.std.proofs.lemmas.Bool.Decides.{nat_tests}
use Rattle.std.specs.Char.{is_ascii_digit, digit_value}
use Rattle.std.specs.List.{list_all}
use Rattle.std.specs.Result.{result_ok}
use Rattle.std.specs.Prelude.{nat_le, option_and_then}
use Rattle.std.specs.Str.Parse.{AllDigits, IsNumeral, ParsesUnsigned, digits_value, without_leading_plus}
use Rattle.std.proofs.lemmas.Bool.{and_parts, and_right, lt-leb, le-leb}
use Rattle.geo_script.specs.inner.Words.{is_numeral, number_within}

digit_is_below_ten : (b : ℕ) → is_ascii_digit b ≡ true → digit_value b < 10
digit_is_below_ten b h = grind (arith, nat_tests)

no_plus : (b : ℕ) → is_ascii_digit b ≡ true → (b == 43) ≡ false
no_plus b h = grind (arith, nat_tests)

first_digit : (b : ℕ) (bs : List ℕ) → list_all is_ascii_digit (b ∷ bs) ≡ true → is_ascii_digit b ≡ true
first_digit b bs all = (and_parts (is_ascii_digit b) (list_all is_ascii_digit bs) all).0

pub all_digits : (bs : List ℕ) → list_all is_ascii_digit bs ≡ true → AllDigits 10 bs
all_digits [] all = tt
all_digits (b ∷ bs) all =
    (digit_is_below_ten b (first_digit b bs all), all_digits bs (and_parts (is_ascii_digit b) (list_all is_ascii_digit bs) all).1)

-- a numeral is one in std's sense, and has no plus before it
pub plain : (bs : List ℕ) → is_numeral bs ≡ true → IsNumeral 10 bs × (without_leading_plus bs ≡ bs)
unfolding is_numeral
plain [] numeral = absurd (cc)
plain (b ∷ bs) numeral =
    let all : list_all is_ascii_digit (b ∷ bs) ≡ true = (and_parts (list_all is_ascii_digit (b ∷ bs)) _ numeral).0 in
    ((omega arith, all_digits (b ∷ bs) all), rw (no_plus b (first_digit b bs all)) refl)

-- the value, if it is in the range
abbrev if_within : ℕ → ℕ → ℕ → Option ℕ
if_within least most value = cond (nat_le least value && nat_le value most) (Some value) None

of_numeral : (least most : ℕ) (bs : List ℕ) → is_numeral bs ≡ true → number_within least most bs ≡ if_within least most (digits_value 10 bs)
unfolding number_within
of_numeral least most bs numeral = rw numeral refl

past : (least most value : ℕ) → most < value → if_within least most value ≡ None
past least most value over = rw (and_right (nat_le least value) (nat_le value most) (lt-leb value most over)) refl

pub no_numeral : (least most : ℕ) (bs : List ℕ) → is_numeral bs ≡ false → number_within least most bs ≡ None
unfolding number_within
no_numeral least most bs other = rw other refl

-- what is parsed is the value, and what isn't is past every range
pub parsed : {E : Type 0} (least most : ℕ) (bs : List ℕ) (r : Result ℕ E) → most < 2 ^ 32 → is_numeral bs ≡ true → ParsesUnsigned 32 10 bs r →
    number_within least most bs ≡ option_and_then (if_within least most) (result_ok r)
parsed least most bs (Ok x) fits numeral h =
    let is = plain bs numeral in
    of_numeral least most bs numeral ∙ ap (if_within least most) (sym (h.1 ∙ ap (digits_value 10) is.1))
parsed least most bs (Err e) fits numeral h =
    let is = plain bs numeral in
    let over : ¬ (digits_value 10 bs < 2 ^ 32) = λ below. h (subst (IsNumeral 10) (sym is.1) is.0, subst (λ ds. digits_value 10 ds < 2 ^ 32) (sym is.1) below) in
    of_numeral least most bs numeral ∙ past least most (digits_value 10 bs) (omega (arith, over))

pub parsed_none : {E : Type 0} (least most : ℕ) (bs : List ℕ) (r : Result ℕ E) → most < 2 ^ 32 → is_numeral bs ≡ true → ParsesUnsigned 32 10 bs r →
    result_ok r ≡ None → number_within least most bs ≡ None
parsed_none least most bs r fits numeral h none = parsed least most bs r fits numeral h ∙ ap (option_and_then (if_within least most)) none

pub parsed_within : {E : Type 0} (least most value : ℕ) (bs : List ℕ) (r : Result ℕ E) → most < 2 ^ 32 → is_numeral bs ≡ true → ParsesUnsigned 32 10 bs r →
    result_ok r ≡ Some value → least ≤ value → value ≤ most → number_within least most bs ≡ Some value
parsed_within least most value bs r fits numeral h some low high =
    parsed least most bs r fits numeral h ∙ (ap (option_and_then (if_within least most)) some ∙ rw (le-leb least value low, le-leb value most high) refl)

pub parsed_outside : {E : Type 0} (least most value : ℕ) (bs : List ℕ) (r : Result ℕ E) → most < 2 ^ 32 → is_numeral bs ≡ true → ParsesUnsigned 32 10 bs r →
    result_ok r ≡ Some value → (value < least) ⊎ (most < value) → number_within least most bs ≡ None
parsed_outside least most value bs r fits numeral h some (inl under) =
    parsed least most bs r fits numeral h ∙ (ap (option_and_then (if_within least most)) some ∙ rw (lt-leb least value under) refl)
parsed_outside least most value bs r fits numeral h some (inr over) =
    parsed least most bs r fits numeral h ∙ (ap (option_and_then (if_within least most)) some ∙ past least most value over)
