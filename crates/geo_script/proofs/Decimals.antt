-- Numbers and the words that spell them.
use Rattle.std.proofs.Common.{◌≡◌, ◌≢◌, ◌<◌, ◌≤◌, ◌^◌, ◌==◌, ◌&&◌, ◌||◌, not, ℕ, true, false, eq-eqb, List, length, get_or, Some, nat_lt, nat_le, refl, sym, ap, ◌∙◌, subst, arith, inl, inr}
use Rattle.std.specs.Char.{is_ascii_digit}
use Rattle.std.specs.Fmt.{decimal}
use Rattle.std.specs.List.{list_all}
use Rattle.std.specs.Int.{IsInRange}
use Rattle.std.specs.Str.Parse.{AllDigits, digits_value}
use Rattle.std.proofs.lemmas.Bool.{and_parts, cases_lt, le-leb, lt-ltb, leb-true, ne_eqb, or_right}
use Rattle.std.proofs.lemmas.Bool.Decides.{nat_tests}
use Rattle.std.proofs.lemmas.Fmt.{digits_decimal, digits_value-decimal, decimal-digits_value, decimal_nonempty, first_decimal, decimal_digit}
use Rattle.std.proofs.lemmas.List.{get_or_default}
use Rattle.std.proofs.lemmas.List.Sums.{list_all-from_AllPass}
use Rattle.std.proofs.lemmas.Str.Parse.{IsNumeralModel, numerals_by_value, tells_digits, not_in_digits, digit_at}
use Rattle.geo_script.specs.inner.Words.{is_numeral, number_within}
use Rattle.geo_script.specs.Words.{is_word}
use Rattle.geo_script.proofs.Cuts.{Lacks}
use Rattle.geo_script.proofs.Numerals.{all_digits}
use Rattle.schema_text.specs.laws.Inversions.{if_some}

own : IsNumeralModel (AllDigits 10) (digits_value 10)
own = numerals_by_value (AllDigits 10) tells_digits

-- ---- what spells a number

-- a number's digits have no other byte among them
pub decimal_lacks : (n byte : ℕ) → n < 2 ^ 64 → ¬ (IsInRange 48 57 byte) → Lacks byte (decimal n)
decimal_lacks n byte fits other = list_all-from_AllPass (λ b. not (b == byte)) (decimal n) apart
  where
    apart : (k d : ℕ) → k < length (decimal n) → not (get_or (decimal n) k d == byte) ≡ true
    apart k d within =
        let differ : get_or (decimal n) k d ≢ byte =
        λ is. not_in_digits own (decimal n) byte (digits_decimal own n fits) other k within (get_or_default (decimal n) k 0 d within ∙ is) in
        rw (ne_eqb (get_or (decimal n) k d) byte differ) refl

ascii : (c : ℕ) → IsInRange 48 57 c → is_ascii_digit c ≡ true
ascii c range = grind (arith, nat_tests)

decimal_digits : (n : ℕ) → n < 2 ^ 64 → list_all is_ascii_digit (decimal n) ≡ true
decimal_digits n fits = list_all-from_AllPass is_ascii_digit (decimal n) each
  where
    each : (k d : ℕ) → k < length (decimal n) → is_ascii_digit (get_or (decimal n) k d) ≡ true
    each k d within =
        ascii (get_or (decimal n) k d) (subst (IsInRange 48 57) (get_or_default (decimal n) k 0 d within) (digit_at (decimal n) k (digits_decimal own n fits) within))

one_zero : (n : ℕ) → n < 2 ^ 64 → get_or (decimal n) 0 0 ≡ 48 → length (decimal n) ≡ 1
one_zero n fits zero_first =
    elim (cases_lt 0 n) [ inl some ↦ absurd (omega (arith, first_decimal n some fits)) | inr none ↦ let is : n ≡ 0 = omega arith in rw (is, decimal_digit 0 (omega arith)) ]

leads : (len first : ℕ) → 0 < len → (first ≡ 48 → len ≡ 1) → (len == 1 || (nat_lt 1 len && not (first == 48))) ≡ true
leads len first some plain =
    elim (cases_lt 1 len) [
      | inl long ↦
          let other : first ≢ 48 = λ is. omega (arith, plain is) in
          rw (lt-ltb 1 len long, ne_eqb first 48 other) (or_right (len == 1) true refl)
      | inr short ↦ let is : len ≡ 1 = omega arith in rw (eq-eqb len 1 is) refl
    ]

pub decimal_numeral : (n : ℕ) → n < 2 ^ 64 → is_numeral (decimal n) ≡ true
unfolding is_numeral
decimal_numeral n fits =
    rw (decimal_digits n fits, leads (length (decimal n)) (get_or (decimal n) 0 0) (decimal_nonempty n fits) (one_zero n fits)) refl

pub decimal_word : (n : ℕ) → n < 2 ^ 64 → is_word (decimal n) ≡ true
unfolding is_word
decimal_word n fits =
    let some : (length (decimal n) == 0) ≡ false = ne_eqb (length (decimal n)) 0 (λ is. omega (arith, decimal_nonempty n fits)) in
    rw (some, decimal_lacks n 32 fits (λ range. omega arith)) refl

-- ---- the number that a word spells

-- the word spells this number, which is in the range
pub record SpellsWithin (least most : ℕ) (word : List ℕ) (n : ℕ) : Type 0 where
  pub spelled : word ≡ decimal n
  pub low : least ≤ n
  pub high : n ≤ most

led : (len first : ℕ) → (len == 1 || (nat_lt 1 len && not (first == 48))) ≡ true → (0 < len) × (first ≡ 48 → len ≡ 1)
led len first is = (grind (arith, nat_tests), λ zero_first. grind (arith, nat_tests))

plainly : (bs : List ℕ) → is_numeral bs ≡ true → digits_value 10 bs < 2 ^ 64 → decimal (digits_value 10 bs) ≡ bs
unfolding is_numeral
plainly bs numeral fits =
    let parts = and_parts (list_all is_ascii_digit bs) (length bs == 1 || (nat_lt 1 (length bs) && not (get_or bs 0 0 == 48))) numeral in
    let first = led (length bs) (get_or bs 0 0) parts.1 in
    decimal-digits_value own bs (all_digits bs parts.0) first.0 first.1 fits

pub number_spelled : (least most : ℕ) (word : List ℕ) (n : ℕ) → most < 2 ^ 32 → number_within least most word ≡ Some n → SpellsWithin least most word n
unfolding number_within
number_spelled least most word n fits is =
    let value = digits_value 10 word in
    let found = if_some (is_numeral word && (nat_le least value && nat_le value most)) value n is in
    let tests = and_parts (is_numeral word) (nat_le least value && nat_le value most) found.0 in
    let ends = and_parts (nat_le least value) (nat_le value most) tests.1 in
    let low : least ≤ value = leb-true least value ends.0 in
    let high : value ≤ most = leb-true value most ends.1 in
    record {
      spelled = sym (plainly word tests.0 (omega arith)) ∙ ap decimal found.1;
      low = subst (λ v. least ≤ v) found.1 low;
      high = subst (λ v. v ≤ most) found.1 high;
    }

pub number_read : (least most n : ℕ) → most < 2 ^ 32 → least ≤ n → n ≤ most → number_within least most (decimal n) ≡ Some n
unfolding number_within
number_read least most n fits low high =
    rw (decimal_numeral n (omega arith), digits_value-decimal own n (omega arith), le-leb least n low, le-leb n most high) refl
