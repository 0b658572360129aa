-- Numbers and their digits.
use Rattle.std.proofs.Common.{◌≡◌, ◌≢◌, ℕ, ◌^◌, ◌+◌, ◌-◌, ◌<◌, suc, List, w64, to_z, of_z, ◌∷◌, [], length, get_or, Contains, Result, Ok, sym, ap, ◌∙◌, arith, inl, inr}
use Rattle.std.specs.Fmt.{decimal, signed_decimal}
use Rattle.std.specs.Prelude.{ℤ, pos, negsuc, ◌-ℤ◌}
use Rattle.std.specs.Int.{IsInRange}
use Rattle.std.specs.Str.{IsUtf8}
use Rattle.std.specs.Str.Parse.{AllDigits, digits_value, ParsesUnsigned}
use Rattle.std.proofs.lemmas.List.{get_or_default}
use Rattle.std.proofs.lemmas.Result.{OkIff-at_ok}
use Rattle.std.proofs.lemmas.Str.{IsUtf8-from_ascii}
use Rattle.std.proofs.lemmas.Str.Parse.{IsNumeralModel, numerals_by_value, tells_digits, parse_plain, not_in_digits}
use Rattle.std.proofs.lemmas.Fmt.{digits_decimal, decimal-digits_value, decimal_nonempty, first_decimal, decimal_digit, IsAscii-decimal}
use Rattle.std.proofs.lemmas.Bool.{cases_lt}
use Rattle.world_script.specs.inner.Reading.{IsPlain}
use Rattle.world_script.specs.Script.{IsLiteral}
use Rattle.std.proofs.lemmas.List.Elements.{Contains-append_cases}
use Rattle.std.proofs.lemmas.Int.{ints}

own : IsNumeralModel (AllDigits 10) (digits_value 10)
own = numerals_by_value (AllDigits 10) tells_digits

-- a number's digits have no other byte among them
pub decimal_lacks : (n byte : ℕ) → n < 2 ^ 64 → ¬ (IsInRange 48 57 byte) → ¬ (Contains (decimal n) byte)
decimal_lacks n byte fits other found =
    not_in_digits own (decimal n) byte (digits_decimal own n fits) other found.0 found.1 (get_or_default (decimal n) found.0 0 byte found.1 ∙ found.2)

pub IsUtf8-decimal : (n : ℕ) → n < 2 ^ 64 → IsUtf8 (decimal n)
IsUtf8-decimal n fits = IsUtf8-from_ascii (decimal n) (IsAscii-decimal n fits)

-- what was parsed of a plain text is the number that it spells
pub parsed_plain : {E : Type 0} (bytes : List ℕ) (r : Result ℕ E) (n : ℕ) → ParsesUnsigned 64 10 bytes r → r ≡ Ok n → IsPlain bytes → bytes ≡ decimal n
parsed_plain bytes r n parses is plain =
    let read = OkIff-at_ok r _ _ n (parse_plain own 64 bytes r parses plain.0) is in
    sym (ap decimal read.1 ∙ decimal-digits_value own bytes read.0.0 read.0.1 plain.1 read.0.2)

one_zero : (n : ℕ) → n < 2 ^ 64 → get_or (decimal n) 0 0 ≡ 48 → length (decimal n) ≡ 1
one_zero n fits zero_first =
    elim (cases_lt 0 n) [ inl some ↦ absurd (omega (arith, first_decimal n some fits)) | inr none ↦ let is : n ≡ 0 = omega arith in rw (is, decimal_digit 0 (omega arith)) ]

-- a number is spelled plainly
pub plain_decimal : (n : ℕ) → n < 2 ^ 64 → IsPlain (decimal n)
plain_decimal n fits =
    (not_in_digits own (decimal n) 43 (digits_decimal own n fits) (λ range. omega arith) 0 (decimal_nonempty n fits), one_zero n fits)

-- nor have those of a number with a sign, but its minus
pub literal_lacks : (z : ℤ) (byte : ℕ) → IsLiteral z → ¬ (IsInRange 48 57 byte) → byte ≢ 45 → ¬ (Contains (signed_decimal z) byte)
literal_lacks (pos n) byte literal other apart found = decimal_lacks n byte (omega arith) other found
literal_lacks (negsuc n) byte literal other apart found =
    elim (Contains-append_cases (45 ∷ []) (decimal (suc n)) byte found) [
      | inl (k, in', is) ↦ let first : k ≡ 0 = omega arith in apart (sym (rw first at is))
      | inr later ↦ decimal_lacks (suc n) byte (omega arith) other later
    ]

-- a number below zero, as it is spelled behind its minus
pub record IsNegative (z : ℤ) (digits : List ℕ) : Type 0 where
  pub size : ℕ
  pub some : 0 < size
  pub few : size < 2 ^ 63
  pub is : (n : ℕ) → size ≡ n + 1 → z ≡ negsuc n
  pub spelled : digits ≡ decimal size

negated_size : (size n : ℕ) → size ≡ n + 1 → size < 2 ^ 63 → to_z w64 (of_z w64 (pos 0 -ℤ to_z w64 size)) ≡ negsuc n
negated_size size n is few = omega (arith, ints)

pub behind_minus : (z : ℤ) (digits : List ℕ) → IsLiteral z → 45 ∷ digits ≡ signed_decimal z → IsNegative z digits
behind_minus (pos n) digits literal spelled =
    absurd (not_in_digits own (decimal n) 45 (digits_decimal own n (omega arith)) (λ range. omega arith) 0 (decimal_nonempty n (omega arith)) (ap (λ bs. get_or bs 0 0) (sym spelled)))
behind_minus (negsuc n) digits literal spelled = record {
  size = suc n;
  some = omega arith;
  few = omega arith;
  is = λ m e. let same : n ≡ m = omega arith in ap negsuc same;
  spelled = cc;
}

-- the number below zero, as the code computes it from its size
pub negated : (z : ℤ) (digits : List ℕ) (read : IsNegative z digits) → to_z w64 (of_z w64 (pos 0 -ℤ to_z w64 read.size)) ≡ z
negated z digits read = negated_size read.size (read.size - 1) (omega arith) read.few ∙ sym (read.is (read.size - 1) (omega arith))

-- a number that can be typed is the same as 64 bits
pub literal_fits : (z : ℤ) → IsLiteral z → to_z w64 (of_z w64 z) ≡ z
literal_fits (pos n) literal = omega (arith, ints)
literal_fits (negsuc n) literal = omega (arith, ints)
