-- Inner: how words are cut off a line, and the numbers that words spell.
use Rattle.std.specs.Prelude.{ℕ, Bool, ◌&&◌, ◌||◌, not, ◌==◌, nat_lt, nat_le, if◌then◌else◌, List, length, slice_index, Option, Some, None, option_and_then}
use Rattle.std.specs.Char.{is_ascii_digit}
use Rattle.std.specs.List.{list_all, position_or_len, before_first, after_first}
use Rattle.std.specs.Str.Parse.{digits_value}
use Rattle.geo_script.specs.Words.{is_word}

-- what stands before the first such byte, and what stands behind it
abbrev pub cut : ℕ → List ℕ → Option (List ℕ × List ℕ)
cut byte bytes =
    if nat_lt (position_or_len (λ b. b == byte) bytes) (length bytes)
    then Some (before_first (λ b. b == byte) bytes, after_first (λ b. b == byte) bytes)
    else None

-- the bytes are two words, with one space between them
unfoldable pub two_words : List ℕ → Option (List ℕ × List ℕ)
two_words bytes = option_and_then (λ parts. if is_word parts.0 && is_word parts.1 then Some parts else None) (cut 32 bytes)

-- the bytes are three words, with one space between each two
unfoldable pub three_words : List ℕ → Option (List ℕ × List ℕ × List ℕ)
three_words bytes =
    option_and_then (λ parts. if is_word parts.0 then option_and_then (λ more. Some (parts.0, more.0, more.1)) (two_words parts.1) else None) (cut 32 bytes)

-- digits without a leading zero
unfoldable pub is_numeral : List ℕ → Bool
is_numeral bytes =
    list_all is_ascii_digit bytes && (length bytes == 1 || (nat_lt 1 (length bytes) && not (slice_index bytes 0 == 48)))

-- the number that the word spells, if it is in the range
unfoldable pub number_within : ℕ → ℕ → List ℕ → Option ℕ
number_within least most word =
    let value = digits_value 10 word in
    if is_numeral word && (nat_le least value && nat_le value most) then Some value else None
