-- Inner: how the code reads a text between quotes, where a quote of the content is written twice.
use Rattle.std.specs.Prelude.{ℕ, ◌+◌, Bool, not, List, [], ◌∷◌, ◌==◌, nat_le, length, if◌then◌else◌, Option, Some, None}
use Rattle.std.specs.Option.{option_map}
use Rattle.geo_base.specs.declared.limits.TheConstants.{MAX_TEXT_BYTES}

-- no quote
abbrev pub is_plain : ℕ → Bool
is_plain b = not (b == 39)

-- a byte more of content, which takes this many bytes
abbrev pub with_byte : ℕ → ℕ → Option (List ℕ × ℕ) → Option (List ℕ × ℕ)
with_byte b taken = option_map (λ t. (b ∷ t.0, t.1 + taken))

-- The content of a text whose opening quote is left out, and how many bytes come up to and with its closing quote.
-- A quote closes it unless another one follows: the two stand for one. Nothing where none closes it.
unfoldable pub content : List ℕ → Option (List ℕ × ℕ)
content [] = None
content (b ∷ []) = if b == 39 then Some ([], 1) else None
content (b ∷ c ∷ bytes) =
    if b == 39
    then (if c == 39 then with_byte 39 2 (content bytes) else Some ([], 1))
    else with_byte b 1 (content (c ∷ bytes))

-- the same, or nothing for more than 1,024 bytes of content
abbrev pub if_short : Option (List ℕ × ℕ) → Option (List ℕ × ℕ)
if_short None = None
if_short (Some t) = if nat_le (length t.0) MAX_TEXT_BYTES then Some t else None

abbrev pub short_content : List ℕ → Option (List ℕ × ℕ)
short_content bytes = if_short (content bytes)
