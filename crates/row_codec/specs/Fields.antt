-- What stands in a field of bytes at a place, and when a field is cut off. `short` makes the fault of a field for which there are too few bytes, of the number of bytes.
use Rattle.std.specs.Prelude.{◌≡◌, ℕ, ◌-◌, ◌*◌, ◌^◌, ◌<◌, List, [], ◌∷◌, length}
use Rattle.std.specs.Int.{Width, byte_len, to_be_bytes}
use Rattle.row_codec.specs.Places.{StandsAt}

-- fewer bytes than so many are left
abbrev pub IsCut : {E : Type 0} → (ℕ → E) → ℕ → List ℕ → ℕ → E → Type 0
IsCut short count bytes at e = (length bytes - at < count) × (e ≡ short (length bytes))

-- so many bytes stand there
abbrev pub FieldStands : ℕ → List ℕ → ℕ → List ℕ × ℕ → Type 0
FieldStands count bytes at x = StandsAt x.0 bytes at x.1 × (length x.0 ≡ count)

-- a byte stands there
abbrev pub ByteStands : List ℕ → ℕ → ℕ × ℕ → Type 0
ByteStands bytes at x = StandsAt (x.0 ∷ []) bytes at x.1

-- a number of so many bytes stands there, the highest byte first
abbrev pub NumberStands : Width → List ℕ → ℕ → ℕ × ℕ → Type 0
NumberStands w bytes at x = StandsAt (to_be_bytes w x.0) bytes at x.1 × (x.0 < 2 ^ (8 * byte_len w))
