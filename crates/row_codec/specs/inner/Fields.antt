-- Inner: how the readers of fields go: so many bytes at a place, as they are or as a number, or the fault `short` of the number of bytes.
use Rattle.std.specs.Prelude.{ℕ, ◌+◌, ◌-◌, List, length, take, drop, slice_index, nat_lt, if◌then◌else◌, Ok, Err}
use Rattle.std.specs.Int.{Width, byte_len, from_be_bytes}
use Rattle.geo_base.specs.Results.{Read, ◌>>=◌}

module _ {E : Type 0} (short : ℕ → E) where
  -- so many bytes
  unfoldable pub field_at : ℕ → List ℕ → ℕ → Read E (List ℕ)
  field_at count bytes at =
      if nat_lt (length bytes - at) count then Err (short (length bytes)) else Ok (take count (drop at bytes), at + count)

  -- one byte
  unfoldable pub byte_at : List ℕ → ℕ → Read E ℕ
  byte_at bytes at = do
    field ← field_at 1 bytes at
    Ok (slice_index field.0 0, field.1)

  -- a number, the highest byte first
  unfoldable pub number_at : Width → List ℕ → ℕ → Read E ℕ
  number_at w bytes at = do
    field ← field_at (byte_len w) bytes at
    Ok (from_be_bytes w field.0, field.1)
