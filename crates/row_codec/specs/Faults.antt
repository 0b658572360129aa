-- What each fault says of the bytes: all that stands before the place is in order, and what the bytes have at the place breaks the rule that the fault names.
use Rattle.std.specs.Prelude.{◌≡◌, ◌⊎◌, ℕ, ◌<◌, ◌≤◌, List, IsUtf8}
use Rattle.std.specs.Int.{w16}
use Rattle.geo_base.specs.declared.limits.TheConstants.{MAX_TEXT_BYTES}
use Rattle.row_codec.specs.declared.fault.CellReadFault.{CellReadFault}
use Rattle.row_codec.specs.declared.fault.CellReadFault.TheVariants.{Short, BadTag, BadUtf8, TooLong}
use Rattle.row_codec.specs.Fields.{IsCut, FieldStands, ByteStands, NumberStands}
use Rattle.row_codec.specs.Parts.{FirstOrLater, Breaks, IsFaultOfThings}
use Rattle.row_codec.specs.Spelling.{CellsStand}

-- of a text's length and bytes: the length is cut off, or too great; or it isn't, and the bytes are cut off, or no UTF-8
abbrev pub IsTextFault : List ℕ → ℕ → CellReadFault → Type 0
IsTextFault bytes at e =
    FirstOrLater (Breaks (IsCut Short 2 bytes at) (NumberStands w16 bytes at) (λ count. count ≤ MAX_TEXT_BYTES) (TooLong at) e)
    (λ count. NumberStands w16 bytes at count × (count.0 ≤ MAX_TEXT_BYTES))
    (λ count. Breaks (IsCut Short count.0 bytes count.1) (FieldStands count.0 bytes count.1) IsUtf8 (BadUtf8 count.1) e)

-- of what is at `next`, behind a tag: a number is cut off, a text is at fault, or there is no such tag
abbrev pub IsTaggedFault : ℕ → List ℕ → ℕ → ℕ → CellReadFault → Type 0
IsTaggedFault tag bytes at next e =
    ((tag ≡ 1) × IsCut Short 8 bytes next e) ⊎ (((tag ≡ 2) × IsTextFault bytes next e) ⊎ ((4 < tag) × (e ≡ BadTag at)))

-- the fault that the bytes have at the place: the tag of a cell is cut off, or what the tag wants is at fault
abbrev pub IsFaultAt : List ℕ → ℕ → CellReadFault → Type 0
IsFaultAt bytes at e = FirstOrLater (IsCut Short 1 bytes at e) (ByteStands bytes at) (λ tag. IsTaggedFault tag.0 bytes at tag.1 e)

-- of so many cells the first ones stand one after another from the place on, and the bytes have the fault where the next begins
abbrev pub IsFaultOfCells : List ℕ → ℕ → ℕ → CellReadFault → Type 0
IsFaultOfCells bytes at count e = IsFaultOfThings (CellsStand bytes at) (λ front place e. IsFaultAt bytes place e) count e
