-- Inner: how the readers of cells go from left to right, and stop at the first fault that they meet.
use Rattle.std.specs.Prelude.{ℕ, List, true, false, nat_lt, ◌==◌, if◌then◌else◌, Ok, Err}
use Rattle.std.specs.Int.{w16, w64, cast_signed}
use Rattle.std.specs.Str.{is_utf8}
use Rattle.geo_base.specs.declared.limits.TheConstants.{MAX_TEXT_BYTES}
use Rattle.geo_base.specs.declared.cell.Cell.{Cell}
use Rattle.geo_base.specs.declared.cell.Cell.TheVariants.{Null, Int, Text, Truth}
use Rattle.geo_base.specs.Results.{Read, ◌>>=◌}
use Rattle.row_codec.specs.declared.fault.CellReadFault.{CellReadFault}
use Rattle.row_codec.specs.declared.fault.CellReadFault.TheVariants.{Short, BadTag, BadUtf8, TooLong}
use Rattle.row_codec.specs.inner.Fields.{field_at, byte_at, number_at}
use Rattle.row_codec.specs.inner.Things.{things_at}

-- the length of a text, which isn't too great
unfoldable pub length_at : List ℕ → ℕ → Read CellReadFault ℕ
length_at bytes at = do
  count ← number_at Short w16 bytes at
  if nat_lt MAX_TEXT_BYTES count.0 then Err (TooLong at) else Ok count

-- a text of a length that is known
unfoldable pub content_at : ℕ → List ℕ → ℕ → Read CellReadFault (List ℕ)
content_at count bytes at = do
  field ← field_at Short count bytes at
  if is_utf8 field.0 then Ok field else Err (BadUtf8 at)

-- a length and a text, whose bytes aren't looked at where it is too long
unfoldable pub text_at : List ℕ → ℕ → Read CellReadFault (List ℕ)
text_at bytes at = do
  count ← length_at bytes at
  content_at count.0 bytes count.1

unfoldable pub int_cell_at : List ℕ → ℕ → Read CellReadFault Cell
int_cell_at bytes at = do
  number ← number_at Short w64 bytes at
  Ok (Int (cast_signed w64 number.0), number.1)

unfoldable pub text_cell_at : List ℕ → ℕ → Read CellReadFault Cell
text_cell_at bytes at = do
  text ← text_at bytes at
  Ok (Text text.0, text.1)

-- the cell of a tag that was read, where the tag stands at one place and what follows it at the next
unfoldable pub tagged_at : ℕ → List ℕ → ℕ → ℕ → Read CellReadFault Cell
tagged_at tag bytes at next =
    if tag == 0 then Ok (Null, next) else
    if tag == 1 then int_cell_at bytes next else
    if tag == 2 then text_cell_at bytes next else
    if tag == 3 then Ok (Truth false, next) else
    if tag == 4 then Ok (Truth true, next) else Err (BadTag at)

-- one cell
unfoldable pub cell_at : List ℕ → ℕ → Read CellReadFault Cell
cell_at bytes at = do
  tag ← byte_at Short bytes at
  tagged_at tag.0 bytes at tag.1

-- so many cells, one after another
abbrev pub cells_at : List ℕ → ℕ → ℕ → Read CellReadFault (List Cell)
cells_at bytes at count = things_at (λ _. cell_at) (λ state _. state) count (tt {0}) bytes at
