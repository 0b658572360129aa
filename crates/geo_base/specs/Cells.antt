-- Bytes that are a text, and lists of cells that are a key, a row image or a line.
use Rattle.std.specs.Prelude.{◌≡◌, ℕ, ◌≤◌, Bool, true, false, ◌&&◌, nat_le, IsUtf8, if◌then◌else◌, Option, Some, None, List, length, position}
use Rattle.std.specs.Option.{option_map}
use Rattle.geo_base.specs.declared.limits.TheConstants.{MAX_TEXT_BYTES, MAX_KEY_CELLS, MAX_ROW_CELLS, MAX_LINE_CELLS}
use Rattle.geo_base.specs.declared.cell.Cell.{Cell}
use Rattle.geo_base.specs.declared.cell.Cell.TheVariants as cell
use Rattle.geo_base.specs.declared.cell_type.CellType.{CellType}
use Rattle.geo_base.specs.declared.cell_type.CellType.TheVariants as type
use Rattle.geo_base.specs.declared.key.KeyFault.{KeyFault}
use Rattle.geo_base.specs.declared.key.KeyFault.TheVariants as fault

-- UTF-8 of at most 1,024 bytes
pub record IsText (bytes : List ℕ) : Type 0 where
  pub utf8 : IsUtf8 bytes
  pub few : length bytes ≤ MAX_TEXT_BYTES

-- the cell is NULL
abbrev pub is_null : Cell → Bool
is_null cell.Null = true
is_null _ = false

-- the cell is of the type; NULL is of every type
abbrev pub has_type : CellType → Cell → Bool
has_type _ cell.Null = true
has_type type.Int (cell.Int _) = true
has_type type.Text (cell.Text _) = true
has_type type.Truth (cell.Truth _) = true
has_type _ _ = false

-- why the cells are no key: a wrong number of them, and else the first that is NULL
unfoldable pub key_fault : List Cell → Option KeyFault
key_fault cells =
    if nat_le 1 (length cells) && nat_le (length cells) MAX_KEY_CELLS
    then option_map fault.Null (position is_null cells)
    else Some fault.WrongCount

-- 1 to 4 cells, none of which is NULL
pub record IsKey (cells : List Cell) : Type 0 where
  pub some : 1 ≤ length cells
  pub few : length cells ≤ MAX_KEY_CELLS
  pub whole : position is_null cells ≡ None

-- 1 to 32 cells
pub record IsRowImage (cells : List Cell) : Type 0 where
  pub some : 1 ≤ length cells
  pub few : length cells ≤ MAX_ROW_CELLS

-- 1 to 64 cells
pub record IsLine (cells : List Cell) : Type 0 where
  pub some : 1 ≤ length cells
  pub few : length cells ≤ MAX_LINE_CELLS
