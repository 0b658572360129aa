-- Which keys a range has.
use Rattle.std.specs.Prelude.{Bool, true, ◌&&◌, not, List, length, take}
use Rattle.std.specs.Ordering.{is_lt, is_gt}
use Rattle.std.specs.declared.cmp.Ordering.{Ordering}
use Rattle.geo_base.specs.declared.cell.Cell.{Cell}
use Rattle.geo_base.specs.Order.{cells_cmp}
use Rattle.geo_schema.specs.declared.range.Edge.{Edge}
use Rattle.geo_schema.specs.declared.range.Edge.TheVariants.{Open, Incl, Excl}
use Rattle.geo_schema.specs.declared.range.KeyRange.{KeyRange}

-- how a key's first cells, as many as the edge has, compare with the edge's
abbrev pub beside : List Cell → List Cell → Ordering
beside key cells = cells_cmp (take (length cells) key) cells

-- the key is not below the edge of a range
abbrev pub is_from : Edge → List Cell → Bool
is_from Open key = true
is_from (Incl cells) key = not (is_lt (beside key cells))
is_from (Excl cells) key = is_gt (beside key cells)

-- the key is not past the edge of a range
abbrev pub is_up_to : Edge → List Cell → Bool
is_up_to Open key = true
is_up_to (Incl cells) key = not (is_gt (beside key cells))
is_up_to (Excl cells) key = is_lt (beside key cells)

-- the key lies between the edges
unfoldable pub is_within : KeyRange → List Cell → Bool
is_within range key = is_from range.low key && is_up_to range.high key
