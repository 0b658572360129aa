-- Inner: the edges of a range of a table's keys, as borders between rows.
use Rattle.std.specs.Prelude.{ℕ, Bool, true, false, not}
use Rattle.std.specs.Ordering.{nat_cmp}
use Rattle.std.specs.declared.cmp.Ordering.{Ordering}
use Rattle.std.specs.declared.cmp.Ordering.TheVariants.{Less, Equal, Greater}
use Rattle.geo_base.specs.declared.row_id.RowId.{RowId}
use Rattle.geo_schema.specs.declared.range.Edge.{Edge}
use Rattle.geo_schema.specs.Ranges.{is_from, is_up_to}

-- what stands before something of a table: what is of a table before it, and of the table itself what is said
abbrev pub stands_before : Ordering → Bool → Bool
stands_before Less said = true
stands_before Equal said = said
stands_before Greater said = false

-- the row stands before the low edge of a range of the table's keys
abbrev pub is_before_low : ℕ → Edge → RowId → Bool
is_before_low table edge row = stands_before (nat_cmp row.table table) (not (is_from edge row.key))

-- the row stands before the high edge of a range of the table's keys, or at it
abbrev pub is_before_high : ℕ → Edge → RowId → Bool
is_before_high table edge row = stands_before (nat_cmp row.table table) (is_up_to edge row.key)
