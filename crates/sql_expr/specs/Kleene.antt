-- Truth with a third value, where None is what isn't known: Kleene's tables.
use Rattle.std.specs.Prelude.{Bool, true, false, Option, Some, None}
use Rattle.geo_base.specs.declared.cell.Cell.{Cell}
use Rattle.geo_base.specs.declared.cell.Cell.TheVariants as cell

-- NOT
abbrev pub not_3 : Option Bool → Option Bool
not_3 (Some true) = Some false
not_3 (Some false) = Some true
not_3 None = None

-- AND: false where one side is, whatever the other would be
abbrev pub and_3 : Option Bool → Option Bool → Option Bool
and_3 (Some true) (Some true) = Some true
and_3 (Some true) (Some false) = Some false
and_3 (Some true) None = None
and_3 (Some false) (Some true) = Some false
and_3 (Some false) (Some false) = Some false
and_3 (Some false) None = Some false
and_3 None (Some true) = None
and_3 None (Some false) = Some false
and_3 None None = None

-- OR: true where one side is, whatever the other would be
abbrev pub or_3 : Option Bool → Option Bool → Option Bool
or_3 (Some true) (Some true) = Some true
or_3 (Some true) (Some false) = Some true
or_3 (Some true) None = Some true
or_3 (Some false) (Some true) = Some true
or_3 (Some false) (Some false) = Some false
or_3 (Some false) None = None
or_3 None (Some true) = Some true
or_3 None (Some false) = None
or_3 None None = None

-- the truth that a cell holds; that of NULL, and of all that is no truth, isn't known
abbrev pub truth_in : Cell → Option Bool
truth_in (cell.Truth truth) = Some truth
truth_in _ = None

-- the cell that holds a truth
abbrev pub truth_cell : Option Bool → Cell
truth_cell (Some truth) = cell.Truth truth
truth_cell None = cell.Null
