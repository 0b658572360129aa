-- the parts of all columns are those that are made and those of the columns that are left
use Rattle.std.proofs.Common.{◌≡◌, ◌++◌, map, drop}
use Rattle.std.specs.Option.{option_map}
use Rattle.sql_plan.specs.Plans.{parts_of}
use Rattle.sql_plan.specs.inner.Borrowed.{seen_link, usable}
use Rattle.sql_plan.proofs.joins.parts_of.Given as goal

abbrev pub invariant-loop-column : goal.invariant-loop-column
invariant-loop-column l =
    parts_of (usable l.tests) (map seen_link l.links) l.columns
    ≡ option_map (λ rest. l.parts.items ++ rest) (parts_of (usable l.tests) (map seen_link l.links) (drop l.column-index l.columns))
