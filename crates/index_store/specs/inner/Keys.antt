-- Inner: a list in rising order, each item once.
use Rattle.std.specs.Prelude.{List, Contains}
use Rattle.std.specs.List.Sorted.{IsStrictlySortedBy}
use Rattle.geo_base.specs.declared.cell.Cell.{Cell}
use Rattle.geo_base.specs.Order.{cells_cmp}

-- the second list has the keys of the first one, in rising order and each once
pub record AreRisingOf (keys rising : List (List Cell)) : Type 0 where
  pub ordered : IsStrictlySortedBy cells_cmp rising
  pub each : (key : List Cell) → Contains keys key → Contains rising key
  pub only : (key : List Cell) → Contains rising key → Contains keys key
