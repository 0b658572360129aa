-- Inner: what holds of the parts of a view.
use Rattle.std.specs.Prelude.{List}
use Rattle.geo_schema.specs.Schemas.{Tables}
use Rattle.write_set.specs.Sets.{ChangeOfRow, Rises}
use Rattle.snap_view.specs.Snapshots.{Held, HoldsIndexes, rows_of}

-- the rows of the snapshot rise, and so do the own writes, and the snapshot's index has what it reads
pub record AreParts (tables : Tables) (held : Held) (own : List ChangeOfRow) : Type 0 where
  pub base_rises : Rises (rows_of held)
  pub own_rises : Rises own
  pub indexes : HoldsIndexes tables held
