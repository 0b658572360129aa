-- Write sets: lists of rows with what is done to each.
use Rattle.std.specs.Prelude.{Bool, true, false, ◌&&◌, List, length}
use Rattle.std.specs.List.{list_any}
use Rattle.std.specs.List.Sorted.{IsStrictlySortedBy}
use Rattle.std.specs.Map.{keys_of}
use Rattle.geo_base.specs.declared.row_id.RowId.{RowId}
use Rattle.geo_base.specs.Order.{row_cmp, row_eq}
use Rattle.write_set.specs.Bounds.{AreFewRows}
use Rattle.write_set.specs.declared.change.Change.{Change}
use Rattle.write_set.specs.declared.change.Change.TheVariants.{Put, Remove, Touch}

-- a row with what is done to it
abbrev pub ChangeOfRow : Type 0
ChangeOfRow = RowId × Change

-- the set has the row: it puts, removes or touches it
abbrev pub has_row : RowId → List ChangeOfRow → Bool
has_row row set = list_any (λ p. row_eq row p.0) set

-- a put and a removal change their row, a touch doesn't
abbrev pub alters : Change → Bool
alters (Put _) = true
alters Remove = true
alters Touch = false

-- the set changes the row: it puts or removes it
abbrev pub changes_row : RowId → List ChangeOfRow → Bool
changes_row row set = list_any (λ p. row_eq row p.0 && alters p.1) set

-- the rows of the entries rise, so none comes twice
abbrev pub Rises : {X : Type 0} → List (RowId × X) → Type 0
Rises entries = IsStrictlySortedBy row_cmp (keys_of entries)

-- rows in rising order, each once, and no more than a transaction may have
pub record IsWriteSet (set : List ChangeOfRow) : Type 0 where
  pub rising : Rises set
  pub few : AreFewRows (length set)
