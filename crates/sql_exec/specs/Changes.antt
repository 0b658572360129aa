-- What holds of the changes of each statement that writes, whatever it says: they name rows once each, which are there
-- or aren't, and what they put are rows of the schema. And what holds of a transaction's net behind each of its statements.
use Rattle.std.specs.Prelude.{◌≡◌, ⊤, ℕ, Bool, true, false, ◌||◌, None, Some, IsSome, List, map, slice_index_or}
use Rattle.std.specs.List.{All, IsDistinct}
use Rattle.std.specs.List.Sorted.{IsStrictlySortedBy}
use Rattle.std.specs.Option.{is_some}
use Rattle.geo_base.specs.Order.{row_cmp, row_eq}
use Rattle.geo_base.specs.declared.row_id.RowId.{RowId}
use Rattle.geo_base.specs.declared.row_image.RowImage.{RowImage}
use Rattle.geo_schema.specs.declared.fault.CellFault.{CellFault}
use Rattle.geo_schema.specs.declared.fault.CellFault.TheVariants as why
use Rattle.geo_schema.specs.declared.table.TableDef.{TableDef}
use Rattle.geo_schema.specs.Schemas.{Tables}
use Rattle.geo_schema.specs.Tables.{no_column}
use Rattle.row_source.specs.declared.fault.ExecFault.{ExecFault}
use Rattle.row_source.specs.declared.fault.ExecFault.TheVariants as fault
use Rattle.row_source.specs.Sources.{AreRowsOf, Fits}
use Rattle.write_set.specs.declared.change.Change.{Change}
use Rattle.write_set.specs.declared.change.Change.TheVariants.{Put, Remove, Touch}
use Rattle.write_set.specs.declared.row_change.RowChange.{RowChange}
use Rattle.write_set.specs.Net.{change_in}
use Rattle.write_set.specs.Overlay.{Table, image_in, overlay}
use Rattle.write_set.specs.Sets.{ChangeOfRow, Rises, has_row}

-- ---- faults of cells

-- the name of the column at a place
abbrev pub name_at : TableDef → ℕ → List ℕ
name_at table place = (slice_index_or table.columns place no_column).name

-- the fault of a statement for what is wrong with the cell of a column, which it names; cells of the right count and of
-- their columns' types have no other
abbrev pub IsFaultFor : TableDef → CellFault → ExecFault → Type 0
IsFaultFor table (why.NullNotAllowed place) e = e ≡ fault.NullNotAllowed (name_at table place)
IsFaultFor table (why.TextTooLong place) e = e ≡ fault.TextTooLong (name_at table place)
IsFaultFor table why.WrongCount e = ⊥
IsFaultFor table (why.TypeClash place) e = ⊥

-- ---- one change

-- a change that puts its row
abbrev pub IsPut : Change → Type 0
IsPut (Put image) = ⊤
IsPut Remove = ⊥
IsPut Touch = ⊥

-- the change says whether the base has its row, and an image that it puts fits the schema under the row's name
pub record IsSoundChange (tables : Tables) (base : Table) (c : RowChange) : Type 0 where
  pub before : c.before ≡ is_some (image_in base c.row)
  pub fits : (image : RowImage) → c.change ≡ Put image → Fits tables (c.row, image)

-- ---- the changes of a statement

-- the rows that the changes name
abbrev pub rows_named : List RowChange → List RowId
rows_named changes = map (λ c. c.row) changes

-- the changes put rows of the table, none of which is there, and none twice
pub record ArePutsOfNewRows (tables : Tables) (number : ℕ) (base : Table) (own : List ChangeOfRow) (changes : List RowChange) : Type 0 where
  pub sound : All (IsSoundChange tables base) changes
  pub puts : All (λ c. IsPut c.change) changes
  pub of_table : All (λ c. c.row.table ≡ number) changes
  pub new : All (λ c. image_in (overlay base own) c.row ≡ None) changes
  pub apart : IsDistinct row_eq (rows_named changes)

-- the changes, all of one kind, are of rows of the table that are there, in rising order, so that none comes twice
pub record AreChangesOfRows (IsOfKind : Change → Type 0) (tables : Tables) (number : ℕ) (base : Table) (own : List ChangeOfRow) (changes : List RowChange) : Type 0 where
  pub sound : All (IsSoundChange tables base) changes
  pub kind : All (λ c. IsOfKind c.change) changes
  pub of_table : All (λ c. c.row.table ≡ number) changes
  pub there : All (λ c. IsSome (image_in (overlay base own) c.row)) changes
  pub rising : IsStrictlySortedBy row_cmp (rows_named changes)

-- the changes touch rows of the table that are there; the net lacks them, and the base has them
pub record AreTouches (tables : Tables) (number : ℕ) (base : Table) (own : List ChangeOfRow) (touches : List RowChange) : Type 0 where
  pub rows : AreChangesOfRows (λ change. change ≡ Touch) tables number base own touches
  pub lacked : All (λ c. has_row c.row own ≡ false) touches
  pub known : All (λ c. c.before ≡ true) touches

-- ---- changes that a net takes

-- the change of a row puts it, or removes one that the net or the snapshot has, or touches one that the snapshot has
abbrev pub MayChange : Bool → Bool → Change → Type 0
MayChange held before (Put _) = ⊤
MayChange held before Remove = (held || before) ≡ true
MayChange held before Touch = before ≡ true

-- each of the changes is such a one, and no row is changed twice: so a net may take them, and as many rows are changed as there
-- are changes
pub record CanBeApplied (own : List ChangeOfRow) (changes : List RowChange) : Type 0 where
  pub each : All (λ c. MayChange (has_row c.row own) c.before c.change) changes
  pub once : IsDistinct row_eq (rows_named changes)

-- ---- the net of a transaction

-- the row of a change fits the schema: with the image that is put, and where none is put, with some image
abbrev pub HasFittingRow : Tables → ChangeOfRow → Type 0
HasFittingRow tables (row, Put image) = Fits tables (row, image)
HasFittingRow tables (row, Remove) = (image : RowImage) × Fits tables (row, image)
HasFittingRow tables (row, Touch) = (image : RowImage) × Fits tables (row, image)

-- a transaction's net over its base, as its statements may leave it: laid over the base it gives rows of the schema; each row
-- that it has fits the schema, also one that it removes or touches; and what it touches or removes is in the base
pub record IsOwnNet (tables : Tables) (base : Table) (own : List ChangeOfRow) : Type 0 where
  pub base_rising : Rises base
  pub rising : Rises own
  pub rows : AreRowsOf tables (overlay base own)
  pub named : All (HasFittingRow tables) own
  pub touched : (row : RowId) → change_in own row ≡ Some Touch → IsSome (image_in base row)
  pub removed : (row : RowId) → change_in own row ≡ Some Remove → IsSome (image_in base row)
