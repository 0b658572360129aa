-- What stands at a place of the bytes and keeps its rules. In a pair the number is the place behind the spelling.
use Rattle.std.specs.Prelude.{◌≡◌, ℕ, ◌+◌, ◌<◌, Option, Some, List, [], ◌∷◌, length, position, nat_eq, slice_index, slice_index_or}
use Rattle.std.specs.Int.{w32}
use Rattle.std.specs.List.{AllByRecursion}
use Rattle.geo_base.specs.declared.cell.Cell.{Cell}
use Rattle.geo_base.specs.declared.cell.Cell.TheVariants as cell
use Rattle.geo_base.specs.declared.row_id.RowId.{RowId}
use Rattle.geo_schema.specs.declared.table.TableDef.{TableDef}
use Rattle.geo_schema.specs.Schemas.{Tables}
use Rattle.row_codec.specs.Fields.{ByteStands, NumberStands, FieldStands}
use Rattle.row_codec.specs.Parts.{Keeps}
use Rattle.row_codec.specs.Places.{StandsAt}
use Rattle.row_codec.specs.Spelling.{cells_spelling, AreCells, CellStands}
use Rattle.write_set.specs.declared.candidate.Candidate.{Candidate}
use Rattle.write_set.specs.declared.batch.Batch.{Batch}
use Rattle.write_set.specs.Bounds.{IsCandidateCount, IsStartOf, IsRowCount}
use Rattle.write_set.specs.Journal.{IsCandidate, IsBatch}
use Rattle.write_set.specs.Sets.{ChangeOfRow}
use Rattle.set_codec.specs.declared.format.Format.{Format}
use Rattle.set_codec.specs.declared.kind.Kind.{Kind}
use Rattle.set_codec.specs.Fits.{AreTaken, FitsTable, FitsTables, HasCells, HaveCells, HasChange, HasChanges}
use Rattle.set_codec.specs.Rules.{IsMark, IsRegionOf, IsOther, IsSealable, IsTableOf, IsKindByte, IsAfter, IsTaken}
use Rattle.set_codec.specs.Spelling.{other_cells, changes_spelling, candidates_spelling, batch_spelling}

-- ---- fields

-- a part stands there, and names something by the rule
abbrev pub Names : {A B : Type 0} → (A × ℕ → Type 0) → (A → B → Type 0) → B × ℕ → Type 0
Names {A} Stands Rule x = (part : A) × Stands (part, x.1) × Rule part x.0

-- the format whose mark stands there
abbrev pub MarkStands : List ℕ → ℕ → Format × ℕ → Type 0
MarkStands bytes at = Names (FieldStands 4 bytes at) IsMark

-- the number of one of so many regions
abbrev pub RegionStands : ℕ → List ℕ → ℕ → ℕ × ℕ → Type 0
RegionStands regions bytes at = Keeps (ByteStands bytes at) (IsRegionOf regions)

-- the number of such a region, which isn't a given one
abbrev pub OtherStands : ℕ → Option ℕ → List ℕ → ℕ → ℕ × ℕ → Type 0
OtherStands regions one bytes at = Keeps (RegionStands regions bytes at) (IsOther one)

-- an epoch that can be sealed
abbrev pub EpochStands : List ℕ → ℕ → ℕ × ℕ → Type 0
EpochStands bytes at = Keeps (NumberStands w32 bytes at) IsSealable

-- a number of candidates
abbrev pub CountStands : List ℕ → ℕ → ℕ × ℕ → Type 0
CountStands bytes at = Keeps (NumberStands w32 bytes at) IsCandidateCount

-- the start of a candidate of the epoch
abbrev pub StartStands : ℕ → List ℕ → ℕ → ℕ × ℕ → Type 0
StartStands epoch bytes at = Keeps (NumberStands w32 bytes at) (IsStartOf epoch)

-- a number of rows
abbrev pub RowsStand : List ℕ → ℕ → ℕ × ℕ → Type 0
RowsStand bytes at = Keeps (NumberStands w32 bytes at) IsRowCount

-- the number of a table that there is
abbrev pub TableStands : Tables → List ℕ → ℕ → ℕ × ℕ → Type 0
TableStands tables bytes at = Keeps (ByteStands bytes at) (IsTableOf tables)

-- the kind whose byte stands there, one that the format has
abbrev pub KindStands : Format → List ℕ → ℕ → Kind × ℕ → Type 0
KindStands format bytes at = Names (ByteStands bytes at) (IsKindByte format)

-- a cell that is taken by the column at the place
abbrev pub TakenStands : TableDef → ℕ → List ℕ → ℕ → Cell × ℕ → Type 0
TakenStands table place bytes at = Keeps (CellStands bytes at) (IsTaken table place)

-- ---- keys and rows

-- cells of a key from the i-th on, each taken by its column
pub record KeyStands (table : TableDef) (i : ℕ) (bytes : List ℕ) (at : ℕ) (x : List Cell × ℕ) : Type 0 where
  pub taken : AreTaken table (slice_index table.key) i x.0
  pub are : AreCells x.0
  pub stands : StandsAt (cells_spelling x.0) bytes at x.1

-- cells of a row, where the first one's place is the i-th, have the key's cells at the key's places
abbrev pub HasKey : TableDef → List Cell → ℕ → List Cell → Type 0
HasKey table key i row = (k j : ℕ) → k < length row → position (λ p. nat_eq p (i + k)) table.key ≡ Some j → slice_index_or row k cell.Null ≡ slice_index_or key j cell.Null

-- cells of a row with that key, where the first one's place is the i-th: each is taken by its column, and those that the key hasn't stand there
pub record RowStands (table : TableDef) (key : List Cell) (i : ℕ) (bytes : List ℕ) (at : ℕ) (x : List Cell × ℕ) : Type 0 where
  pub taken : AreTaken table (λ place. place) i x.0
  pub are : AreCells x.0
  pub same : HasKey table key i x.0
  pub stands : StandsAt (cells_spelling (other_cells table.key i x.0)) bytes at x.1

-- ---- changes and candidates

-- each row is greater than the one before it, and the first than the one before them
abbrev pub AreAfter : Option RowId → List ChangeOfRow → Type 0
AreAfter last [] = Unit {0}
AreAfter last (c ∷ cs) = IsAfter last c.0 × AreAfter (Some c.0) cs

-- the row that is before what follows the changes
abbrev pub row_before : Option RowId → List ChangeOfRow → Option RowId
row_before last [] = last
row_before last (c ∷ cs) = row_before (Some c.0) cs

-- changes that the format has and that fit the tables, of rows that rise from the one before them
pub record ChangesStand (format : Format) (tables : Tables) (last : Option RowId) (bytes : List ℕ) (at : ℕ) (x : List ChangeOfRow × ℕ) : Type 0 where
  pub fits : AllByRecursion (FitsTable tables) x.0
  pub cells : AllByRecursion HasCells x.0
  pub has : AllByRecursion (HasChange format) x.0
  pub after : AreAfter last x.0
  pub stands : StandsAt (changes_spelling tables x.0) bytes at x.1

-- candidates of the epoch whose changes the format has, and which fit the tables
pub record CandidatesStand (format : Format) (tables : Tables) (epoch : ℕ) (bytes : List ℕ) (at : ℕ) (x : List Candidate × ℕ) : Type 0 where
  pub lawful : AllByRecursion (IsCandidate epoch) x.0
  pub fits : AllByRecursion (FitsTables tables) x.0
  pub cells : AllByRecursion HaveCells x.0
  pub has : AllByRecursion (HasChanges format) x.0
  pub stands : StandsAt (candidates_spelling tables x.0) bytes at x.1

-- ---- batches

-- a lawful batch of one of so many regions, for the region that it goes to, if it is in a packet; it is spelled in one of the formats
pub record BatchStands (tables : Tables) (regions : ℕ) (to : Option ℕ) (bytes : List ℕ) (at : ℕ) (x : Batch × ℕ) : Type 0 where
  pub here : IsRegionOf regions x.0.region
  pub other : IsOther to x.0.region
  pub sealable : IsSealable x.0.epoch
  pub lawful : IsBatch x.0.region x.0.epoch x.0
  pub items : AllByRecursion (FitsTables tables) x.0.items
  pub cells : AllByRecursion HaveCells x.0.items
  pub format : Format
  pub has : AllByRecursion (HasChanges format) x.0.items
  pub stands : StandsAt (batch_spelling format tables x.0) bytes at x.1
