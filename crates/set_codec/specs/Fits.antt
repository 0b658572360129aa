-- Which batches fit a schema and keep the limits, and which bytes spell them.
use Rattle.std.specs.Prelude.{◌≡◌, ℕ, ◌+◌, true, Some, List, [], ◌∷◌, length, slice_index, All}
use Rattle.geo_base.specs.declared.limits.TheConstants.{MAX_REGIONS}
use Rattle.geo_base.specs.declared.cell.Cell.{Cell}
use Rattle.geo_schema.specs.declared.table.TableDef.{TableDef}
use Rattle.geo_schema.specs.Rows.{IsRow, key_cells}
use Rattle.geo_schema.specs.Schemas.{Tables, table_at}
use Rattle.row_codec.specs.Spelling.{AreCells}
use Rattle.write_set.specs.declared.change.Change.{Change}
use Rattle.write_set.specs.declared.change.Change.TheVariants.{Put, Remove, Touch}
use Rattle.write_set.specs.declared.candidate.Candidate.{Candidate}
use Rattle.write_set.specs.declared.batch.Batch.{Batch}
use Rattle.write_set.specs.Bounds.{IsSetSize}
use Rattle.write_set.specs.Sets.{ChangeOfRow}
use Rattle.write_set.specs.Journal.{IsBatch}
use Rattle.set_codec.specs.declared.format.Format.{Format}
use Rattle.set_codec.specs.declared.format.Format.TheVariants as format
use Rattle.set_codec.specs.declared.packet.Packet.{Packet}
use Rattle.set_codec.specs.declared.packet.Packet.TheVariants as packet
use Rattle.set_codec.specs.Rules.{IsRegionOf, IsOther, IsSealable, IsBatchSize, IsTableOf, has_kind, IsTaken}
use Rattle.set_codec.specs.Spelling.{kind_of, changes_spelling, batch_spelling}

-- each of the cells is taken by the column at its place, where the first one's place is the i-th
abbrev pub AreTaken : TableDef → (ℕ → ℕ) → ℕ → List Cell → Type 0
AreTaken table place i [] = Unit {0}
AreTaken table place i (c ∷ cells) = IsTaken table (place i) c × AreTaken table place (i + 1) cells

-- a cell for each place of the table's key, and each is taken by the column there
abbrev pub FitsKey : TableDef → List Cell → Type 0
FitsKey table cells = (length cells ≡ length table.key) × AreTaken table (slice_index table.key) 0 cells

-- what is put is a row of the table, and has the key's cells
abbrev pub FitsChange : TableDef → List Cell → Change → Type 0
FitsChange table key (Put image) = IsRow table image × (key_cells table image ≡ key)
FitsChange table key Remove = Unit {0}
FitsChange table key Touch = Unit {0}

-- the change is of a table that there is; its key's cells, and those of the row that is put, are taken by their columns
pub record FitsTable (tables : Tables) (change : ChangeOfRow) : Type 0 where
  pub table : IsTableOf tables change.0.table
  pub key : FitsKey (table_at tables change.0.table) change.0.key
  pub image : FitsChange (table_at tables change.0.table) change.0.key change.1

-- each change fits its table, and the spelled changes are within the limit
pub record FitsTables (tables : Tables) (c : Candidate) : Type 0 where
  pub changes : All (FitsTable tables) c.set
  pub few : IsSetSize (length (changes_spelling tables c.set))

-- a batch of a region and of an epoch that can be sealed, which fits the schema of these tables and keeps the limits
pub record FitsSchema (tables : Tables) (batch : Batch) : Type 0 where
  pub region : IsRegionOf MAX_REGIONS batch.region
  pub sealable : IsSealable batch.epoch
  pub lawful : IsBatch batch.region batch.epoch batch
  pub items : All (FitsTables tables) batch.items
  pub few : IsBatchSize (length (batch_spelling format.Ggb2 tables batch))

-- the cells are cells of the program: numbers of 64 bits, and texts
abbrev pub HasCells : ChangeOfRow → Type 0
HasCells (row, Put image) = AreCells row.key × AreCells image
HasCells (row, Remove) = AreCells row.key
HasCells (row, Touch) = AreCells row.key

-- the cells of each change are such
abbrev pub HaveCells : Candidate → Type 0
HaveCells c = All HasCells c.set

-- a batch of one of so many regions, which fits the schema of these tables and has cells of the program
pub record FitsRegions (tables : Tables) (regions : ℕ) (batch : Batch) : Type 0 where
  pub here : IsRegionOf regions batch.region
  pub fits : FitsSchema tables batch
  pub cells : All HaveCells batch.items

-- ---- spellings of a batch

-- the format has what the change does to its row
abbrev pub HasChange : Format → ChangeOfRow → Type 0
HasChange format change = has_kind format (kind_of change.1) ≡ true

-- it has what each change of the candidate does
abbrev pub HasChanges : Format → Candidate → Type 0
HasChanges format c = All (HasChange format) c.set

-- the bytes are the spelling of the batch in a format that has all its changes. So a batch has one in each of the two formats, or, where it touches a row, one in GGB2 alone
pub record IsSpelling (tables : Tables) (batch : Batch) (bytes : List ℕ) : Type 0 where
  pub format : Format
  pub has : All (HasChanges format) batch.items
  pub is : batch_spelling format tables batch ≡ bytes

-- a packet from one of so many regions to another: a spelling of a batch, or the question for the batch of an epoch that can be sealed
abbrev pub FitsPacket : Tables → ℕ → Packet → Type 0
FitsPacket tables regions (packet.Batch to bytes) =
    IsRegionOf regions to × ((batch : Batch) × FitsRegions tables regions batch × IsOther (Some to) batch.region × IsSpelling tables batch bytes)
FitsPacket tables regions (packet.Fetch from to epoch) =
    IsRegionOf regions from × IsRegionOf regions to × IsOther (Some from) to × IsSealable epoch
