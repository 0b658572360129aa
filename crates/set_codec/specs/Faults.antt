-- What each fault of a batch or a packet says of the bytes: all that stands before the place is in order, and what the bytes have at the place breaks the rule that the fault names.
use Rattle.std.specs.Prelude.{◌≡◌, ◌⊎◌, ℕ, ◌+◌, ◌-◌, false, Option, Some, None, List, length, slice_index}
use Rattle.std.specs.Int.{w32}
use Rattle.geo_base.specs.declared.limits.TheConstants.{MAX_BATCH_BYTES}
use Rattle.geo_base.specs.declared.cell.Cell.{Cell}
use Rattle.geo_base.specs.declared.row_id.RowId.{RowId}
use Rattle.geo_schema.specs.declared.table.TableDef.{TableDef}
use Rattle.geo_schema.specs.Rows.{is_in}
use Rattle.geo_schema.specs.Schemas.{Tables, table_at}
use Rattle.row_codec.specs.declared.fault.CellReadFault.{CellReadFault}
use Rattle.row_codec.specs.Faults.{IsFaultAt}
use Rattle.row_codec.specs.Fields.{IsCut, ByteStands, NumberStands, FieldStands}
use Rattle.row_codec.specs.Parts.{FirstOrLater, Breaks, IsFaultOfThings}
use Rattle.row_codec.specs.Spelling.{CellStands}
use Rattle.write_set.specs.Bounds.{IsCandidateCount, IsStartOf, IsRowCount, IsSetSize}
use Rattle.set_codec.specs.declared.fault.CodecFault.{CodecFault}
use Rattle.set_codec.specs.declared.fault.CodecFault.TheVariants.{Short, BadTag, NotOrdered, BadRow, BadStart, OverLimit, Trailing}
use Rattle.set_codec.specs.declared.fault.Limit.TheVariants as limit
use Rattle.set_codec.specs.declared.format.Format.{Format}
use Rattle.set_codec.specs.declared.kind.Kind.{Kind}
use Rattle.set_codec.specs.declared.kind.Kind.TheVariants as kind
use Rattle.set_codec.specs.CellFaults.{fault_of}
use Rattle.set_codec.specs.Rules.{IsMark, IsRegionOf, IsOther, IsSealable, IsBatchSize, IsEnd, IsTableOf, IsKindByte, IsAfter, IsTaken, IsPacketKind}
use Rattle.set_codec.specs.Spelling.{changes_spelling}
use Rattle.set_codec.specs.Standing.{MarkStands, RegionStands, OtherStands, EpochStands, CountStands, StartStands, RowsStand, TableStands, KindStands, KeyStands, RowStands, row_before, ChangesStand, CandidatesStand, BatchStands}

-- ---- fields: each is cut off, or breaks its rule

-- a byte is cut off, or breaks the rule, which is this fault
abbrev pub IsByteFault : (ℕ → Type 0) → CodecFault → List ℕ → ℕ → CodecFault → Type 0
IsByteFault Rule fault bytes at = Breaks (IsCut Short 1 bytes at) (ByteStands bytes at) Rule fault

-- a number of 4 bytes is cut off, or breaks the rule, which is this fault
abbrev pub IsNumberFault : (ℕ → Type 0) → CodecFault → List ℕ → ℕ → CodecFault → Type 0
IsNumberFault Rule fault bytes at = Breaks (IsCut Short 4 bytes at) (NumberStands w32 bytes at) Rule fault

-- a mark that no format has is at fault
abbrev pub IsMarkFault : List ℕ → ℕ → CodecFault → Type 0
IsMarkFault bytes at = Breaks (IsCut Short 4 bytes at) (FieldStands 4 bytes at) (λ field. (format : Format) × IsMark field format) (BadTag at)

-- a number is that of no region
abbrev pub IsRegionFault : ℕ → List ℕ → ℕ → CodecFault → Type 0
IsRegionFault regions bytes at = IsByteFault (IsRegionOf regions) (BadTag at) bytes at

-- a region's number is at fault, or is that of the given region, which is the fault of a field at `blamed`
abbrev pub IsOtherFault : ℕ → Option ℕ → ℕ → List ℕ → ℕ → CodecFault → Type 0
IsOtherFault regions one blamed bytes at = Breaks (IsRegionFault regions bytes at) (RegionStands regions bytes at) (IsOther one) (BadTag blamed)

-- an epoch can't be sealed
abbrev pub IsEpochFault : List ℕ → ℕ → CodecFault → Type 0
IsEpochFault bytes at = IsNumberFault IsSealable (BadTag at) bytes at

-- there are too many candidates
abbrev pub IsCountFault : List ℕ → ℕ → CodecFault → Type 0
IsCountFault bytes at = IsNumberFault IsCandidateCount (OverLimit at limit.Candidates) bytes at

-- a start isn't before the epoch, or too long before it
abbrev pub IsStartFault : ℕ → List ℕ → ℕ → CodecFault → Type 0
IsStartFault epoch bytes at = IsNumberFault (IsStartOf epoch) (BadStart at) bytes at

-- there is no row, or there are too many
abbrev pub IsRowsFault : List ℕ → ℕ → CodecFault → Type 0
IsRowsFault bytes at = IsNumberFault IsRowCount (OverLimit at limit.Rows) bytes at

-- a number is that of no table
abbrev pub IsTableFault : Tables → List ℕ → ℕ → CodecFault → Type 0
IsTableFault tables bytes at = IsByteFault (IsTableOf tables) (BadRow at) bytes at

-- a byte is that of no kind that the format has
abbrev pub IsKindFault : Format → List ℕ → ℕ → CodecFault → Type 0
IsKindFault format bytes at = IsByteFault (λ byte. (kind : Kind) × IsKindByte format byte kind) (BadTag at) bytes at

-- more bytes follow
abbrev pub IsTrailing : List ℕ → ℕ → CodecFault → Type 0
IsTrailing bytes at e = (¬ (IsEnd bytes at)) × (e ≡ Trailing at)

-- ---- rows

-- no cell stands there, with the fault that cells have
abbrev pub IsCellFault : List ℕ → ℕ → CodecFault → Type 0
IsCellFault bytes at e = (f : CellReadFault) × IsFaultAt bytes at f × (e ≡ fault_of f)

-- no cell stands there, or one that isn't taken by the column at the place
abbrev pub IsTakenFault : TableDef → ℕ → List ℕ → ℕ → CodecFault → Type 0
IsTakenFault table place bytes at = Breaks (IsCellFault bytes at) (CellStands bytes at) (IsTaken table place) (BadRow at)

-- of the key's cells the first ones are in order, and the next is at fault
abbrev pub IsKeyFault : TableDef → List ℕ → ℕ → CodecFault → Type 0
IsKeyFault table bytes at e = IsFaultOfThings (KeyStands table 0 bytes at) (λ front. IsTakenFault table (slice_index table.key (length front)) bytes) (length table.key) e

-- of the row's cells the first ones are in order, and the next isn't one of the key and is at fault
abbrev pub IsCellsFault : TableDef → List Cell → List ℕ → ℕ → CodecFault → Type 0
IsCellsFault table key bytes at e =
    IsFaultOfThings (RowStands table key 0 bytes at) (λ front place e. (is_in table.key (length front) ≡ false) × IsTakenFault table (length front) bytes place e) (length table.columns) e

-- what a kind wants behind the key is at fault
abbrev pub IsDoneFault : TableDef → List Cell → Kind → List ℕ → ℕ → CodecFault → Type 0
IsDoneFault table key kind.Put bytes at e = IsCellsFault table key bytes at e
IsDoneFault table key kind.Remove bytes at e = ⊥
IsDoneFault table key kind.Touch bytes at e = ⊥

-- a change behind that of the last row: its table, its kind, a cell of its key, its order, or what its kind wants
abbrev pub IsChangeFault : Format → Tables → Option RowId → List ℕ → ℕ → CodecFault → Type 0
IsChangeFault format tables last bytes at e =
    FirstOrLater (IsTableFault tables bytes at e) (TableStands tables bytes at) (λ table.
    FirstOrLater (IsKindFault format bytes table.1 e) (KindStands format bytes table.1) (λ kind.
    FirstOrLater (IsKeyFault (table_at tables table.0) bytes kind.1 e) (λ key. (length key.0 ≡ length (table_at tables table.0).key) × KeyStands (table_at tables table.0) 0 bytes kind.1 key) (λ key.
    ((¬ (IsAfter last (record { table = table.0; key = key.0 }))) × (e ≡ NotOrdered at))
    ⊎ (IsAfter last (record { table = table.0; key = key.0 }) × IsDoneFault (table_at tables table.0) key.0 kind.0 bytes key.1 e))))

-- of so many changes the first ones are in order, and the next is at fault
abbrev pub IsChangesFault : Format → Tables → ℕ → List ℕ → ℕ → CodecFault → Type 0
IsChangesFault format tables count bytes at e = IsFaultOfThings (ChangesStand format tables None bytes at) (λ front. IsChangeFault format tables (row_before None front) bytes) count e

-- ---- candidates

-- the start, the number of rows or a change is at fault; or the changes are in order, and have too many bytes
abbrev pub IsCandidateFault : Format → Tables → ℕ → List ℕ → ℕ → CodecFault → Type 0
IsCandidateFault format tables epoch bytes at e =
    FirstOrLater (IsStartFault epoch bytes at e) (StartStands epoch bytes at) (λ start.
    FirstOrLater (IsRowsFault bytes start.1 e) (RowsStand bytes start.1) (λ rows.
    FirstOrLater (IsChangesFault format tables rows.0 bytes rows.1 e) (λ set. (length set.0 ≡ rows.0) × ChangesStand format tables None bytes rows.1 set) (λ set.
    (¬ (IsSetSize (length (changes_spelling tables set.0)))) × (e ≡ OverLimit at limit.SetBytes))))

-- of so many candidates the first ones are in order, and the next is at fault
abbrev pub IsCandidatesFault : Format → Tables → ℕ → ℕ → List ℕ → ℕ → CodecFault → Type 0
IsCandidatesFault format tables epoch count bytes at e = IsFaultOfThings (CandidatesStand format tables epoch bytes at) (λ _. IsCandidateFault format tables epoch bytes) count e

-- ---- batches and packets

-- of a batch for the region that it goes to, if it is in a packet: the mark, the region, the epoch, the number of candidates or a candidate is at fault
abbrev pub IsFrontFault : Tables → ℕ → Option ℕ → List ℕ → ℕ → CodecFault → Type 0
IsFrontFault tables regions to bytes at e =
    FirstOrLater (IsMarkFault bytes at e) (MarkStands bytes at) (λ format.
    FirstOrLater (IsOtherFault regions to 1 bytes format.1 e) (OtherStands regions to bytes format.1) (λ region.
    FirstOrLater (IsEpochFault bytes region.1 e) (EpochStands bytes region.1) (λ epoch.
    FirstOrLater (IsCountFault bytes epoch.1 e) (CountStands bytes epoch.1) (λ count.
    IsCandidatesFault format.0 tables epoch.0 count.0 bytes count.1 e))))

-- from the place on there are too many bytes for a batch; or there are not, and the batch there is at fault, or more bytes follow
abbrev pub IsBatchFaultAt : Tables → ℕ → Option ℕ → List ℕ → ℕ → CodecFault → Type 0
IsBatchFaultAt tables regions to bytes at e =
    ((¬ (IsBatchSize (length bytes - at))) × (e ≡ OverLimit (at + MAX_BATCH_BYTES) limit.BatchBytes))
    ⊎ (IsBatchSize (length bytes - at) × FirstOrLater (IsFrontFault tables regions to bytes at e) (BatchStands tables regions to bytes at) (λ batch. IsTrailing bytes batch.1 e))

-- the fault that the bytes have as a batch
abbrev pub IsBatchFault : Tables → ℕ → List ℕ → CodecFault → Type 0
IsBatchFault tables regions bytes e = IsBatchFaultAt tables regions None bytes 0 e

-- the question of a region for a batch: whom it is from, or whom it goes to, which may not be the one that asks, or the epoch is at fault; or more bytes follow
abbrev pub IsFetchFault : ℕ → List ℕ → ℕ → CodecFault → Type 0
IsFetchFault regions bytes at e =
    FirstOrLater (IsRegionFault regions bytes at e) (RegionStands regions bytes at) (λ from.
    FirstOrLater (IsOtherFault regions (Some from.0) from.1 bytes from.1 e) (OtherStands regions (Some from.0) bytes from.1) (λ to.
    FirstOrLater (IsEpochFault bytes to.1 e) (EpochStands bytes to.1) (λ epoch. IsTrailing bytes epoch.1 e)))

-- what the kind of a packet wants behind it is at fault: whom a batch goes to, or the batch; or the question
abbrev pub IsPacketFaultAt : Tables → ℕ → ℕ → List ℕ → ℕ → CodecFault → Type 0
IsPacketFaultAt tables regions kind bytes at e =
    ((kind ≡ 1) × FirstOrLater (IsRegionFault regions bytes at e) (RegionStands regions bytes at) (λ to. IsBatchFaultAt tables regions (Some to.0) bytes to.1 e))
    ⊎ ((kind ≡ 2) × IsFetchFault regions bytes at e)

-- the fault that the bytes have as a packet: its kind, or what the kind wants
abbrev pub IsPacketFault : Tables → ℕ → List ℕ → CodecFault → Type 0
IsPacketFault tables regions bytes e =
    FirstOrLater (IsByteFault IsPacketKind (BadTag 0) bytes 0 e) (λ kind. ByteStands bytes 0 kind × IsPacketKind kind.0) (λ kind. IsPacketFaultAt tables regions kind.0 bytes kind.1 e)
