-- The rules of the formats, each stated once; those of starts and of counts are in write_set: Bounds. What stands keeps them, and a fault is that one is broken.
use Rattle.std.specs.Prelude.{◌≡◌, ◌⊎◌, ℕ, ◌<◌, ◌≤◌, Bool, true, false, Option, Some, None, List, length, slice_index_or}
use Rattle.std.specs.declared.cmp.Ordering.TheVariants as order
use Rattle.geo_base.specs.declared.limits.TheConstants.{MAX_BATCH_BYTES, LAST_EPOCH}
use Rattle.geo_base.specs.declared.cell.Cell.{Cell}
use Rattle.geo_base.specs.declared.row_id.RowId.{RowId}
use Rattle.geo_base.specs.Order.{row_cmp}
use Rattle.geo_schema.specs.declared.table.TableDef.{TableDef}
use Rattle.geo_schema.specs.Rows.{Suits}
use Rattle.geo_schema.specs.Schemas.{Tables, IsTableNo}
use Rattle.geo_schema.specs.Tables.{no_column}
use Rattle.set_codec.specs.declared.format.Format.{Format}
use Rattle.set_codec.specs.declared.format.Format.TheVariants as format
use Rattle.set_codec.specs.declared.kind.Kind.{Kind}
use Rattle.set_codec.specs.declared.kind.Kind.TheVariants as kind
use Rattle.set_codec.specs.Spelling.{mark, kind_byte}

-- ---- batches and packets

-- a batch begins with the mark of its format
abbrev pub IsMark : List ℕ → Format → Type 0
IsMark bytes format = bytes ≡ mark format

-- a region is one of so many
abbrev pub IsRegionOf : ℕ → ℕ → Type 0
IsRegionOf regions region = region < regions

-- a region isn't the one that a batch goes to, or that asks
abbrev pub IsOther : Option ℕ → ℕ → Type 0
IsOther None region = Unit {0}
IsOther (Some to) region = ¬ (region ≡ to)

-- an epoch can be sealed: it is one from 1 on, below the last that can be open
abbrev pub IsSealable : ℕ → Type 0
IsSealable epoch = (1 ≤ epoch) × (epoch < LAST_EPOCH)

-- a batch has no more bytes than the limit
abbrev pub IsBatchSize : ℕ → Type 0
IsBatchSize bytes = bytes ≤ MAX_BATCH_BYTES

-- a packet has a batch or asks for one
abbrev pub IsPacketKind : ℕ → Type 0
IsPacketKind kind = (kind ≡ 1) ⊎ (kind ≡ 2)

-- nothing is behind the end
abbrev pub IsEnd : List ℕ → ℕ → Type 0
IsEnd bytes at = length bytes ≤ at

-- ---- changes

-- a table is one of the schema's, be it a hidden one
abbrev pub IsTableOf : Tables → ℕ → Type 0
IsTableOf tables table = IsTableNo tables table

-- both formats have puts and removals, and GGB2 has touches too
abbrev pub has_kind : Format → Kind → Bool
has_kind format.Ggb1 kind.Put = true
has_kind format.Ggb1 kind.Remove = true
has_kind format.Ggb1 kind.Touch = false
has_kind format.Ggb2 kind = true

-- the byte of a change is that of its kind, and the format has the kind
abbrev pub IsKindByte : Format → ℕ → Kind → Type 0
IsKindByte format byte kind = (byte ≡ kind_byte kind) × (has_kind format kind ≡ true)

-- a row is greater than the one before it, if there is one
abbrev pub IsAfter : Option RowId → RowId → Type 0
IsAfter None row = Unit {0}
IsAfter (Some last) row = row_cmp last row ≡ order.Less

-- a cell is one that suits the column of the table at the place
abbrev pub IsTaken : TableDef → ℕ → Cell → Type 0
IsTaken table place c = Suits table.key (slice_index_or table.columns place no_column) place c
