-- Inner: how the readers of batches and packets go from left to right, and stop at the first fault that they meet.
use Rattle.std.specs.Prelude.{ℕ, ◌+◌, ◌-◌, Bool, true, ◌&&◌, not, nat_lt, nat_le, ◌==◌, if◌then◌else◌, Option, None, Some, is_some, is_none, List, [], ◌∷◌, length, drop, slice_index, slice_index_or, position, nat_eq, Result, Ok, Err}
use Rattle.std.specs.Cmp.Lexicographic.{pointwise}
use Rattle.std.specs.Int.{w32}
use Rattle.std.specs.Ordering.{is_lt}
use Rattle.geo_base.specs.declared.limits.TheConstants.{MAX_AGE, MAX_CANDIDATES, MAX_BATCH_BYTES, MAX_SET_ROWS, MAX_SET_BYTES, LAST_EPOCH}
use Rattle.geo_base.specs.declared.cell.Cell.{Cell}
use Rattle.geo_base.specs.declared.cell.Cell.TheVariants as cell
use Rattle.geo_base.specs.declared.row_id.RowId.{RowId}
use Rattle.geo_base.specs.Order.{row_cmp}
use Rattle.geo_base.specs.Results.{Read, ◌>>=◌}
use Rattle.geo_schema.specs.declared.table.TableDef.{TableDef}
use Rattle.geo_schema.specs.inner.Rows.{cell_fault}
use Rattle.geo_schema.specs.Schemas.{Tables, table_numbered, table_at}
use Rattle.geo_schema.specs.Tables.{no_column}
use Rattle.row_codec.specs.declared.fault.CellReadFault.{CellReadFault}
use Rattle.row_codec.specs.inner.Fields.{field_at, byte_at, number_at}
use Rattle.row_codec.specs.inner.Reading.{cell_at}
use Rattle.row_codec.specs.inner.Things.{things_at}
use Rattle.write_set.specs.declared.change.Change.TheVariants.{Put, Remove, Touch}
use Rattle.write_set.specs.declared.candidate.Candidate.{Candidate}
use Rattle.write_set.specs.declared.batch.Batch.{Batch}
use Rattle.write_set.specs.Sets.{ChangeOfRow}
use Rattle.set_codec.specs.declared.fault.CodecFault.{CodecFault}
use Rattle.set_codec.specs.declared.fault.CodecFault.TheVariants.{Short, BadTag, NotOrdered, BadRow, BadStart, OverLimit, Trailing}
use Rattle.set_codec.specs.declared.fault.Limit.TheVariants as limit
use Rattle.set_codec.specs.declared.format.Format.{Format}
use Rattle.set_codec.specs.declared.format.Format.TheVariants as format
use Rattle.set_codec.specs.declared.kind.Kind.{Kind}
use Rattle.set_codec.specs.declared.kind.Kind.TheVariants as kind
use Rattle.set_codec.specs.declared.packet.Packet.{Packet}
use Rattle.set_codec.specs.declared.packet.Packet.TheVariants as packet
use Rattle.set_codec.specs.CellFaults.{fault_of}
use Rattle.set_codec.specs.Spelling.{mark}

-- ---- fields

-- what a part names, if it is something, with the place behind the part
abbrev pub named_at : {A : Type 0} → Option A → ℕ → CodecFault → Read CodecFault A
named_at (Some x) next fault = Ok (x, next)
named_at None next fault = Err fault

-- the format that has the mark
abbrev pub format_named : List ℕ → Option Format
format_named field = if pointwise nat_eq field (mark format.Ggb1) then Some format.Ggb1 else if pointwise nat_eq field (mark format.Ggb2) then Some format.Ggb2 else None

unfoldable pub mark_at : List ℕ → ℕ → Read CodecFault Format
mark_at bytes at = do
  field ← field_at Short 4 bytes at
  named_at (format_named field.0) field.1 (BadTag at)

unfoldable pub region_at : ℕ → List ℕ → ℕ → Read CodecFault ℕ
region_at regions bytes at = do
  region ← byte_at Short bytes at
  if nat_lt region.0 regions then Ok region else Err (BadTag at)

-- it isn't the given region
abbrev pub is_other : Option ℕ → ℕ → Bool
is_other None region = true
is_other (Some one) region = not (region == one)

-- a region that isn't the given one
unfoldable pub other_at : ℕ → Option ℕ → ℕ → List ℕ → ℕ → Read CodecFault ℕ
other_at regions one blamed bytes at = do
  region ← region_at regions bytes at
  if is_other one region.0 then Ok region else Err (BadTag blamed)

unfoldable pub epoch_at : List ℕ → ℕ → Read CodecFault ℕ
epoch_at bytes at = do
  epoch ← number_at Short w32 bytes at
  if nat_le 1 epoch.0 && nat_lt epoch.0 LAST_EPOCH then Ok epoch else Err (BadTag at)

unfoldable pub count_at : List ℕ → ℕ → Read CodecFault ℕ
count_at bytes at = do
  count ← number_at Short w32 bytes at
  if nat_le count.0 MAX_CANDIDATES then Ok count else Err (OverLimit at limit.Candidates)

unfoldable pub start_at : ℕ → List ℕ → ℕ → Read CodecFault ℕ
start_at epoch bytes at = do
  start ← number_at Short w32 bytes at
  if nat_lt start.0 epoch && nat_le epoch (start.0 + MAX_AGE) then Ok start else Err (BadStart at)

unfoldable pub rows_at : List ℕ → ℕ → Read CodecFault ℕ
rows_at bytes at = do
  rows ← number_at Short w32 bytes at
  if nat_le 1 rows.0 && nat_le rows.0 MAX_SET_ROWS then Ok rows else Err (OverLimit at limit.Rows)

unfoldable pub table_no_at : Tables → List ℕ → ℕ → Read CodecFault ℕ
table_no_at tables bytes at = do
  table ← byte_at Short bytes at
  if is_some (table_numbered tables table.0) then Ok table else Err (BadRow at)

-- a touch, where the format has touches
abbrev pub touch_in : Format → Option Kind
touch_in format.Ggb1 = None
touch_in format.Ggb2 = Some kind.Touch

-- the kind that has the byte, if it is one of the format
abbrev pub kind_named : Format → ℕ → Option Kind
kind_named format byte = if byte == 1 then Some kind.Put else if byte == 2 then Some kind.Remove else if byte == 3 then touch_in format else None

unfoldable pub kind_at : Format → List ℕ → ℕ → Read CodecFault Kind
kind_at format bytes at = do
  byte ← byte_at Short bytes at
  named_at (kind_named format byte.0) byte.1 (BadTag at)

-- the bytes end at the place
unfoldable pub end_at : {A : Type 0} → A → List ℕ → ℕ → Result A CodecFault
end_at x bytes at = if nat_le (length bytes) at then Ok x else Err (Trailing at)

-- ---- cells

-- what the cells' reader answers, with its fault as one of a batch
abbrev pub lifted : {A : Type 0} → Result A CellReadFault → Result A CodecFault
lifted (Ok x) = Ok x
lifted (Err e) = Err (fault_of e)

-- a cell that is taken by the column at the place
unfoldable pub taken_at : TableDef → ℕ → List ℕ → ℕ → Read CodecFault Cell
taken_at table place bytes at = do
  cell ← lifted (cell_at bytes at)
  if is_none (cell_fault table.key (slice_index_or table.columns place no_column) place cell.0) then Ok cell else Err (BadRow at)

-- the cells of a key
unfoldable pub key_at : TableDef → List ℕ → ℕ → Read CodecFault (List Cell)
key_at table bytes at = things_at (λ i. taken_at table (slice_index table.key i)) (λ i _. i + 1) (length table.key) 0 bytes at

-- the cell of a row at a place: it is known where the key has the place, and else it is read
unfoldable pub row_cell_at : TableDef → List Cell → ℕ → Option ℕ → List ℕ → ℕ → Read CodecFault Cell
row_cell_at table key place (Some i) bytes at = Ok (slice_index_or key i cell.Null, at)
row_cell_at table key place None bytes at = taken_at table place bytes at

-- that of the row with that key
abbrev pub next_cell_at : TableDef → List Cell → ℕ → List ℕ → ℕ → Read CodecFault Cell
next_cell_at table key place = row_cell_at table key place (position (λ p. nat_eq p place) table.key)

-- the row with that key
unfoldable pub row_at : TableDef → List Cell → List ℕ → ℕ → Read CodecFault (List Cell)
row_at table key bytes at = things_at (next_cell_at table key) (λ i _. i + 1) (length table.columns) 0 bytes at

-- ---- changes

-- the row is greater than the one before it, if there is one
abbrev pub is_after : Option RowId → RowId → Bool
is_after None row = true
is_after (Some last) row = is_lt (row_cmp last row)

-- what is done to a row that is known
unfoldable pub done_at : TableDef → RowId → Kind → List ℕ → ℕ → Read CodecFault ChangeOfRow
done_at table row kind.Put bytes at = do
  image ← row_at table row.key bytes at
  Ok ((row, Put image.0), image.1)
done_at table row kind.Remove bytes at = Ok ((row, Remove), at)
done_at table row kind.Touch bytes at = Ok ((row, Touch), at)

-- a change, of a row greater than the last one
unfoldable pub change_at : Format → Tables → Option RowId → List ℕ → ℕ → Read CodecFault ChangeOfRow
change_at format tables last bytes at = do
  table ← table_no_at tables bytes at
  kind ← kind_at format bytes table.1
  key ← key_at (table_at tables table.0) bytes kind.1
  if is_after last (record { table = table.0; key = key.0 })
      then done_at (table_at tables table.0) (record { table = table.0; key = key.0 }) kind.0 bytes key.1
      else Err (NotOrdered at)

-- the row of the last change
abbrev pub last_row : List ChangeOfRow → Option RowId
last_row [] = None
last_row (change ∷ []) = Some change.0
last_row (change ∷ next ∷ changes) = last_row (next ∷ changes)

-- the row behind which the next change's is
abbrev pub row_behind : Option RowId → ChangeOfRow → Option RowId
row_behind last change = Some change.0

-- so many changes, of rows that rise
unfoldable pub changes_at : Format → Tables → ℕ → List ℕ → ℕ → Read CodecFault (List ChangeOfRow)
changes_at format tables count bytes at = things_at (change_at format tables) row_behind count None bytes at

-- ---- candidates

-- a candidate, whose changes' bytes are counted once the last one is read
unfoldable pub candidate_at : Format → Tables → ℕ → List ℕ → ℕ → Read CodecFault Candidate
candidate_at format tables epoch bytes at = do
  start ← start_at epoch bytes at
  rows ← rows_at bytes start.1
  set ← changes_at format tables rows.0 bytes rows.1
  if nat_le (set.1 - rows.1) MAX_SET_BYTES
      then Ok (record { start = start.0; set = set.0 }, set.1)
      else Err (OverLimit at limit.SetBytes)

-- so many candidates, one after another
unfoldable pub candidates_at : Format → Tables → ℕ → ℕ → List ℕ → ℕ → Read CodecFault (List Candidate)
candidates_at format tables epoch count bytes at = things_at (λ _. candidate_at format tables epoch) (λ state _. state) count (tt {0}) bytes at

-- ---- batches

-- the batch at the place, for the region that it goes to, if it is in a packet
unfoldable pub front_at : Tables → ℕ → Option ℕ → List ℕ → ℕ → Read CodecFault Batch
front_at tables regions to bytes at = do
  format ← mark_at bytes at
  region ← other_at regions to 1 bytes format.1
  epoch ← epoch_at bytes region.1
  count ← count_at bytes epoch.1
  items ← candidates_at format.0 tables epoch.0 count.0 bytes count.1
  Ok (record { region = region.0; epoch = epoch.0; items = items.0 }, items.1)

-- the batch from the place to the end
unfoldable pub body_at : Tables → ℕ → Option ℕ → List ℕ → ℕ → Result Batch CodecFault
body_at tables regions to bytes at = do
  batch ← front_at tables regions to bytes at
  end_at batch.0 bytes batch.1

-- the same, where the bytes from the place on are not too many
unfoldable pub batch_at : Tables → ℕ → Option ℕ → List ℕ → ℕ → Result Batch CodecFault
batch_at tables regions to bytes at =
    if nat_le (length bytes - at) MAX_BATCH_BYTES then body_at tables regions to bytes at else Err (OverLimit (at + MAX_BATCH_BYTES) limit.BatchBytes)

-- ---- packets

-- a packet with a batch, whose kind was read
unfoldable pub batch_packet_at : Tables → ℕ → List ℕ → ℕ → Result Packet CodecFault
batch_packet_at tables regions bytes at = do
  to ← region_at regions bytes at
  batch ← batch_at tables regions (Some to.0) bytes to.1
  Ok (packet.Batch to.0 (drop to.1 bytes))

-- a packet that asks for a batch, whose kind was read
unfoldable pub fetch_packet_at : ℕ → List ℕ → ℕ → Result Packet CodecFault
fetch_packet_at regions bytes at = do
  from ← region_at regions bytes at
  to ← other_at regions (Some from.0) from.1 bytes from.1
  epoch ← epoch_at bytes to.1
  end_at (packet.Fetch from.0 to.0 epoch.0) bytes epoch.1

-- the packet that the bytes spell
unfoldable pub packet_at : Tables → ℕ → List ℕ → Result Packet CodecFault
packet_at tables regions bytes = do
  kind ← byte_at Short bytes 0
  if kind.0 == 1
      then batch_packet_at tables regions bytes kind.1
      else if kind.0 == 2 then fetch_packet_at regions bytes kind.1 else Err (BadTag 0)
