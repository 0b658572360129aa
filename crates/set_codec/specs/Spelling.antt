-- The spelling of each change, candidate and packet, and that of a batch in each of two formats.
use Rattle.std.specs.Prelude.{ℕ, ◌+◌, List, [], ◌∷◌, ◌++◌, length, if◌then◌else◌}
use Rattle.std.specs.List.{flat_map}
use Rattle.std.specs.Int.{w32, to_be_bytes}
use Rattle.geo_base.specs.declared.cell.Cell.{Cell}
use Rattle.geo_schema.specs.declared.table.TableDef.{TableDef}
use Rattle.geo_schema.specs.Rows.{is_in}
use Rattle.geo_schema.specs.Schemas.{Tables, table_at}
use Rattle.row_codec.specs.Spelling.{cells_spelling}
use Rattle.write_set.specs.declared.change.Change.{Change}
use Rattle.write_set.specs.declared.change.Change.TheVariants.{Put, Remove, Touch}
use Rattle.write_set.specs.declared.candidate.Candidate.{Candidate}
use Rattle.write_set.specs.declared.batch.Batch.{Batch}
use Rattle.write_set.specs.Sets.{ChangeOfRow}
use Rattle.set_codec.specs.declared.format.Format.{Format}
use Rattle.set_codec.specs.declared.format.Format.TheVariants as format
use Rattle.set_codec.specs.declared.kind.Kind.{Kind}
use Rattle.set_codec.specs.declared.kind.Kind.TheVariants as kind
use Rattle.set_codec.specs.declared.packet.Packet.{Packet}
use Rattle.set_codec.specs.declared.packet.Packet.TheVariants as packet

-- what a change does to its row
abbrev pub kind_of : Change → Kind
kind_of (Put image) = kind.Put
kind_of Remove = kind.Remove
kind_of Touch = kind.Touch

-- the byte of a change that puts, removes or touches its row
abbrev pub kind_byte : Kind → ℕ
kind_byte kind.Put = 1
kind_byte kind.Remove = 2
kind_byte kind.Touch = 3

-- the cells that don't stand at a place of the key, where the first one stands at the given place
abbrev pub other_cells : List ℕ → ℕ → List Cell → List Cell
other_cells key place [] = []
other_cells key place (cell ∷ cells) =
    if is_in key place then other_cells key (place + 1) cells else cell ∷ other_cells key (place + 1) cells

-- a number of 4 bytes, the highest first
abbrev pub number_spelling : ℕ → List ℕ
number_spelling = to_be_bytes w32

-- the cells that a change has behind those of its row's key: those of the row's other columns where it is put
abbrev pub cells_behind : TableDef → Change → List Cell
cells_behind table (Put image) = other_cells table.key 0 image
cells_behind table Remove = []
cells_behind table Touch = []

-- the table and the kind; behind them the cells of the key, and the others
unfoldable pub change_spelling : Tables → ChangeOfRow → List ℕ
change_spelling tables (row, change) =
    row.table ∷ kind_byte (kind_of change) ∷ (cells_spelling row.key ++ cells_spelling (cells_behind (table_at tables row.table) change))

-- one change after another
abbrev pub changes_spelling : Tables → List ChangeOfRow → List ℕ
changes_spelling tables = flat_map (change_spelling tables)

-- the start, the number of rows, and the changes
unfoldable pub candidate_spelling : Tables → Candidate → List ℕ
candidate_spelling tables c = number_spelling c.start ++ (number_spelling (length c.set) ++ changes_spelling tables c.set)

-- one candidate after another
abbrev pub candidates_spelling : Tables → List Candidate → List ℕ
candidates_spelling tables = flat_map (candidate_spelling tables)

-- what a batch begins with in each format: GGB1 or GGB2
abbrev pub mark : Format → List ℕ
mark format.Ggb1 = 71 ∷ 71 ∷ 66 ∷ 49 ∷ []
mark format.Ggb2 = 71 ∷ 71 ∷ 66 ∷ 50 ∷ []

-- the mark of the format, the region, the epoch, the number of candidates, and the candidates
unfoldable pub batch_spelling : Format → Tables → Batch → List ℕ
batch_spelling format tables b =
    mark format ++ (b.region ∷ (number_spelling b.epoch ++ (number_spelling (length b.items) ++ candidates_spelling tables b.items)))

-- the kind; behind it whom a batch goes to, and its bytes; or who asks whom for a batch, and of which epoch
abbrev pub packet_spelling : Packet → List ℕ
packet_spelling (packet.Batch to bytes) = 1 ∷ to ∷ bytes
packet_spelling (packet.Fetch from to epoch) = 2 ∷ from ∷ to ∷ number_spelling epoch
