-- What the events print.
use Rattle.std.specs.Prelude.{ℕ, List, [], ◌∷◌, ◌++◌, length, codes}
use Rattle.std.specs.List.{flat_map}
use Rattle.std.specs.Fmt.{decimal}
use Rattle.geo_base.specs.Texts.{row_text}
use Rattle.geo_base.specs.declared.numbers.CandId.{CandId}
use Rattle.geo_base.specs.declared.row_id.RowId.{RowId}
use Rattle.write_set.specs.Overlay.{Table}

-- the text of a line with its line feed
abbrev pub line : List ℕ → List ℕ
line text = text ++ (10 ∷ [])

-- a line for each row of the table
abbrev pub rows_lines : Table → List ℕ
rows_lines rows = flat_map (λ r. line (row_text r.1)) rows

-- a row by the name of its table and its key
abbrev pub row_name : RowId → List ℕ
row_name row = codes "kv" ++ row_text row.key

-- a candidate: its epoch, its region and its commit number
abbrev pub id_text : CandId → List ℕ
id_text id = decimal id.epoch ++ codes "." ++ decimal id.region ++ codes "." ++ decimal id.csn

-- a session's line: its region and number, and what is said to it
abbrev pub reply : ℕ → ℕ → List ℕ → List ℕ
reply region session text = line (decimal region ++ codes "." ++ decimal session ++ codes " " ++ text)

-- a region's line
abbrev pub notice : ℕ → List ℕ → List ℕ
notice region text = line (codes "region " ++ decimal region ++ codes " " ++ text)

-- a packet's line
abbrev pub news : ℕ → List ℕ → List ℕ
news packet text = line (codes "packet " ++ decimal packet ++ codes " " ++ text)

-- a packet was sent to a region
unfoldable pub sent : ℕ → ℕ → List ℕ
sent packet to = news packet (codes "to " ++ decimal to)

-- a session's statement changed one row: its candidate waits in the batch of the open epoch, by this ticket
unfoldable pub changed_one : ℕ → ℕ → CandId → List ℕ
changed_one region session ticket = reply region session (codes "changed 1 ticket " ++ id_text ticket)

-- a session's insert is refused: the row is there
unfoldable pub duplicate : ℕ → ℕ → RowId → List ℕ
duplicate region session row = reply region session (codes "refused 30 Duplicate " ++ row_name row)

-- a session's insert is refused: the epoch on which it ran is too far behind the open one
unfoldable pub too_old : ℕ → ℕ → ℕ → ℕ → List ℕ
too_old region session start open_at =
    reply region session (codes "refused 43 TooOld start " ++ decimal start ++ codes " open " ++ decimal open_at)

-- a session's statement is refused: the session waits for the verdict on the candidate with this ticket
unfoldable pub session_waits : ℕ → ℕ → CandId → List ℕ
session_waits region session ticket = reply region session (codes "refused 46 Waiting " ++ id_text ticket)

-- a session's insert is refused: the batch of the open epoch can't take its candidate
unfoldable pub batch_full : ℕ → ℕ → List ℕ
batch_full region session = reply region session (codes "refused 47 BatchFull")

-- a session's select is answered: how many rows there are, and then each of them
unfoldable pub answer : ℕ → ℕ → Table → List ℕ
answer region session rows = reply region session (codes "rows " ++ decimal (length rows)) ++ rows_lines rows

-- a seal is refused: the region has sealed too far ahead of what it has published
unfoldable pub seal_ahead : ℕ → List ℕ
seal_ahead region = notice region (codes "refused 50 Ahead")

-- a seal is refused: the open epoch is the last
unfoldable pub seal_last : ℕ → List ℕ
seal_last region = notice region (codes "refused 51 LastEpoch")

-- a region sealed its batch of the epoch, with so many candidates
unfoldable pub batch_sealed : ℕ → ℕ → ℕ → List ℕ
batch_sealed region epoch count = notice region (codes "sealed " ++ decimal epoch ++ codes " with " ++ decimal count)

-- a packet came, and the region takes its batch
unfoldable pub packet_new : ℕ → List ℕ
packet_new packet = news packet (codes "new")

-- a packet came whose batch the region has, or whose epoch it has published
unfoldable pub packet_known : ℕ → List ℕ
packet_known packet = news packet (codes "known")

-- a packet came whose batch is of an epoch past this limit, and the region doesn't take it
unfoldable pub packet_far : ℕ → ℕ → List ℕ
packet_far packet limit = news packet (codes "far " ++ decimal limit)

-- there is no packet of this number
unfoldable pub packet_absent : ℕ → List ℕ
packet_absent packet = news packet (codes "absent")

-- a region published the epoch, of whose candidates so many commit and so many don't
unfoldable pub epoch_published : ℕ → ℕ → ℕ → ℕ → List ℕ
epoch_published region epoch commits aborts =
    notice region (codes "published " ++ decimal epoch ++ codes " commits " ++ decimal commits ++ codes " aborts " ++ decimal aborts)

-- a region can't publish the epoch yet: it has the batches of so many of all regions
unfoldable pub region_waits : ℕ → ℕ → ℕ → ℕ → List ℕ
region_waits region epoch have regions =
    notice region (codes "waiting " ++ decimal epoch ++ codes ": have " ++ decimal have ++ codes " of " ++ decimal regions)

-- where the region stands, and its table
unfoldable pub shown : ℕ → ℕ → Table → List ℕ
shown region published rows =
    notice region (codes "at " ++ decimal published) ++ line (codes "table kv " ++ decimal (length rows) ++ codes " rows") ++ rows_lines rows
