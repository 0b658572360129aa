-- The text of a script: its header and one line for each event.
use Rattle.std.specs.Prelude.{◌≡◌, ◌⊎◌, ℕ, ℤ, ◌+◌, ◌^◌, ◌<◌, ◌≤◌, List, [], ◌∷◌, ◌++◌, length, codes, pos, negsuc}
use Rattle.std.specs.Fmt.{decimal, signed_decimal}
use Rattle.geo_base.specs.declared.limits.TheConstants.{MAX_REGIONS, SESSIONS_PER_REGION, PACKETS_PER_LINE, SCRIPT_BYTES}
use Rattle.world_script.specs.declared.event.Statement.{Statement}
use Rattle.world_script.specs.declared.event.Statement.TheVariants.{Insert, Select}
use Rattle.world_script.specs.declared.event.Event.{Event}
use Rattle.world_script.specs.declared.event.Event.TheVariants.{Sql, Seal, Deliver, Publish, Show}
use Rattle.world_script.specs.declared.script.Script.{Script}

-- a statement as it is typed
abbrev pub statement_text : Statement → List ℕ
statement_text (Insert key value) =
    codes "INSERT INTO kv VALUES (" ++ signed_decimal key ++ codes ", " ++ signed_decimal value ++ codes ")"
statement_text Select = codes "SELECT * FROM kv"

-- a session: its region, a dot, its number
abbrev pub session_text : ℕ → ℕ → List ℕ
session_text region session = decimal region ++ codes "." ++ decimal session

-- a number that can be typed: any of 64 bits with a sign but the least
abbrev pub IsLiteral : ℤ → Type 0
IsLiteral (pos n) = n < 2 ^ 63
IsLiteral (negsuc n) = n + 1 < 2 ^ 63

-- the line is one way to type the event: a deliver line of one packet names it once or twice
abbrev pub IsLineOf : Event → List ℕ → Type 0
IsLineOf (Sql region session statement) line =
    line ≡ codes "sql " ++ session_text region session ++ codes " " ++ statement_text statement
IsLineOf (Seal region) line = line ≡ codes "seal " ++ decimal region
IsLineOf (Deliver first last) line =
    (line ≡ codes "deliver " ++ decimal first ++ codes " " ++ decimal last)
    ⊎ ((first ≡ last) × (line ≡ codes "deliver " ++ decimal first))
IsLineOf (Publish region) line = line ≡ codes "publish " ++ decimal region
IsLineOf (Show region) line = line ≡ codes "show " ++ decimal region

-- the statement's numbers can be typed
abbrev pub IsTyped : Statement → Type 0
IsTyped (Insert key value) = IsLiteral key × IsLiteral value
IsTyped Select = Unit {0}

-- the event's numbers are in range, for this number of regions
abbrev pub IsWithin : ℕ → Event → Type 0
IsWithin regions (Sql region session statement) =
    (region < regions) × (session < SESSIONS_PER_REGION) × IsTyped statement
IsWithin regions (Seal region) = region < regions
IsWithin regions (Deliver first last) =
    (first ≤ last) × (last < 2 ^ 32) × (last < first + PACKETS_PER_LINE)
IsWithin regions (Publish region) = region < regions
IsWithin regions (Show region) = region < regions

-- the lines that come before the events
abbrev pub header_lines : ℕ → List (List ℕ)
header_lines regions =
    codes "geogauss play 1" ∷ (codes "regions " ++ decimal regions) ∷ codes "table kv (k INT KEY, v INT)" ∷ codes "begin" ∷ []

-- one line for each event, in order
abbrev pub AreLinesOf : ℕ → List Event → List (List ℕ) → Type 0
AreLinesOf regions [] [] = Unit {0}
AreLinesOf regions [] (line ∷ lines) = ⊥
AreLinesOf regions (event ∷ events) [] = ⊥
AreLinesOf regions (event ∷ events) (line ∷ lines) =
    IsLineOf event line × IsWithin regions event × AreLinesOf regions events lines

-- the lines, each ended by a line feed
abbrev pub text_of_lines : List (List ℕ) → List ℕ
text_of_lines [] = []
text_of_lines (line ∷ lines) = line ++ (10 ∷ text_of_lines lines)

-- the bytes are the text of the script
pub record IsScript (script : Script) (bytes : List ℕ) : Type 0 where
  pub lines : List (List ℕ)
  pub some : 1 ≤ script.regions
  pub few : script.regions ≤ MAX_REGIONS
  pub short : length bytes ≤ SCRIPT_BYTES
  pub typed : AreLinesOf script.regions script.events lines
  pub text : bytes ≡ text_of_lines (header_lines script.regions ++ lines)
