-- How the lines of a script are spelled, and which texts are scripts.
use Rattle.std.specs.Prelude.{◌≡◌, ◌≢◌, ◌⊎◌, ℕ, ◌+◌, ◌<◌, ◌≤◌, List, [], ◌∷◌, ◌++◌, length, codes, IsUtf8, Contains, All, nat_eq}
use Rattle.std.specs.Fmt.{decimal}
use Rattle.std.specs.List.{IsDistinct}
use Rattle.geo_base.specs.declared.limits.TheConstants.{MAX_REGIONS, SCRIPT_BYTES, PACKETS_PER_LINE, SESSIONS_PER_REGION}
use Rattle.geo_schema.specs.declared.index.IndexDef.{IndexDef}
use Rattle.geo_schema.specs.declared.table.TableDef.{TableDef}
use Rattle.geo_schema.specs.Schemas.{IsSchema, shown_only}
use Rattle.schema_text.specs.Spelling.{IsTableText, IsIndexText}
use Rattle.geo_script.specs.declared.event.Event.{Event}
use Rattle.geo_script.specs.declared.event.Event.TheVariants as event
use Rattle.geo_script.specs.declared.event.Sealing.{Sealing}
use Rattle.geo_script.specs.declared.event.Sealing.TheVariants.{No, Kept, Lost}
use Rattle.geo_script.specs.declared.limits.TheConstants.{STATEMENT_BYTES, SESSIONS_PER_RUN, SEATS_PER_ROUND, LAST_ASKED_EPOCH, LAST_CRASH_EPOCH, LAST_PACKET}
use Rattle.geo_script.specs.declared.script.EventAt.{EventAt}
use Rattle.geo_script.specs.declared.script.Form.{Form}
use Rattle.geo_script.specs.declared.script.Form.TheVariants.{Play, Run}
use Rattle.geo_script.specs.declared.script.Script.{Script}
use Rattle.geo_script.specs.Lines.{lines_of, spoken_from}
use Rattle.geo_script.specs.Tables.{add_index}

-- ---- event lines

-- a session: its region, a dot, its number
abbrev pub session_text : ℕ → ℕ → List ℕ
session_text region session = decimal region ++ (codes "." ++ decimal session)

-- what stands behind the region of a crash
abbrev pub sealing_text : Sealing → List ℕ
sealing_text No = []
sealing_text Kept = codes " sealing kept"
sealing_text Lost = codes " sealing lost"

-- the event as it is typed; packets, by their first and their last one
abbrev pub event_text : Event → List ℕ
event_text (event.Sql region session text) = codes "sql " ++ (session_text region session ++ (codes " " ++ text))
event_text (event.Outcome region session) = codes "outcome " ++ session_text region session
event_text (event.Seal region) = codes "seal " ++ decimal region
event_text (event.Deliver first last) = codes "deliver " ++ (decimal first ++ (codes " " ++ decimal last))
event_text (event.Fetch region asked epoch) =
    codes "fetch " ++ (decimal region ++ (codes " " ++ (decimal asked ++ (codes " " ++ decimal epoch))))
event_text (event.Work region worker) = codes "work " ++ (decimal region ++ (codes " " ++ decimal worker))
event_text (event.Publish region) = codes "publish " ++ decimal region
event_text (event.Show region) = codes "show " ++ decimal region
event_text (event.Crash region sealing) = codes "crash " ++ (decimal region ++ sealing_text sealing)
event_text (event.Restart region) = codes "restart " ++ decimal region
event_text (event.CrashAfter region epoch) = codes "crash " ++ (decimal region ++ (codes " after " ++ decimal epoch))

-- one packet may be named once
abbrev pub IsShortened : Event → List ℕ → Type 0
IsShortened (event.Deliver first last) line = (first ≡ last) × (line ≡ codes "deliver " ++ decimal first)
IsShortened _ line = ⊥

-- the line is a way to type the event
abbrev pub Types : List ℕ → Event → Type 0
Types line event = (line ≡ event_text event) ⊎ IsShortened event line

-- the event's numbers are in their ranges, for this number of regions, and its statement has a length that it may have
abbrev pub IsWithin : ℕ → Event → Type 0
IsWithin regions (event.Sql region session text) =
    (region < regions) × (session < SESSIONS_PER_REGION) × (1 ≤ length text) × (length text ≤ STATEMENT_BYTES)
IsWithin regions (event.Outcome region session) = (region < regions) × (session < SESSIONS_PER_REGION)
IsWithin regions (event.Seal region) = region < regions
IsWithin regions (event.Deliver first last) = (first ≤ last) × (last ≤ LAST_PACKET) × (last < first + PACKETS_PER_LINE)
IsWithin regions (event.Fetch region asked epoch) =
    (region < regions) × (asked < regions) × (region ≢ asked) × (1 ≤ epoch) × (epoch ≤ LAST_ASKED_EPOCH)
IsWithin regions (event.Work region worker) = (region < regions) × (worker < SEATS_PER_ROUND)
IsWithin regions (event.Publish region) = region < regions
IsWithin regions (event.Show region) = region < regions
IsWithin regions (event.Crash region sealing) = region < regions
IsWithin regions (event.Restart region) = region < regions
IsWithin regions (event.CrashAfter region epoch) = (region < regions) × (1 ≤ epoch) × (epoch ≤ LAST_CRASH_EPOCH)

-- a run has statements and crashes after epochs alone, and a play all the others
abbrev pub IsOfForm : Form → Event → Type 0
IsOfForm Play (event.CrashAfter region epoch) = ⊥
IsOfForm Play _ = Unit {0}
IsOfForm Run (event.Sql region session text) = Unit {0}
IsOfForm Run (event.CrashAfter region epoch) = Unit {0}
IsOfForm Run _ = ⊥

-- the line, which has this number, is one of the event
pub record IsEventLine (form : Form) (regions : ℕ) (line : ℕ × List ℕ) (event : EventAt) : Type 0 where
  pub number : event.line ≡ line.0
  pub utf8 : IsUtf8 line.1
  pub typed : Types line.1 event.event
  pub of_form : IsOfForm form event.event
  pub within : IsWithin regions event.event

-- one line for each event, in order
abbrev pub AreEventLines : Form → ℕ → List (ℕ × List ℕ) → List EventAt → Type 0
AreEventLines form regions [] [] = Unit {0}
AreEventLines form regions [] (event ∷ events) = ⊥
AreEventLines form regions (line ∷ lines) [] = ⊥
AreEventLines form regions (line ∷ lines) (event ∷ events) =
    IsEventLine form regions line event × AreEventLines form regions lines events

-- the session of a statement
abbrev pub sessions_of : Event → List (ℕ × ℕ)
sessions_of (event.Sql region session _) = (region, session) ∷ []
sessions_of _ = []

-- the region that a run's line crashes
abbrev pub crashed_of : Event → List ℕ
crashed_of (event.CrashAfter region _) = region ∷ []
crashed_of _ = []

-- what each of the events has, in order
abbrev pub along : {A : Type 0} → (Event → List A) → List EventAt → List A
along of [] = []
along of (first ∷ events) = of first.event ++ along of events

-- all of these are among at most 64 sessions
pub record AreFewSessions (asked : List (ℕ × ℕ)) : Type 0 where
  pub sessions : List (ℕ × ℕ)
  pub few : length sessions ≤ SESSIONS_PER_RUN
  pub all : All (Contains sessions) asked

-- a run crashes each region once at most, and has at most 64 sessions over all
abbrev pub IsLawful : Form → List EventAt → Type 0
IsLawful Play events = Unit {0}
IsLawful Run events = IsDistinct nat_eq (along crashed_of events) × AreFewSessions (along sessions_of events)

-- ---- tables and indexes

-- behind `table` and a space the line has a text that declares the table
pub record DeclaresTable (line : List ℕ) (table : TableDef) : Type 0 where
  pub text : List ℕ
  pub cut : line ≡ codes "table " ++ text
  pub spells : IsTableText text table

-- Behind `index` and a space the line has the name of the index, ` on `, and a text that declares the index on the table with this number.
pub record DeclaresIndex (tables : List TableDef) (line : List ℕ) (at : ℕ) (index : IndexDef) : Type 0 where
  pub text : List ℕ
  pub cut : line ≡ codes "index " ++ (index.name ++ (codes " on " ++ text))
  pub spells : IsIndexText tables text at index

-- the line adds a table or an index to the tables
abbrev pub Declares : List TableDef → List ℕ → List TableDef → Type 0
Declares tables line more =
    ((table : TableDef) × DeclaresTable line table × (more ≡ tables ++ table ∷ []))
    ⊎ ((at : ℕ) × (index : IndexDef) × DeclaresIndex tables line at index × (more ≡ add_index tables at index))

-- one line after another adds to the tables, and after each one they are a schema
abbrev pub AreDeclared : List TableDef → List (ℕ × List ℕ) → List TableDef → Type 0
AreDeclared tables [] all = all ≡ tables
AreDeclared tables (line ∷ lines) all =
    (more : List TableDef) × IsUtf8 line.1 × Declares tables line.1 more × IsSchema (shown_only more) × AreDeclared more lines all

-- ---- whole scripts

-- line 1
abbrev pub title : Form → List ℕ
title Play = codes "geogauss play 1"
title Run = codes "geogauss run 1"

-- the lines are those of the script
pub record IsScript (form : Form) (lines : List (List ℕ)) (script : Script) : Type 0 where
  pub body : List (List ℕ)
  pub heads : List (ℕ × List ℕ)
  pub number : ℕ
  pub tails : List (ℕ × List ℕ)
  pub tables : List TableDef
  pub cut : lines ≡ title form ∷ (codes "regions " ++ decimal script.regions) ∷ body
  pub some : 1 ≤ script.regions
  pub few : script.regions ≤ MAX_REGIONS
  pub begins : spoken_from 3 body ≡ heads ++ (number, codes "begin") ∷ tails
  pub declared : AreDeclared [] heads tables
  pub schema : script.schema ≡ shown_only tables
  pub events : AreEventLines form script.regions tails script.events
  pub lawful : IsLawful form script.events

-- the bytes are a text of the script
pub record IsScriptText (form : Form) (bytes : List ℕ) (script : Script) : Type 0 where
  pub short : length bytes ≤ SCRIPT_BYTES
  pub lines : IsScript form (lines_of bytes) script
