-- What is wrong with a line that is none of a script, where several things are: the first of them in the order in which they stand here.
use Rattle.std.specs.Prelude.{◌≡◌, ◌≢◌, ◌⊎◌, ℕ, ◌<◌, ◌≤◌, List, [], ◌∷◌, ◌++◌, length, codes, IsUtf8, Contains}
use Rattle.std.specs.Fmt.{decimal}
use Rattle.geo_base.specs.declared.limits.TheConstants.{MAX_REGIONS, SESSIONS_PER_REGION}
use Rattle.geo_schema.specs.declared.table.TableDef.{TableDef}
use Rattle.geo_schema.specs.Schemas.{IsSchema, shown_only}
use Rattle.geo_script.specs.declared.event.Event.{Event}
use Rattle.geo_script.specs.declared.event.Event.TheVariants as event
use Rattle.geo_script.specs.declared.fault.ScriptKind.{ScriptKind}
use Rattle.geo_script.specs.declared.fault.ScriptKind.TheVariants.{NotUtf8, BadHeader, BadTable, BadIndex, BadLine, BadNumber, LongStatement, TooManySessions}
use Rattle.geo_script.specs.declared.limits.TheConstants.{STATEMENT_BYTES}
use Rattle.geo_script.specs.declared.script.EventAt.{EventAt}
use Rattle.geo_script.specs.declared.script.Form.{Form}
use Rattle.geo_script.specs.declared.script.Form.TheVariants.{Play, Run}
use Rattle.geo_script.specs.Words.{IsWord}
use Rattle.geo_script.specs.EventWords.{HasWords}
use Rattle.geo_script.specs.Spelling.{title, Types, IsOfForm, IsWithin, event_text, along, sessions_of, crashed_of, AreFewSessions, Declares}

-- ---- the first two lines

-- what is wrong with line 1
abbrev pub IsWrongTitle : Form → List ℕ → ScriptKind → Type 0
IsWrongTitle form line NotUtf8 = IsUtf8 line → ⊥
IsWrongTitle form line BadHeader = IsUtf8 line × (line ≢ title form)
IsWrongTitle form line _ = ⊥

-- the line is `regions` and one more word
abbrev pub HasCount : List ℕ → Type 0
HasCount line = (word : List ℕ) × IsWord word × (line ≡ codes "regions " ++ word)

-- the line says a number of regions that there may be
abbrev pub CountsRegions : List ℕ → Type 0
CountsRegions line = (regions : ℕ) × (1 ≤ regions) × (regions ≤ MAX_REGIONS) × (line ≡ codes "regions " ++ decimal regions)

-- what is wrong with line 2
abbrev pub IsWrongCount : List ℕ → ScriptKind → Type 0
IsWrongCount line NotUtf8 = IsUtf8 line → ⊥
IsWrongCount line BadHeader = IsUtf8 line × (HasCount line → ⊥)
IsWrongCount line BadNumber = IsUtf8 line × HasCount line × (CountsRegions line → ⊥)
IsWrongCount line _ = ⊥

-- ---- lines that declare

-- the line is the word, or begins with it and a space
abbrev pub Begins : List ℕ → List ℕ → Type 0
Begins word line = (line ≡ word) ⊎ ((rest : List ℕ) × (line ≡ word ++ (codes " " ++ rest)))

-- what stands before a space and the index's name, or before a space and `on`
abbrev pub IsIndexFront : List ℕ → Type 0
IsIndexFront front = (front ≡ codes "index") ⊎ ((name : List ℕ) × IsWord name × (front ≡ codes "index " ++ name))

-- nothing, or one more space, stands where the index's name or `on` has to
abbrev pub HasEmptyWord : List ℕ → Type 0
HasEmptyWord line = (front : List ℕ) × IsIndexFront front × Begins (front ++ codes " ") line

-- the line declares a table or an index with which the tables are a schema
abbrev pub CanStand : List TableDef → List ℕ → Type 0
CanStand tables line = (more : List TableDef) × Declares tables line more × IsSchema (shown_only more)

-- what is wrong with a line before `begin`
abbrev pub IsWrongDeclaration : List TableDef → List ℕ → ScriptKind → Type 0
IsWrongDeclaration tables line NotUtf8 = IsUtf8 line → ⊥
IsWrongDeclaration tables line BadLine =
    IsUtf8 line × (((Begins (codes "table") line → ⊥) × (Begins (codes "index") line → ⊥)) ⊎ HasEmptyWord line)
IsWrongDeclaration tables line BadTable = IsUtf8 line × Begins (codes "table") line × (CanStand tables line → ⊥)
IsWrongDeclaration tables line BadIndex =
    IsUtf8 line × Begins (codes "index") line × (HasEmptyWord line → ⊥) × (CanStand tables line → ⊥)
IsWrongDeclaration tables line _ = ⊥

-- ---- lines of events

-- the event's numbers are in their ranges, however long its statement is
abbrev pub HasRightNumbers : ℕ → Event → Type 0
HasRightNumbers regions (event.Sql region session text) = (region < regions) × (session < SESSIONS_PER_REGION) × (1 ≤ length text)
HasRightNumbers regions other = IsWithin regions other

-- the line is one of an event of the form whose numbers are in their ranges
pub record SpellsNumbers (form : Form) (regions : ℕ) (line : List ℕ) : Type 0 where
  pub asked : Event
  pub typed : Types line asked
  pub of_form : IsOfForm form asked
  pub right : HasRightNumbers regions asked

-- the line crashes a region, after whatever epoch, that one of the events crashes
pub record CrashesTwice (regions : ℕ) (events : List EventAt) (line : List ℕ) : Type 0 where
  pub region : ℕ
  pub epoch : List ℕ
  pub whole : line ≡ codes "crash " ++ (decimal region ++ (codes " after " ++ epoch))
  pub word : IsWord epoch
  pub within : region < regions
  pub crashed : Contains (along crashed_of events) region

-- only in runs a region may not crash again
abbrev pub CrashesAgain : Form → ℕ → List EventAt → List ℕ → Type 0
CrashesAgain Play regions events line = ⊥
CrashesAgain Run regions events line = CrashesTwice regions events line

-- a session runs a statement that is too long
pub record IsTooLong (regions : ℕ) (line : List ℕ) : Type 0 where
  pub region : ℕ
  pub session : ℕ
  pub text : List ℕ
  pub typed : line ≡ event_text (event.Sql region session text)
  pub within : region < regions
  pub known : session < SESSIONS_PER_REGION
  pub long : STATEMENT_BYTES < length text

-- the line is a statement of a session which, beside those of the events, is one more than there may be
pub record IsOneSessionMore (regions : ℕ) (events : List EventAt) (line : List ℕ) : Type 0 where
  pub region : ℕ
  pub session : ℕ
  pub text : List ℕ
  pub typed : line ≡ event_text (event.Sql region session text)
  pub within : IsWithin regions (event.Sql region session text)
  pub more : AreFewSessions (along sessions_of events ++ (region, session) ∷ []) → ⊥

-- only in runs the sessions are counted over all
abbrev pub HasNoRoom : Form → ℕ → List EventAt → List ℕ → Type 0
HasNoRoom Play regions events line = ⊥
HasNoRoom Run regions events line = IsOneSessionMore regions events line

-- what is wrong with a line behind `begin` and the lines of these events
abbrev pub IsWrongLine : Form → ℕ → List EventAt → List ℕ → ScriptKind → Type 0
IsWrongLine form regions events line NotUtf8 = IsUtf8 line → ⊥
IsWrongLine form regions events line BadLine = IsUtf8 line × ((HasWords form line → ⊥) ⊎ CrashesAgain form regions events line)
IsWrongLine form regions events line BadNumber =
    IsUtf8 line × HasWords form line × (CrashesAgain form regions events line → ⊥) × (SpellsNumbers form regions line → ⊥)
IsWrongLine form regions events line LongStatement = IsUtf8 line × IsTooLong regions line
IsWrongLine form regions events line TooManySessions = IsUtf8 line × HasNoRoom form regions events line
IsWrongLine form regions events line _ = ⊥
