-- The first bad line of a text that is no script.
use Rattle.std.specs.Prelude.{◌≡◌, ◌≢◌, ◌⊎◌, ℕ, ◌+◌, ◌<◌, ◌≤◌, false, List, [], ◌∷◌, ◌++◌, length, codes}
use Rattle.std.specs.Fmt.{decimal}
use Rattle.geo_base.specs.declared.limits.TheConstants.{MAX_REGIONS, SCRIPT_BYTES}
use Rattle.geo_schema.specs.declared.table.TableDef.{TableDef}
use Rattle.geo_script.specs.declared.fault.ScriptRefusal.{ScriptRefusal}
use Rattle.geo_script.specs.declared.fault.ScriptRefusal.TheVariants as refusal
use Rattle.geo_script.specs.declared.fault.ScriptFault.{ScriptFault}
use Rattle.geo_script.specs.declared.fault.ScriptKind.{ScriptKind}
use Rattle.geo_script.specs.declared.fault.ScriptKind.TheVariants.{TooLong, BadHeader, MissingBegin}
use Rattle.geo_script.specs.declared.script.EventAt.{EventAt}
use Rattle.geo_script.specs.declared.script.Form.{Form}
use Rattle.geo_script.specs.declared.script.Script.{Script}
use Rattle.geo_script.specs.Lines.{lines_of, is_silent, spoken_from}
use Rattle.geo_script.specs.Spelling.{AreDeclared, AreEventLines, IsLawful, IsScript}
use Rattle.geo_script.specs.Wrongs.{IsWrongTitle, IsWrongCount, IsWrongDeclaration, IsWrongLine}

-- the lines begin a script: with some lines behind them they are one
abbrev pub BeginsScript : Form → List (List ℕ) → Type 0
BeginsScript form before = (more : List (List ℕ)) × (script : Script) × IsScript form (before ++ more) script

-- ---- what is wrong with a line

-- behind lines that declare tables alone, the line says something, isn't `begin`, and has this kind of fault
pub record IsWrongHead (body : List (List ℕ)) (line : List ℕ) (kind : ScriptKind) : Type 0 where
  pub tables : List TableDef
  pub declared : AreDeclared [] (spoken_from 3 body) tables
  pub speaks : is_silent line ≡ false
  pub no_begin : line ≢ codes "begin"
  pub wrong : IsWrongDeclaration tables line kind

-- behind a whole head and the lines of some events, the line says something, and has this kind of fault
pub record IsWrongEvent (form : Form) (second : List ℕ) (body : List (List ℕ)) (line : List ℕ) (kind : ScriptKind) : Type 0 where
  pub regions : ℕ
  pub heads : List (ℕ × List ℕ)
  pub number : ℕ
  pub tails : List (ℕ × List ℕ)
  pub tables : List TableDef
  pub events : List EventAt
  pub count : second ≡ codes "regions " ++ decimal regions
  pub some : 1 ≤ regions
  pub few : regions ≤ MAX_REGIONS
  pub begins : spoken_from 3 body ≡ heads ++ (number, codes "begin") ∷ tails
  pub declared : AreDeclared [] heads tables
  pub typed : AreEventLines form regions tails events
  pub lawful : IsLawful form events
  pub speaks : is_silent line ≡ false
  pub wrong : IsWrongLine form regions events line kind

-- behind these lines, which begin a script, the line has this kind of fault
abbrev pub IsWrong : Form → List (List ℕ) → List ℕ → ScriptKind → Type 0
IsWrong form [] line kind = IsWrongTitle form line kind
IsWrong form (first ∷ []) line kind = IsWrongCount line kind
IsWrong form (first ∷ second ∷ body) line kind = IsWrongHead body line kind ⊎ IsWrongEvent form second body line kind

-- ---- which line is at fault

-- the fault of a line that isn't there
abbrev pub lacking : List (List ℕ) → ScriptKind
lacking [] = BadHeader
lacking (first ∷ []) = BadHeader
lacking (first ∷ second ∷ body) = MissingBegin

-- the lines begin a script and are none: the line behind them is at fault
pub record LacksLine (form : Form) (lines : List (List ℕ)) (fault : ScriptFault) : Type 0 where
  pub begins : BeginsScript form lines
  pub none : (script : Script) → IsScript form lines script → ⊥
  pub line : fault.line ≡ length lines + 1
  pub kind : fault.kind ≡ lacking lines

-- the lines before one begin a script, and with it they begin none
pub record HasBadLine (form : Form) (lines : List (List ℕ)) (fault : ScriptFault) : Type 0 where
  pub before : List (List ℕ)
  pub line : List ℕ
  pub more : List (List ℕ)
  pub cut : lines ≡ before ++ line ∷ more
  pub begins : BeginsScript form before
  pub ends : BeginsScript form (before ++ line ∷ []) → ⊥
  pub number : fault.line ≡ length before + 1
  pub wrong : IsWrong form before line fault.kind

-- the bytes are more than a script may have; or they aren't, and this is the first line that is bad or missing
abbrev pub IsFault : Form → List ℕ → ScriptFault → Type 0
IsFault form bytes fault =
    ((SCRIPT_BYTES < length bytes) × (fault.line ≡ 0) × (fault.kind ≡ TooLong))
    ⊎ ((length bytes ≤ SCRIPT_BYTES) × (LacksLine form (lines_of bytes) fault ⊎ HasBadLine form (lines_of bytes) fault))

-- why no script was read: the text's fault, or want of memory
abbrev pub IsRefusal : Form → List ℕ → ScriptRefusal → Type 0
IsRefusal form bytes refusal.NoMemory = Unit {0}
IsRefusal form bytes (refusal.Script fault) = IsFault form bytes fault
