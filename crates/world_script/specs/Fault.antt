-- The first bad line of a text that is no script.
use Rattle.std.specs.Prelude.{◌≡◌, ◌≢◌, ◌⊎◌, ℕ, zero, suc, ◌+◌, ◌<◌, ◌≤◌, List, [], ◌∷◌, ◌++◌, length, Contains, codes}
use Rattle.std.specs.Fmt.{decimal}
use Rattle.geo_base.specs.declared.limits.TheConstants.{MAX_REGIONS, SCRIPT_BYTES}
use Rattle.world_script.specs.declared.event.Event.{Event}
use Rattle.world_script.specs.declared.script.ScriptFault.{ScriptFault}
use Rattle.world_script.specs.declared.script.ScriptKind.TheVariants.{TooLong, NotBuilt}
use Rattle.world_script.specs.Script.{IsLineOf, IsWithin, text_of_lines}

-- the line may stand at this place, counted from 0, of a script for this number of regions
abbrev pub IsGoodLine : ℕ → ℕ → List ℕ → Type 0
IsGoodLine regions zero line = line ≡ codes "geogauss play 1"
IsGoodLine regions (suc zero) line = (line ≡ codes "regions " ++ decimal regions) × (1 ≤ regions) × (regions ≤ MAX_REGIONS)
IsGoodLine regions (suc (suc zero)) line = line ≡ codes "table kv (k INT KEY, v INT)"
IsGoodLine regions (suc (suc (suc zero))) line = line ≡ codes "begin"
IsGoodLine regions (suc (suc (suc (suc _)))) line = (event : Event) × IsLineOf event line × IsWithin regions event

-- each line may stand at its place, the first of them at the given one
abbrev pub AreGoodLines : ℕ → ℕ → List (List ℕ) → Type 0
AreGoodLines regions place [] = Unit {0}
AreGoodLines regions place (line ∷ lines) = IsGoodLine regions place line × AreGoodLines regions (suc place) lines

-- the lines begin a script for some number of regions
abbrev pub BeginsScript : List (List ℕ) → Type 0
BeginsScript lines = (regions : ℕ) × AreGoodLines regions zero lines

-- no line feed is among the bytes
abbrev pub IsOneLine : List ℕ → Type 0
IsOneLine bytes = ¬ (Contains bytes 10)

-- the next line isn't there: the bytes end before the header does, or in a line without its line feed
abbrev pub LacksLine : List (List ℕ) → List ℕ → Type 0
LacksLine before rest = ((rest ≡ []) × (length before < 4)) ⊎ ((rest ≢ []) × IsOneLine rest)

-- the next line is there, and behind the lines before it it begins no script
pub record HasBadLine (before : List (List ℕ)) (rest : List ℕ) : Type 0 where
  pub line : List ℕ
  pub more : List ℕ
  pub cut : rest ≡ line ++ (10 ∷ more)
  pub one : IsOneLine line
  pub wrong : ¬ (BeginsScript (before ++ line ∷ []))

-- the line of this number, counted from 1, is the first that is bad or missing
pub record IsFirstBad (bytes : List ℕ) (number : ℕ) : Type 0 where
  pub before : List (List ℕ)
  pub rest : List ℕ
  pub cut : bytes ≡ text_of_lines before ++ rest
  pub good : BeginsScript before
  pub count : number ≡ length before + 1
  pub bad : LacksLine before rest ⊎ HasBadLine before rest

-- the bytes are more than a script may have; or they aren't, and their first bad line is this one
abbrev pub IsFault : List ℕ → ScriptFault → Type 0
IsFault bytes fault =
    ((fault.kind ≡ TooLong) × (fault.line ≡ 0) × (SCRIPT_BYTES < length bytes))
    ⊎ ((fault.kind ≡ NotBuilt) × (length bytes ≤ SCRIPT_BYTES) × IsFirstBad bytes fault.line)
