-- Inner: how a text is taken apart, line by line, and what is told of what stands there.
use Rattle.std.specs.Prelude.{◌≡◌, ◌≢◌, ◌⊎◌, ℕ, ◌≤◌, List, [], ◌∷◌, ◌++◌, length, slice_index, Contains, codes}
use Rattle.std.specs.Fmt.{decimal}
use Rattle.geo_base.specs.declared.limits.TheConstants.{MAX_REGIONS}
use Rattle.world_script.specs.declared.event.Event.{Event}
use Rattle.world_script.specs.Script.{IsLineOf, IsWithin, AreLinesOf, header_lines, text_of_lines}
use Rattle.world_script.specs.Fault.{IsOneLine}

-- the first such byte stands between the two parts
pub record IsCut (whole : List ℕ) (byte : ℕ) (front rest : List ℕ) : Type 0 where
  pub cut : whole ≡ front ++ (byte ∷ rest)
  pub first : ¬ (Contains front byte)

-- neither a plus nor a zero stands before a digit
abbrev pub IsPlain : List ℕ → Type 0
IsPlain bytes = (slice_index bytes 0 ≢ 43) × (slice_index bytes 0 ≡ 48 → length bytes ≡ 1)

-- the text begins with a line that isn't as wanted
pub record HasOtherLine (wanted : List ℕ → Type 0) (text : List ℕ) : Type 0 where
  pub line : List ℕ
  pub more : List ℕ
  pub cut : text ≡ line ++ (10 ∷ more)
  pub one : IsOneLine line
  pub other : ¬ (wanted line)

-- the text begins with no line that is as wanted
abbrev pub LacksWanted : (List ℕ → Type 0) → List ℕ → Type 0
LacksWanted wanted text = IsOneLine text ⊎ HasOtherLine wanted text

-- the line says that there are so many regions
abbrev pub IsRegionsLine : List ℕ → Type 0
IsRegionsLine line = (regions : ℕ) × (line ≡ codes "regions " ++ decimal regions) × (1 ≤ regions) × (regions ≤ MAX_REGIONS)

-- the text begins with the line for this number of regions
pub record HasRegions (text : List ℕ) (regions : ℕ) (rest : List ℕ) : Type 0 where
  pub some : 1 ≤ regions
  pub few : regions ≤ MAX_REGIONS
  pub cut : text ≡ (codes "regions " ++ decimal regions) ++ (10 ∷ rest)

-- the text is the header for this number of regions, and the rest
pub record HasHeader (text : List ℕ) (regions : ℕ) (rest : List ℕ) : Type 0 where
  pub some : 1 ≤ regions
  pub few : regions ≤ MAX_REGIONS
  pub cut : text ≡ text_of_lines (header_lines regions) ++ rest

-- the line asks for an event in range
abbrev pub IsEventLine : ℕ → List ℕ → Type 0
IsEventLine regions line = (event : Event) × IsLineOf event line × IsWithin regions event

-- the text is one line for each event, and the rest
pub record HasEvents (regions : ℕ) (text : List ℕ) (events : List Event) (rest : List ℕ) : Type 0 where
  pub lines : List (List ℕ)
  pub typed : AreLinesOf regions events lines
  pub cut : text ≡ text_of_lines lines ++ rest

-- behind so many event lines the text goes on with something else
pub record HasOther (regions : ℕ) (text : List ℕ) (count : ℕ) : Type 0 where
  pub events : List Event
  pub rest : List ℕ
  pub read : HasEvents regions text events rest
  pub counted : count ≡ length events
  pub more : rest ≢ []
  pub other : LacksWanted (IsEventLine regions) rest
