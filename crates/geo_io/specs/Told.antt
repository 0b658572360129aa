-- What a source has left, a sink holds and keepers keep, where they tell it.
use Rattle.std.specs.Prelude.{◌≡◌, ◌≢◌, ◌⊎◌, ℕ, ◌<◌, ◌≤◌, List, [], ◌∷◌, ◌++◌, length, Option, None, Some, ⊤, slice_set, slice_index_or}
use Rattle.std.specs.Io.KnownBytes.{Appends, Consumes}

-- for each region its list of entries, each a list of bytes
abbrev pub Lists : Type 0
Lists = List (List (List ℕ))

-- the entries of a region
abbrev pub list_of : Lists → ℕ → List (List ℕ)
list_of all region = slice_index_or all region []

-- the lists with one more entry at the end of a region's
abbrev pub with_entry : ℕ → List ℕ → Lists → Lists
with_entry region entry all = slice_set all region (list_of all region ++ entry ∷ [])

-- an entry at the end of a region's list leaves the other lists as they are
pub record EntryStandsAtTheEnd (all : Lists) (region : ℕ) (entry : List ℕ) : Type 0 where
  pub own : list_of (with_entry region entry all) region ≡ list_of all region ++ entry ∷ []
  pub others : (other : ℕ) → other ≢ region → list_of (with_entry region entry all) other ≡ list_of all other
  pub width : length (with_entry region entry all) ≡ length all

-- so it is of each region that has a list
abbrev pub AppendedEntriesStandAtTheEnd : Type 0
AppendedEntriesStandAtTheEnd = (all : Lists) (region : ℕ) (entry : List ℕ) → region < length all → EntryStandsAtTheEnd all region entry

-- the region's list got this entry
abbrev pub Gains : ℕ → List ℕ → Lists → Lists → Type 0
Gains region entry old new = new ≡ with_entry region entry old

-- nothing changed, or the region's list got this entry
abbrev pub MayGain : ℕ → List ℕ → Lists → Lists → Type 0
MayGain region entry old new = (new ≡ old) ⊎ (new ≡ with_entry region entry old)

-- what is told moved by this step, and whether anything is told didn't change
abbrev pub Moves : {A : Type 0} → (A → A → Type 0) → Option A → Option A → Type 0
Moves step None None = ⊤
Moves step None (Some y) = ⊥
Moves step (Some x) None = ⊥
Moves step (Some x) (Some y) = step x y

-- the second list begins with the first
abbrev pub IsFrontOf : List ℕ → List ℕ → Type 0
IsFrontOf front whole = (rest : List ℕ) × (front ++ rest ≡ whole)

-- what is told grew at its end by a front of these bytes
pub record AppendsFrontOf (whole : List ℕ) (old new : Option (List ℕ)) : Type 0 where
  pub gained : List ℕ
  pub front : IsFrontOf gained whole
  pub appended : Appends old new gained

-- what is told lost at most so many bytes, all at its front
pub record LosesAtMost (most : ℕ) (old new : Option (List ℕ)) : Type 0 where
  pub taken : List ℕ
  pub few : length taken ≤ most
  pub consumed : Consumes old new taken
