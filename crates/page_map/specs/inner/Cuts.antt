-- Inner: how a search parts a rising list of pairs at a key.
use Rattle.std.specs.Prelude.{◌≡◌, ℕ, ◌+◌, ◌<◌, ◌≤◌, Bool, true, false, List, [], ◌∷◌, ◌++◌, length, take, drop, slice_index_or}
use Rattle.std.specs.Ordering.{is_gt}
use Rattle.std.specs.List.{All, flat_map}
use Rattle.std.specs.declared.cmp.Ordering.{Ordering}
use Rattle.std.specs.declared.cmp.Ordering.TheVariants.{Less, Equal, Greater}

module _ {K V : Type 0} (order : K → K → Ordering) (key : K) where
  -- all keys are below the key
  abbrev pub AllUnder : List (K × V) → Type 0
  AllUnder pairs = All (λ pair. order pair.0 key ≡ Less) pairs

  -- all keys are above the key
  abbrev pub AllOver : List (K × V) → Type 0
  AllOver pairs = All (λ pair. order pair.0 key ≡ Greater) pairs

-- the first pairs are below the key, and the last ones above it
pub record IsCut {K V : Type 0} (order : K → K → Ordering) (key : K) (first last : List (K × V)) : Type 0 where
  pub under : AllUnder order key first
  pub over : AllOver order key last

-- the pair at the place has the key
pub record IsFoundAt {K V : Type 0} (order : K → K → Ordering) (key : K) (pairs : List (K × V)) (place : ℕ) : Type 0 where
  pub within : place < length pairs
  pub cut : IsCut order key (take place pairs) (drop (place + 1) pairs)
  pub same : (d : K × V) → order (slice_index_or pairs place d).0 key ≡ Equal

-- no pair has the key, and it would stand at the place
pub record IsGapAt {K V : Type 0} (order : K → K → Ordering) (key : K) (pairs : List (K × V)) (place : ℕ) : Type 0 where
  pub within : place ≤ length pairs
  pub cut : IsCut order key (take place pairs) (drop place pairs)

-- if the key is there, then in the chunk at the place
pub record IsInChunk {K V X : Type 0} (order : K → K → Ordering) (entries : X → List (K × V)) (key : K) (chunks : List X) (place : ℕ) : Type 0 where
  pub within : place < length chunks
  pub cut : IsCut order key (flat_map entries (take place chunks)) (flat_map entries (drop (place + 1) chunks))

-- whether the first pair is above the key
abbrev pub head_is_over : {K V : Type 0} → (K → K → Ordering) → K → List (K × V) → Bool
head_is_over order key [] = false
head_is_over order key (pair ∷ rest) = is_gt (order pair.0 key)

-- a search between two places: what has the key stands from the lower one on, and before the upper one
pub record IsSearching {K V : Type 0} (order : K → K → Ordering) (key : K) (pairs : List (K × V)) (low high : ℕ) : Type 0 where
  pub ordered : low ≤ high
  pub within : high ≤ length pairs
  pub cut : IsCut order key (take low pairs) (drop high pairs)

-- the same over chunks, where the chunk at the lower place may have it too
pub record IsNarrowing {K V X : Type 0} (order : K → K → Ordering) (entries : X → List (K × V)) (key : K) (chunks : List X) (low high : ℕ) : Type 0 where
  pub ordered : low < high
  pub within : high ≤ length chunks
  pub cut : IsCut order key (flat_map entries (take low chunks)) (flat_map entries (drop high chunks))

-- the chunk that is looked at, how many places are left from its first pair on, and how many pairs it has
pub record IsWalking {X P : Type 0} (entries : X → List P) (chunks : List X) (place chunk rest count : ℕ) : Type 0 where
  pub within : chunk < length chunks
  pub left : length (flat_map entries (take chunk chunks)) + rest ≡ place
  pub here : X
  pub read : here ≡ slice_index_or chunks chunk here
  pub counted : count ≡ length (entries here)

-- the keys of the pairs before the low place stand before the border, and those from the high place on don't
pub record IsBordered {K V : Type 0} (before : K → Bool) (pairs : List (K × V)) (low high : ℕ) : Type 0 where
  pub ordered : low ≤ high
  pub within : high ≤ length pairs
  pub front : All (λ pair. before pair.0 ≡ true) (take low pairs)
  pub rest : All (λ pair. before pair.0 ≡ false) (drop high pairs)

-- the same over chunks, where the border may lie in the chunk at the low place
pub record IsBorderedIn {K V X : Type 0} (before : K → Bool) (entries : X → List (K × V)) (chunks : List X) (low high : ℕ) : Type 0 where
  pub ordered : low < high
  pub within : high ≤ length chunks
  pub front : All (λ pair. before pair.0 ≡ true) (flat_map entries (take low chunks))
  pub rest : All (λ pair. before pair.0 ≡ false) (flat_map entries (drop high chunks))

-- what was found, and so many pairs more from a place in a chunk on, are all that is to be found
pub record IsListing {X P : Type 0} (entries : X → List P) (chunks : List X) (found all : List P) (chunk skipped left : ℕ) : Type 0 where
  pub rest : found ++ take left (drop skipped (flat_map entries (drop chunk chunks))) ≡ all
  pub inside : (d : X) → chunk < length chunks → skipped < length (entries (slice_index_or chunks chunk d))
