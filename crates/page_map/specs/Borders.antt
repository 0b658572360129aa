-- A border between keys: some keys stand before it, and the others from it on.
use Rattle.std.specs.Prelude.{◌≡◌, ℕ, Bool, false, not, ◌&&◌, List, [], ◌∷◌, length}
use Rattle.std.specs.List.{All, filter}

module _ {K V : Type 0} (before : K → Bool) where
  -- behind a key that doesn't stand before the border no key does
  abbrev pub IsBorder : List (K × V) → Type 0
  IsBorder [] = Unit {0}
  IsBorder (pair ∷ rest) = (before pair.0 ≡ false → All (λ later. before later.0 ≡ false) rest) × IsBorder rest

  -- the pairs whose keys stand before the border
  abbrev pub pairs_before : List (K × V) → List (K × V)
  pairs_before pairs = filter (λ pair. before pair.0) pairs

  -- the pairs whose keys stand from the border on
  abbrev pub pairs_from : List (K × V) → List (K × V)
  pairs_from pairs = filter (λ pair. not (before pair.0)) pairs

  -- how many keys stand before the border, which is the place of the first pair that stands from it on
  abbrev pub border_in : List (K × V) → ℕ
  border_in pairs = length (pairs_before pairs)

-- the pairs whose keys stand from the first border on, and before the last one
abbrev pub pairs_between : {K V : Type 0} → (K → Bool) → (K → Bool) → List (K × V) → List (K × V)
pairs_between first last pairs = filter (λ pair. not (first pair.0) && last pair.0) pairs
