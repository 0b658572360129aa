-- A map is the list of its pairs of a key and a value, in the order of the keys.
use Rattle.std.specs.Prelude.{◌≡◌, ℕ, ◌++◌, List, [], ◌∷◌, length, Option, Some, None, if◌then◌else◌}
use Rattle.std.specs.List.{All, filter}
use Rattle.std.specs.Ordering.{is_lt, is_eq, is_gt}
use Rattle.std.specs.declared.cmp.Ordering.{Ordering}
use Rattle.std.specs.declared.cmp.Ordering.TheVariants.{Less}

module _ {K V : Type 0} (order : K → K → Ordering) where
  -- the keys rise, and no key comes twice
  abbrev pub IsRising : List (K × V) → Type 0
  IsRising [] = Unit {0}
  IsRising (pair ∷ rest) = All (λ later. order pair.0 later.0 ≡ Less) rest × IsRising rest

  -- the pairs whose keys are below the key
  abbrev pub below : K → List (K × V) → List (K × V)
  below key pairs = filter (λ pair. is_lt (order pair.0 key)) pairs

  -- the pairs whose keys are above the key
  abbrev pub above : K → List (K × V) → List (K × V)
  above key pairs = filter (λ pair. is_gt (order pair.0 key)) pairs

  -- the value at the key
  abbrev pub found_at : K → List (K × V) → Option V
  found_at key [] = None
  found_at key (pair ∷ rest) = if is_eq (order pair.0 key) then Some pair.1 else found_at key rest

  -- the pairs with the value at the key, and at each other key what was there
  abbrev pub put_in : K → V → List (K × V) → List (K × V)
  put_in key value pairs = below key pairs ++ ((key, value) ∷ above key pairs)

  -- the pairs but that of the key
  abbrev pub without : K → List (K × V) → List (K × V)
  without key pairs = below key pairs ++ above key pairs

  -- the number of keys below the key
  abbrev pub place_in : K → List (K × V) → ℕ
  place_in key pairs = length (below key pairs)
