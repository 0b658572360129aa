-- The plan of a table, and the greatest word that it has for a row.
use Rattle.std.specs.Prelude.{◌≡◌, ℕ, ◌<◌, max, List, [], ◌∷◌, All, length, slice_index_or, ◌==◌, if◌then◌else◌}

-- for each piece its pairs of a row and a claim's word
abbrev pub Pieces : Type 0
Pieces = List (List (ℕ × ℕ))

-- the pairs of a piece
abbrev pub piece_of : Pieces → ℕ → List (ℕ × ℕ)
piece_of plan piece = slice_index_or plan piece []

-- the greatest value of f on the list, or 0
abbrev pub top : {X : Type 0} → (X → ℕ) → List X → ℕ
top f [] = 0
top f (x ∷ xs) = max (f x) (top f xs)

-- the word of a pair that is on the row, or 0
abbrev pub word_on : ℕ → ℕ × ℕ → ℕ
word_on row pair = if pair.0 == row then pair.1 else 0

-- the greatest word that the pairs have for the row, or 0
abbrev pub best : ℕ → List (ℕ × ℕ) → ℕ
best row pairs = top (word_on row) pairs

-- the greatest word that the plan has for the row, or 0
abbrev pub final_of : Pieces → ℕ → ℕ
final_of plan row = top (best row) plan

-- a plan of so many pieces, whose pairs are on so many rows
pub record IsPlan (plan : Pieces) (rows pieces : ℕ) : Type 0 where
  pub counted : length plan ≡ pieces
  pub within : All (All (λ pair. pair.0 < rows)) plan
