-- The lines of a text, and which of them say something.
use Rattle.std.specs.Prelude.{ℕ, ◌+◌, ◌-◌, Bool, ◌&&◌, ◌||◌, ◌==◌, if◌then◌else◌, List, [], ◌∷◌, length, map, take, slice_index}
use Rattle.std.specs.List.{slice_split}
use Rattle.std.specs.Str.{is_utf8}

-- the piece without the carriage return at its end, if it has one there
abbrev pub without_return : List ℕ → List ℕ
without_return piece = if slice_index piece (length piece - 1) == 13 then take (length piece - 1) piece else piece

-- all pieces, but the last one where it is empty
abbrev pub without_empty_end : List (List ℕ) → List (List ℕ)
without_empty_end [] = []
without_empty_end (piece ∷ []) = if length piece == 0 then [] else piece ∷ []
without_empty_end (piece ∷ next ∷ pieces) = piece ∷ without_empty_end (next ∷ pieces)

-- The lines of a text end at line feeds. A carriage return before a line feed or before the end is no part of a line, and a last
-- piece with nothing in it is no line.
unfoldable pub lines_of : List ℕ → List (List ℕ)
lines_of bytes = without_empty_end (map without_return (slice_split (λ b. b == 10) bytes))

-- a line that says nothing: it is empty, or a comment, which is a text that begins with `#`
unfoldable pub is_silent : List ℕ → Bool
is_silent line = length line == 0 || (slice_index line 0 == 35 && is_utf8 line)

-- the lines that say something, each with its number, where the first has the given one
abbrev pub spoken_from : ℕ → List (List ℕ) → List (ℕ × List ℕ)
spoken_from number [] = []
spoken_from number (line ∷ lines) =
    if is_silent line then spoken_from (number + 1) lines else (number, line) ∷ spoken_from (number + 1) lines
