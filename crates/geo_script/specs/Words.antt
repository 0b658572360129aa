-- What a word of a line is.
use Rattle.std.specs.Prelude.{◌≡◌, ℕ, Bool, true, ◌&&◌, not, ◌==◌, List, length}
use Rattle.std.specs.List.{list_all}

-- a word has at least one byte, and no space among them
unfoldable pub is_word : List ℕ → Bool
is_word bytes = not (length bytes == 0) && list_all (λ b. not (b == 32)) bytes

-- the bytes are a word
abbrev pub IsWord : List ℕ → Type 0
IsWord bytes = is_word bytes ≡ true
