-- The kinds of byte that tokens are made of.
use Rattle.std.specs.Prelude.{ℕ, Bool, ◌||◌, ◌==◌}
use Rattle.std.specs.Char.{is_ascii_alphabetic, is_ascii_alphanumeric}

-- a space or a tab
unfoldable pub is_blank : ℕ → Bool
is_blank b = b == 32 || b == 9

-- an ASCII letter or `_`
unfoldable pub begins_word : ℕ → Bool
begins_word b = is_ascii_alphabetic b || b == 95

-- an ASCII letter, a digit or `_`
unfoldable pub is_in_word : ℕ → Bool
is_in_word b = is_ascii_alphanumeric b || b == 95
