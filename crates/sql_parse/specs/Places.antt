-- The tokens of a text without their places, and the places of tokens in a text.
use Rattle.std.specs.Prelude.{ℕ, ◌-◌, List, [], ◌∷◌, length, map, drop}
use Rattle.sql_lex.specs.declared.token.Token.{Token}
use Rattle.sql_lex.specs.declared.token.TokenKind.{TokenKind}

-- the kinds of tokens, which the grammar speaks of
abbrev pub kinds_of : List Token → List TokenKind
kinds_of tokens = map (λ t. t.kind) tokens

-- the place of the first token, and the text's end where there is none
abbrev pub first_place : ℕ → List Token → ℕ
first_place end [] = end
first_place end (token ∷ more) = token.from

-- the place of the token from which on so many are left, and the text's end where none is
abbrev pub place_of : ℕ → List Token → ℕ → ℕ
place_of end tokens left = first_place end (drop (length tokens - left) tokens)
