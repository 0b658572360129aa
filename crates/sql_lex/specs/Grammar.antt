-- What spells a token, and what a text is that is cut into tokens.
use Rattle.std.specs.Prelude.{◌≡◌, ◌≢◌, ◌<◌, ◌≤◌, ◌⊎◌, ◌^◌, ◌+◌, ℕ, true, false, List, [], ◌∷◌, ◌++◌, length, slice_index, slice_range, pos}
use Rattle.std.specs.Char.{is_ascii_digit}
use Rattle.std.specs.List.{list_all}
use Rattle.std.specs.Str.Parse.{digits_value}
use Rattle.geo_base.specs.declared.limits.TheConstants.{MAX_TEXT_BYTES, MAX_NAME_BYTES}
use Rattle.geo_base.specs.Texts.{doubled}
use Rattle.sql_lex.specs.declared.keyword.Keyword.{Keyword}
use Rattle.sql_lex.specs.declared.symbol.Symbol.{Symbol}
use Rattle.sql_lex.specs.declared.symbol.Symbol.TheVariants as symbol
use Rattle.sql_lex.specs.declared.token.LexFault.{LexFault}
use Rattle.sql_lex.specs.declared.token.LexFault.TheVariants as fault
use Rattle.sql_lex.specs.declared.token.Token.{Token}
use Rattle.sql_lex.specs.declared.token.TokenKind.{TokenKind}
use Rattle.sql_lex.specs.declared.token.TokenKind.TheVariants as kind
use Rattle.sql_lex.specs.Bytes.{is_blank, begins_word, is_in_word}
use Rattle.sql_lex.specs.Keywords.{IsKeyword}
use Rattle.sql_lex.specs.Symbols.{symbol_bytes}

-- ---- what spells a token

-- a letter or `_`, and then letters, digits and `_`: at most 32 in all
pub record IsWord (bytes : List ℕ) : Type 0 where
  pub some : 0 < length bytes
  pub few : length bytes ≤ MAX_NAME_BYTES
  pub first : begins_word (slice_index bytes 0) ≡ true
  pub rest : list_all is_in_word bytes ≡ true

-- digits that write this number, which is below 2 ^ 63
pub record IsNumeral (value : ℕ) (bytes : List ℕ) : Type 0 where
  pub some : 0 < length bytes
  pub digits : list_all is_ascii_digit bytes ≡ true
  pub writes : value ≡ digits_value 10 bytes
  pub fits : value < 2 ^ 63

-- the bytes spell the token
abbrev pub Spells : TokenKind → List ℕ → Type 0
Spells (kind.Name name) bytes = (bytes ≡ name) × IsWord bytes × ((k : Keyword) → IsKeyword k bytes → ⊥)
Spells (kind.Keyword k) bytes = IsWord bytes × IsKeyword k bytes
Spells (kind.Int value) bytes = (n : ℕ) × (value ≡ pos n) × IsNumeral n bytes
Spells (kind.Text content) bytes = (bytes ≡ 39 ∷ (doubled content ++ 39 ∷ [])) × (length content ≤ MAX_TEXT_BYTES)
Spells (kind.Symbol s) bytes = bytes ≡ symbol_bytes s

-- the byte would make the symbol a longer one
abbrev pub Lengthens : ℕ → Symbol → Type 0
Lengthens next symbol.Less = (next ≡ 61) ⊎ (next ≡ 62)
Lengthens next symbol.More = next ≡ 61
Lengthens next _ = ⊥

-- The token is over where these bytes begin: no token goes on with the first of them. Past the end stands a 0.
abbrev pub EndsAt : TokenKind → List ℕ → Type 0
EndsAt (kind.Name _) more = is_in_word (slice_index more 0) ≡ false
EndsAt (kind.Keyword _) more = is_in_word (slice_index more 0) ≡ false
EndsAt (kind.Int _) more = is_in_word (slice_index more 0) ≡ false
EndsAt (kind.Text _) more = slice_index more 0 ≢ 39
EndsAt (kind.Symbol s) more = Lengthens (slice_index more 0) s → ⊥

-- ---- texts that are cut into tokens

-- The text from a place on is blanks, the token and then more: its span is that of the bytes that spell it.
pub record BeginsWith (at : ℕ) (text : List ℕ) (token : Token) (more : List ℕ) : Type 0 where
  pub blanks : List ℕ
  pub piece : List ℕ
  pub whole : text ≡ blanks ++ (piece ++ more)
  pub apart : list_all is_blank blanks ≡ true
  pub spells : Spells token.kind piece
  pub ends : EndsAt token.kind more
  pub from : token.from ≡ at + length blanks
  pub to : token.to ≡ token.from + length piece

-- the text from a place on is these tokens, with nothing but blanks between them and after them, and then the rest
abbrev pub AreCutFrom : ℕ → List ℕ → List Token → List ℕ → Type 0
AreCutFrom at text [] rest = (blanks : List ℕ) × (text ≡ blanks ++ rest) × (list_all is_blank blanks ≡ true)
AreCutFrom at text (token ∷ tokens) rest = (more : List ℕ) × BeginsWith at text token more × AreCutFrom token.to more tokens rest

-- the text is these tokens, with nothing but blanks beside them
abbrev pub AreTokensOf : List Token → List ℕ → Type 0
AreTokensOf tokens text = AreCutFrom 0 text tokens []

-- The tokens lie one after another from a place on, and the bytes of the text from a token's first place up to its last spell it.
abbrev pub AreSlicesFrom : ℕ → List ℕ → List Token → Type 0
AreSlicesFrom at text [] = at ≤ length text
AreSlicesFrom at text (token ∷ tokens) =
    (at ≤ token.from) × (token.from < token.to) × Spells token.kind (slice_range text token.from token.to) × AreSlicesFrom token.to text tokens

-- no token and no blank begins here, and something does
pub record NoTokenBegins (rest : List ℕ) : Type 0 where
  pub some : 0 < length rest
  pub no_blank : is_blank (slice_index rest 0) ≡ false
  pub no_token : (kind : TokenKind) (piece more : List ℕ) → rest ≡ piece ++ more → Spells kind piece → EndsAt kind more → ⊥

-- the text is tokens up to a place, and there no token begins
pub record StopsAt (text : List ℕ) (at : ℕ) : Type 0 where
  pub tokens : List Token
  pub rest : List ℕ
  pub cut : AreCutFrom 0 text tokens rest
  pub place : at + length rest ≡ length text
  pub none : NoTokenBegins rest

-- the text has the fault: it stops at the fault's place
abbrev pub IsLexFault : List ℕ → LexFault → Type 0
IsLexFault text (fault.BadText at) = StopsAt text at
IsLexFault text fault.NoMemory = ⊥
