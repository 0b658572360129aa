-- A text that is one name alone.
use Rattle.std.proofs.Common.{◌≡◌, ◌<◌, ◌==◌, ℕ, true, not, List, [], ◌∷◌, length, map, refl, ap, subst}
use Rattle.std.specs.List.{list_all}
use Rattle.std.proofs.lemmas.Bool.{and_parts, ne_eqb}
use Rattle.sql_lex.specs.declared.keyword.Keyword.{Keyword}
use Rattle.sql_lex.specs.declared.keyword.Keyword.TheVariants.{KInt, KText, KBool, KNot, KNull, KKey}
use Rattle.sql_lex.specs.declared.symbol.Symbol.{Symbol}
use Rattle.sql_lex.specs.declared.symbol.Symbol.TheVariants as symbol
use Rattle.sql_lex.specs.declared.token.Token.{Token}
use Rattle.sql_lex.specs.declared.token.TokenKind.{TokenKind}
use Rattle.sql_lex.specs.declared.token.TokenKind.TheVariants as kind
use Rattle.sql_lex.specs.Bytes.{is_in_word}
use Rattle.sql_lex.specs.Grammar.{IsWord, Spells, AreTokensOf}
use Rattle.schema_text.specs.declared.mark.Mark.TheVariants as mark
use Rattle.schema_text.specs.Marks.{keyword_mark, symbol_mark, mark_of}
use Rattle.schema_text.specs.Spelling.{HasMarks}

no_keyword : (keyword : Keyword) (name : List ℕ) → keyword_mark keyword ≡ mark.Name name → ⊥
no_keyword KInt name is = cc
no_keyword KText name is = cc
no_keyword KBool name is = cc
no_keyword KNot name is = cc
no_keyword KNull name is = cc
no_keyword KKey name is = cc
no_keyword _ name is = cc

no_symbol : (s : Symbol) (name : List ℕ) → symbol_mark s ≡ mark.Name name → ⊥
no_symbol symbol.Open name is = cc
no_symbol symbol.Close name is = cc
no_symbol symbol.Comma name is = cc
no_symbol _ name is = cc

name_kind : (token : TokenKind) (name : List ℕ) → mark_of token ≡ mark.Name name → token ≡ kind.Name name
name_kind (kind.Name other) name is = let same : other ≡ name = cc in ap kind.Name same
name_kind (kind.Keyword keyword) name is = absurd (no_keyword keyword name is)
name_kind (kind.Int value) name is = cc
name_kind (kind.Text text) name is = cc
name_kind (kind.Symbol s) name is = absurd (no_symbol s name is)

no_space : (b : ℕ) → is_in_word b ≡ true → not (b == 32) ≡ true
unfolding is_in_word
no_space b is = rw (ne_eqb b 32 (λ space. spaced (rw space at is))) refl
  where
    spaced : is_in_word 32 ≡ true → ⊥
    spaced h = cc

-- no byte is a space
abbrev LacksSpace : List ℕ → Type 0
LacksSpace bytes = list_all (λ b. not (b == 32)) bytes ≡ true

word_lacks : (bytes : List ℕ) → list_all is_in_word bytes ≡ true → LacksSpace bytes
word_lacks [] all = refl
word_lacks (b ∷ bytes) all =
    let parts = and_parts (is_in_word b) (list_all is_in_word bytes) all in rw (no_space b parts.0, word_lacks bytes parts.1) refl

-- a name that stands alone has at least one byte, and no space
pub record IsNameWord (name : List ℕ) : Type 0 where
  pub some : 0 < length name
  pub lacks : list_all (λ b. not (b == 32)) name ≡ true

of_word : (name : List ℕ) → IsWord name → IsNameWord name
of_word name word = record { some = word.some; lacks = word_lacks name word.rest }

of_token : (name text : List ℕ) (tokens : List Token) → AreTokensOf tokens text → mark.Name name ∷ [] ≡ map (λ token. mark_of token.kind) tokens → IsNameWord name
of_token name text [] are is = cc
of_token name text (token ∷ tokens) (more, begins, rest) is =
    let here : mark_of token.kind ≡ mark.Name name = cc in
    let spells : Spells (kind.Name name) begins.piece = subst (λ k. Spells k begins.piece) (name_kind token.kind name here) begins.spells in
    of_word name (subst IsWord spells.0 spells.1)

pub name_word : (name : List ℕ) → HasMarks name (mark.Name name ∷ []) → IsNameWord name
name_word name (tokens, are, is) = of_token name name tokens are is
