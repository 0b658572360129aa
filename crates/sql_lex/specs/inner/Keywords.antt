-- Inner: the table of the keywords that the code walks, and what it finds for a word.
use Rattle.std.specs.Prelude.{ℕ, List, [], ◌∷◌, map, if◌then◌else◌, Option, Some, None}
use Rattle.std.specs.Str.{str_eq_ignore_ascii_case}
use Rattle.sql_lex.specs.declared.keyword.Keyword.{Keyword}
use Rattle.sql_lex.specs.declared.keyword.Keyword.TheVariants.{KSelect, KInsert, KInto, KValues, KUpdate, KSet, KDelete, KFrom, KWhere, KJoin, KOn, KGroup, KBy, KOrder, KAsc, KDesc, KLimit, KAs, KBegin, KOf, KEpoch, KCommit, KRollback, KExplain, KAnd, KOr, KNot, KIs, KNull, KTrue, KFalse, KCount, KSum, KMin, KMax, KInt, KText, KBool, KKey, KFor, KUnique}
use Rattle.sql_lex.specs.Keywords.{capitals}

-- every keyword
abbrev pub every_keyword : List Keyword
every_keyword =
    KSelect ∷ KInsert ∷ KInto ∷ KValues ∷ KUpdate ∷ KSet ∷ KDelete ∷ KFrom ∷ KWhere ∷
    KJoin ∷ KOn ∷ KGroup ∷ KBy ∷ KOrder ∷ KAsc ∷ KDesc ∷ KLimit ∷ KAs ∷
    KBegin ∷ KOf ∷ KEpoch ∷ KCommit ∷ KRollback ∷ KExplain ∷ KAnd ∷ KOr ∷ KNot ∷
    KIs ∷ KNull ∷ KTrue ∷ KFalse ∷ KCount ∷ KSum ∷ KMin ∷ KMax ∷ KInt ∷
    KText ∷ KBool ∷ KKey ∷ KFor ∷ KUnique ∷ []

-- each keyword with its word in capitals
unfoldable pub keywords : List (List ℕ × Keyword)
keywords = map (λ keyword. (capitals keyword, keyword)) every_keyword

-- the keyword of the table that the word is, in any mix of case
abbrev pub lookup : List (List ℕ × Keyword) → List ℕ → Option Keyword
lookup [] word = None
lookup (entry ∷ table) word = if str_eq_ignore_ascii_case entry.0 word then Some entry.1 else lookup table word

-- the keyword that the word is, in any mix of case
unfoldable pub keyword_of : List ℕ → Option Keyword
keyword_of word = lookup keywords word
