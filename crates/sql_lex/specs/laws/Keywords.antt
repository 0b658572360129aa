-- Laws: the table of the keywords finds the words that are keywords, and no others.
use Rattle.std.proofs.Common.{◌≡◌, ℕ, Bool, true, false, cond, List, [], ◌∷◌, map, Some, None, refl, sym, subst, ◌∙◌}
use Rattle.std.proofs.lemmas.Slice.Eq.{bytes_eq-Decides}
use Rattle.std.specs.Prelude.{◌↔◌}
use Rattle.std.specs.Str.{str_eq_ignore_ascii_case, str_to_ascii_lowercase, bytes_eq}
use Rattle.sql_lex.specs.declared.keyword.Keyword.{Keyword}
use Rattle.sql_lex.specs.declared.keyword.Keyword.TheVariants.{KSelect, KInsert, KInto, KValues, KUpdate, KSet, KDelete, KFrom, KWhere, KJoin, KOn, KGroup, KBy, KOrder, KAsc, KDesc, KLimit, KAs, KBegin, KOf, KEpoch, KCommit, KRollback, KExplain, KAnd, KOr, KNot, KIs, KNull, KTrue, KFalse, KCount, KSum, KMin, KMax, KInt, KText, KBool, KKey, KFor, KUnique}
use Rattle.sql_lex.specs.Keywords.{capitals, IsKeyword}
use Rattle.sql_lex.specs.inner.Keywords.{every_keyword, keywords, lookup, keyword_of}

-- what is found among some keywords is a keyword that the word is
found_among : (word : List ℕ) (some : List Keyword) (k : Keyword) → lookup (map (λ keyword. (capitals keyword, keyword)) some) word ≡ Some k → IsKeyword k word
found_among word [] k e = cc
found_among word (first ∷ some) k e = by (str_eq_ignore_ascii_case (capitals first) word) refl e (found_among word some k)
  where
    by : (v : Bool) → str_eq_ignore_ascii_case (capitals first) word ≡ v → cond v (Some first) (lookup (map (λ keyword. (capitals keyword, keyword)) some) word) ≡ Some k
        → (lookup (map (λ keyword. (capitals keyword, keyword)) some) word ≡ Some k → IsKeyword k word) → IsKeyword k word
    by true is found more = let k-is : first ≡ k = cc in subst (λ keyword. IsKeyword keyword word) k-is is
    by false is found more = more found

pub keyword_found : (word : List ℕ) (k : Keyword) → keyword_of word ≡ Some k → IsKeyword k word
unfolding keyword_of keywords
keyword_found word k e = found_among word every_keyword k e

-- each keyword is what its own capitals are looked up as
own : (k : Keyword) → keyword_of (capitals k) ≡ Some k
unfolding keyword_of keywords
own KSelect = refl
own KInsert = refl
own KInto = refl
own KValues = refl
own KUpdate = refl
own KSet = refl
own KDelete = refl
own KFrom = refl
own KWhere = refl
own KJoin = refl
own KOn = refl
own KGroup = refl
own KBy = refl
own KOrder = refl
own KAsc = refl
own KDesc = refl
own KLimit = refl
own KAs = refl
own KBegin = refl
own KOf = refl
own KEpoch = refl
own KCommit = refl
own KRollback = refl
own KExplain = refl
own KAnd = refl
own KOr = refl
own KNot = refl
own KIs = refl
own KNull = refl
own KTrue = refl
own KFalse = refl
own KCount = refl
own KSum = refl
own KMin = refl
own KMax = refl
own KInt = refl
own KText = refl
own KBool = refl
own KKey = refl
own KFor = refl
own KUnique = refl

-- words that differ in case alone are one keyword
same_lookup : (table : List (List ℕ × Keyword)) (a b : List ℕ) → str_to_ascii_lowercase a ≡ str_to_ascii_lowercase b → lookup table a ≡ lookup table b
same_lookup [] a b e = refl
same_lookup (entry ∷ table) a b e = λ i. cond (bytes_eq (str_to_ascii_lowercase entry.0) (e i)) (Some entry.1) (same_lookup table a b e i)

same_keyword : (a b : List ℕ) → str_to_ascii_lowercase a ≡ str_to_ascii_lowercase b → keyword_of a ≡ keyword_of b
unfolding keyword_of
same_keyword a b e = same_lookup keywords a b e

pub keyword_is : (word : List ℕ) (k : Keyword) → IsKeyword k word → keyword_of word ≡ Some k
keyword_is word k is =
    let lower : str_to_ascii_lowercase (capitals k) ≡ str_to_ascii_lowercase word = (bytes_eq-Decides (str_to_ascii_lowercase (capitals k)) (str_to_ascii_lowercase word)).0 is in
    same_keyword word (capitals k) (sym lower) ∙ own k

pub no_keyword_found : (word : List ℕ) (k : Keyword) → keyword_of word ≡ None → IsKeyword k word → ⊥
no_keyword_found word k e is = let found : keyword_of word ≡ Some k = keyword_is word k is in cc

pub keyword_of_is : (word : List ℕ) (k : Keyword) → (keyword_of word ≡ Some k) ↔ IsKeyword k word
keyword_of_is word k = (keyword_found word k, keyword_is word k)
