-- What spells each token that a canonical text has.
use Rattle.std.proofs.Common.{◌≡◌, ◌<◌, ◌≤◌, ◌^◌, ◌&&◌, nat_lt, nat_le, ℕ, pos, Bool, true, false, List, [], ◌∷◌, length, get_or, refl, sym, arith, codes}
use Rattle.std.proofs.lemmas.Bool.Decides.{nat_tests}
use Rattle.std.proofs.lemmas.Fmt.{decimal_is_IsNumeral, decimal_nonempty}
use Rattle.std.specs.Char.{is_ascii_digit, digit_value}
use Rattle.std.specs.Fmt.{decimal}
use Rattle.std.specs.List.{list_all}
use Rattle.std.specs.Str.{str_eq_ignore_ascii_case}
use Rattle.std.specs.Str.Parse.{AllDigits}
use Rattle.geo_base.specs.declared.limits.TheConstants.{MAX_TEXT_BYTES, MAX_NAME_BYTES}
use Rattle.geo_base.specs.Texts.{quoted}
use Rattle.sql_ast.specs.declared.ast.AstOp.{AstOp}
use Rattle.sql_ast.specs.declared.ast.AstOp.TheVariants as op
use Rattle.sql_ast.specs.Printing.{operator_text}
use Rattle.sql_lex.specs.declared.keyword.Keyword.{Keyword}
use Rattle.sql_lex.specs.declared.keyword.Keyword.TheVariants.{KSelect, KInsert, KInto, KValues, KUpdate, KSet, KDelete, KFrom, KWhere, KJoin, KOn, KGroup, KBy, KOrder, KAsc, KDesc, KLimit, KAs, KBegin, KOf, KEpoch, KCommit, KRollback, KExplain, KAnd, KOr, KNot, KIs, KNull, KTrue, KFalse, KCount, KSum, KMin, KMax, KInt, KText, KBool, KKey, KFor, KUnique}
use Rattle.sql_lex.specs.declared.symbol.Symbol.TheVariants as symbol
use Rattle.sql_lex.specs.declared.token.TokenKind.TheVariants as kind
use Rattle.sql_lex.specs.Bytes.{begins_word, is_in_word}
use Rattle.sql_lex.specs.Keywords.{capitals}
use Rattle.sql_lex.specs.Grammar.{IsNumeral, Spells}
use Rattle.sql_parse.specs.Kinds.{operator_kind}
use Rattle.sql_parse.specs.Trees.{Role, mark}
use Rattle.sql_parse.proofs.PrintedPieces.{Prints, token}

-- ---- keywords

parts : (a b : Bool) → (a && b) ≡ true → (a ≡ true) × (b ≡ true)
parts true b h = (refl, h)
parts false b h = cc

-- the bytes are a word that is the same as itself in any mix of case
abbrev is_word : List ℕ → Bool
is_word word =
    nat_lt 0 (length word) && (nat_le (length word) MAX_NAME_BYTES && (begins_word (get_or word 0 0) && (list_all is_in_word word && str_eq_ignore_ascii_case word word)))

word_spelled : (k : Keyword) → is_word (capitals k) ≡ true → Spells (kind.Keyword k) (capitals k)
word_spelled k tests =
    let some = parts (nat_lt 0 (length (capitals k))) _ tests in
    let few = parts (nat_le (length (capitals k)) MAX_NAME_BYTES) _ some.1 in
    let first = parts (begins_word (get_or (capitals k) 0 0)) _ few.1 in
    let rest = parts (list_all is_in_word (capitals k)) _ first.1 in
    (record { some = grind (arith, nat_tests, some.0); few = grind (arith, nat_tests, few.0); first = first.0; rest = rest.0 }, rest.1)

keyword_spelled : (k : Keyword) → Spells (kind.Keyword k) (capitals k)
unfolding begins_word is_in_word
keyword_spelled KSelect = word_spelled KSelect refl
keyword_spelled KInsert = word_spelled KInsert refl
keyword_spelled KInto = word_spelled KInto refl
keyword_spelled KValues = word_spelled KValues refl
keyword_spelled KUpdate = word_spelled KUpdate refl
keyword_spelled KSet = word_spelled KSet refl
keyword_spelled KDelete = word_spelled KDelete refl
keyword_spelled KFrom = word_spelled KFrom refl
keyword_spelled KWhere = word_spelled KWhere refl
keyword_spelled KJoin = word_spelled KJoin refl
keyword_spelled KOn = word_spelled KOn refl
keyword_spelled KGroup = word_spelled KGroup refl
keyword_spelled KBy = word_spelled KBy refl
keyword_spelled KOrder = word_spelled KOrder refl
keyword_spelled KAsc = word_spelled KAsc refl
keyword_spelled KDesc = word_spelled KDesc refl
keyword_spelled KLimit = word_spelled KLimit refl
keyword_spelled KAs = word_spelled KAs refl
keyword_spelled KBegin = word_spelled KBegin refl
keyword_spelled KOf = word_spelled KOf refl
keyword_spelled KEpoch = word_spelled KEpoch refl
keyword_spelled KCommit = word_spelled KCommit refl
keyword_spelled KRollback = word_spelled KRollback refl
keyword_spelled KExplain = word_spelled KExplain refl
keyword_spelled KAnd = word_spelled KAnd refl
keyword_spelled KOr = word_spelled KOr refl
keyword_spelled KNot = word_spelled KNot refl
keyword_spelled KIs = word_spelled KIs refl
keyword_spelled KNull = word_spelled KNull refl
keyword_spelled KTrue = word_spelled KTrue refl
keyword_spelled KFalse = word_spelled KFalse refl
keyword_spelled KCount = word_spelled KCount refl
keyword_spelled KSum = word_spelled KSum refl
keyword_spelled KMin = word_spelled KMin refl
keyword_spelled KMax = word_spelled KMax refl
keyword_spelled KInt = word_spelled KInt refl
keyword_spelled KText = word_spelled KText refl
keyword_spelled KBool = word_spelled KBool refl
keyword_spelled KKey = word_spelled KKey refl
keyword_spelled KFor = word_spelled KFor refl
keyword_spelled KUnique = word_spelled KUnique refl

pub keyword : (role : Role) (k : Keyword) → Prints (mark role (kind.Keyword k) ∷ []) (capitals k)
keyword role k = token role (kind.Keyword k) (capitals k) (keyword_spelled k)

-- ---- operators

pub operator : (role : Role) (o : AstOp) → Prints (mark role (operator_kind o) ∷ []) (operator_text o)
operator role op.Plus = token role (kind.Symbol symbol.Plus) (codes "+") refl
operator role op.Minus = token role (kind.Symbol symbol.Minus) (codes "-") refl
operator role op.Times = token role (kind.Symbol symbol.Star) (codes "*") refl
operator role op.Divide = token role (kind.Symbol symbol.Slash) (codes "/") refl
operator role op.Equal = token role (kind.Symbol symbol.Equal) (codes "=") refl
operator role op.Differ = token role (kind.Symbol symbol.Differ) (codes "<>") refl
operator role op.Less = token role (kind.Symbol symbol.Less) (codes "<") refl
operator role op.LessEqual = token role (kind.Symbol symbol.LessEqual) (codes "<=") refl
operator role op.More = token role (kind.Symbol symbol.More) (codes ">") refl
operator role op.MoreEqual = token role (kind.Symbol symbol.MoreEqual) (codes ">=") refl
operator role op.And = keyword role KAnd
operator role op.Or = keyword role KOr

-- ---- numbers

ascii_digits : (bs : List ℕ) → AllDigits 10 bs → list_all is_ascii_digit bs ≡ true
ascii_digits [] all = refl
ascii_digits (b ∷ bs) all = rw (by b all.0) (ascii_digits bs all.1)
  where
    by : (b : ℕ) → digit_value b < 10 → is_ascii_digit b ≡ true
    by b below = grind (arith, nat_tests)

pub numeral : (n : ℕ) → n < 2 ^ 63 → IsNumeral n (decimal n)
numeral n fits =
    let below : n < 2 ^ 64 = omega arith in
    let is = decimal_is_IsNumeral n below in
    record { some = decimal_nonempty n below; digits = ascii_digits (decimal n) is.0.1; writes = sym is.1; fits = fits }

pub number : (role : Role) (n : ℕ) → n < 2 ^ 63 → Prints (mark role (kind.Int (pos n)) ∷ []) (decimal n)
number role n fits = token role (kind.Int (pos n)) (decimal n) (n, refl, numeral n fits)

-- ---- texts

pub text_in_quotes : (role : Role) (text : List ℕ) → length text ≤ MAX_TEXT_BYTES → Prints (mark role (kind.Text text) ∷ []) (quoted text)
text_in_quotes role text few = token role (kind.Text text) (quoted text) (refl, few)
