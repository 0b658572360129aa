-- The readers of names, numbers, columns and tables.
use Rattle.std.proofs.Common.{◌≡◌, ℕ, pos, List, [], ◌∷◌, ◌++◌, Bool, Option, Some, None, option_map, refl, sym}
use Rattle.sql_ast.specs.declared.ast.ColRef.{ColRef}
use Rattle.sql_ast.specs.declared.select.TableRef.{TableRef}
use Rattle.sql_lex.specs.declared.keyword.Keyword.{Keyword}
use Rattle.sql_lex.specs.declared.keyword.Keyword.TheVariants.{KAs}
use Rattle.sql_lex.specs.declared.symbol.Symbol.{Symbol}
use Rattle.sql_lex.specs.declared.symbol.Symbol.TheVariants.{Dot}
use Rattle.sql_lex.specs.declared.token.TokenKind.{TokenKind}
use Rattle.sql_lex.specs.declared.token.TokenKind.TheVariants as kind
use Rattle.sql_parse.specs.inner.Kinds.{is_keyword, is_symbol}
use Rattle.sql_parse.specs.inner.Reading.{Parser, ◌>->◌, ◌>>◌, ◌<$>◌, pure, keyword, symbol, name, number, after, qualified, column, alias, table}
use Rattle.sql_parse.proofs.ReaderParts.{Part, Word}
use Rattle.sql_parse.proofs.ReaderLaws.{IsReader, both, chained}
use Rattle.sql_parse.proofs.ReaderSequence.{never, or_goes, closed_then, mapped, formed}
use Rattle.sql_parse.proofs.ReaderTokens.{token_reader, name_token, number_token, keyword_token, symbol_token, keyword_itself, symbol_itself}
use Rattle.sql_parse.proofs.ReaderChoices.{behind, keyword_then, symbol_then, optional, maybe_parts, maybe_value}
use Rattle.sql_parse.proofs.StatementParts.{name_parts, number_parts, column_parts, qualified_parts, alias_parts, table_parts}

-- ---- tokens

pub name_reader : IsReader name_parts (λ n. n) never name
name_reader = token_reader kind.Name name name_token []

pub number_reader : IsReader number_parts (λ n. n) never number
number_reader = token_reader (λ n. kind.Int (pos n)) number number_token 0

pub keyword_reader : (k : Keyword) → IsReader {F = Unit {0}} (λ a. Word (kind.Keyword k) ∷ []) (λ a. a) never (keyword k)
keyword_reader k = token_reader (λ a. kind.Keyword k) (keyword k) (keyword_token k) tt

pub symbol_reader : (s : Symbol) → IsReader {F = Unit {0}} (λ a. Word (kind.Symbol s) ∷ []) (λ a. a) never (symbol s)
symbol_reader s = token_reader (λ a. kind.Symbol s) (symbol s) (symbol_token s) tt

-- ---- what a keyword introduces

pub after_reader : {F A : Type 0} (parts : F → List Part) (value : F → A) (goes : TokenKind → Bool) (p : Parser A) (k : Keyword) → IsReader parts value goes p →
    IsReader (maybe_parts (behind (kind.Keyword k) parts)) (option_map value) (or_goes goes (is_keyword k)) (after k p)
after_reader {F} {A} parts value goes p k reader =
    formed (maybe_parts (behind (kind.Keyword k) parts)) (maybe_value (λ form. Some (value form)) None) (after k p) (or_goes goes (is_keyword k))
    (maybe_parts (behind (kind.Keyword k) parts)) (option_map value) (λ form. form) (λ form. form) (λ form. refl) same (λ form. refl) (λ form. sym (same form))
    (optional (behind (kind.Keyword k) parts) (λ form. Some (value form)) goes (keyword k >> Some <$> p) (is_keyword k) None
    (keyword_then parts (λ form. Some (value form)) goes (Some <$> p) (mapped parts value p Some goes reader) k) (λ form. keyword_itself k))
  where
    same : (form : Option F) → option_map value form ≡ maybe_value (λ form. Some (value form)) None form
    same None = refl
    same (Some form) = refl

-- ---- columns and tables

abbrev pub column_goes : TokenKind → Bool
column_goes = or_goes never (is_symbol Dot)

pub column_reader : IsReader column_parts (λ c. c) column_goes column
unfolding column
column_reader =
    formed (both name_parts (maybe_parts (behind (kind.Symbol Dot) name_parts))) (chained (λ n. n) read) column column_goes column_parts (λ c. c)
    to from to_parts to_value (λ c. from_parts c.table c.name) (λ c. from_value c.table c.name)
    (closed_then name_parts (λ n. n) name (maybe_parts (behind (kind.Symbol Dot) name_parts)) read qualified column_goes name_reader (λ n. refl)
    (λ first. optional (behind (kind.Symbol Dot) name_parts) (λ second. record { table = Some first; name = second }) never
    (symbol Dot >> name >-> (λ second. pure (record { table = Some first; name = second }))) (is_symbol Dot) (record { table = None; name = first })
    (mapped (behind (kind.Symbol Dot) name_parts) (λ n. n) (symbol Dot >> name) (λ second. record { table = Some first; name = second }) never
    (symbol_then name_parts (λ n. n) never name name_reader Dot))
    (λ second. symbol_itself Dot)))
  where
    read : List ℕ → Option (List ℕ) → ColRef
    read first = maybe_value (λ second. record { table = Some first; name = second }) (record { table = None; name = first })

    to : List ℕ × Option (List ℕ) → ColRef
    to form = read form.0 form.1

    from_both : Option (List ℕ) → List ℕ → List ℕ × Option (List ℕ)
    from_both None n = (n, None)
    from_both (Some t) n = (t, Some n)

    from : ColRef → List ℕ × Option (List ℕ)
    from c = from_both c.table c.name

    parts_by : (first : List ℕ) (second : Option (List ℕ)) → column_parts (read first second) ≡ name_parts first ++ maybe_parts (behind (kind.Symbol Dot) name_parts) second
    parts_by first None = refl
    parts_by first (Some second) = refl

    to_parts : (form : List ℕ × Option (List ℕ)) → column_parts (to form) ≡ both name_parts (maybe_parts (behind (kind.Symbol Dot) name_parts)) form
    to_parts form = parts_by form.0 form.1

    to_value : (form : List ℕ × Option (List ℕ)) → to form ≡ chained (λ n. n) read form
    to_value form = refl

    from_parts : (t : Option (List ℕ)) (n : List ℕ) → both name_parts (maybe_parts (behind (kind.Symbol Dot) name_parts)) (from_both t n) ≡ qualified_parts t n
    from_parts None n = refl
    from_parts (Some t) n = refl

    from_value : (t : Option (List ℕ)) (n : List ℕ) → chained (λ n. n) read (from_both t n) ≡ record { table = t; name = n }
    from_value None n = refl
    from_value (Some t) n = refl

abbrev pub alias_goes : TokenKind → Bool
alias_goes = or_goes never (is_keyword KAs)

pub alias_reader : IsReader alias_parts (λ a. a) alias_goes alias
unfolding alias
alias_reader =
    formed alias_parts (option_map (λ n. n)) alias alias_goes alias_parts (λ a. a) (λ a. a) (λ a. a) (λ a. refl) same (λ a. refl) (λ a. sym (same a))
    (after_reader name_parts (λ n. n) never name KAs name_reader)
  where
    same : (a : Option (List ℕ)) → a ≡ option_map (λ n. n) a
    same None = refl
    same (Some n) = refl

pub table_reader : IsReader table_parts (λ t. t) alias_goes table
unfolding table
table_reader =
    formed (both name_parts alias_parts) (chained (λ n. n) read) table alias_goes table_parts (λ t. t) (λ form. read form.0 form.1) (λ t. (t.name, t.alias))
    (λ form. refl) (λ form. refl) (λ t. refl) (λ t. refl)
    (closed_then name_parts (λ n. n) name alias_parts read (λ n. alias >-> (λ a. pure (record { name = n; alias = a }))) alias_goes name_reader (λ n. refl)
    (λ n. mapped alias_parts (λ a. a) alias (λ a. record { name = n; alias = a }) alias_goes alias_reader))
  where
    read : List ℕ → Option (List ℕ) → TableRef
    read n a = record { name = n; alias = a }
