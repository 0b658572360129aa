-- The reader of expressions, as one that reads a part.
use Rattle.std.proofs.Common.{◌≡◌, ℕ, pos, List, [], ◌∷◌, ◌++◌, length, Bool, true, false, ◌||◌, Option, Some, None, is_some, Ok, Err, refl, sym, ap, ◌∙◌, subst, inl, inr, append_assoc, append-nil}
use Rattle.std.proofs.lemmas.List.{map-append}
use Rattle.sql_ast.specs.declared.ast.Ast.{Ast}
use Rattle.sql_lex.specs.declared.keyword.Keyword.TheVariants.{KIs, KNot, KNull, KTrue, KFalse}
use Rattle.sql_lex.specs.declared.symbol.Symbol.TheVariants as symbol
use Rattle.sql_lex.specs.declared.token.TokenKind.{TokenKind}
use Rattle.sql_lex.specs.declared.token.TokenKind.TheVariants as kind
use Rattle.sql_parse.specs.declared.stop.Stop.TheVariants.{Stuck, Deep, NoMemory}
use Rattle.sql_parse.specs.inner.Kinds.{operator_of, is_keyword, is_symbol}
use Rattle.sql_parse.specs.Trees.{Tree, Mark, marks, kinds, value}
use Rattle.sql_parse.specs.Trees.Tree.{Null, Int, Negative, Text, Truth, Column, Paren, Minus, Infix, Not, IsNull}
use Rattle.sql_parse.specs.inner.Reading.{Outcome, begins, expression}
use Rattle.sql_parse.proofs.ExpressionPhrases.{IsPhrase}
use Rattle.sql_parse.proofs.ExpressionLaws.{ExpressionLaws, Ends, IsRead, IsStuckAt, IsDeepAt}
use Rattle.sql_parse.proofs.ReaderParts.{Part, Phrase, Overruns, TooDeep, SameFirst}
use Rattle.sql_parse.proofs.ReaderLaws.{Answers, Ended, IsReader}
use Rattle.sql_parse.proofs.ReaderSequence.{or_left, or_right}

-- ---- what goes on with an expression

abbrev pub expression_goes : TokenKind → Bool
expression_goes token = is_some (operator_of token) || (is_keyword KIs token || is_symbol symbol.Dot token)

is_none : {A : Type 0} (x : Option A) → is_some x ≡ false → x ≡ None
is_none None none = refl
is_none (Some x) none = cc

expression_ends : (rest : List TokenKind) → Ended expression_goes rest → Ends rest
unfolding begins
expression_ends [] ended = tt
expression_ends (token ∷ rest) ended = (
  is_none (operator_of token) (or_left (is_some (operator_of token)) (is_keyword KIs token || is_symbol symbol.Dot token) ended),
  or_left (is_keyword KIs token) (is_symbol symbol.Dot token) (or_right (is_some (operator_of token)) (is_keyword KIs token || is_symbol symbol.Dot token) ended),
  or_right (is_keyword KIs token) (is_symbol symbol.Dot token) (or_right (is_some (operator_of token)) (is_keyword KIs token || is_symbol symbol.Dot token) ended),
)

-- ---- the reader

abbrev pub phrase_parts : Tree → List Part
phrase_parts tree = Phrase tree ∷ []

-- what holds at the tokens that are left, and with others behind their first one, holds wherever they begin alike
alike : {A : Type 0} (front : List TokenKind) (p : List TokenKind → A) (answer : List TokenKind → A) (rest : List TokenKind) → p (front ++ rest) ≡ answer rest →
    ((token : TokenKind) (behind more : List TokenKind) → rest ≡ token ∷ behind → p (front ++ token ∷ more) ≡ answer (token ∷ more)) →
    (other : List TokenKind) → SameFirst rest other → p (front ++ other) ≡ answer other
alike front p answer [] here locally [] same = here
alike front p answer [] here locally (token ∷ more) same = absurd same
alike front p answer (token ∷ behind) here locally [] same = absurd same
alike front p answer (token ∷ behind) here locally (other ∷ more) same =
    subst (λ t. p (front ++ t ∷ more) ≡ answer (t ∷ more)) same (locally token behind more refl)

module _ (laws : ExpressionLaws) where
  expression_answer : (tokens : List TokenKind) (o : Outcome Ast) → expression tokens ≡ o → Answers phrase_parts value expression tokens o
  expression_answer tokens (Ok read) same = by (laws.sound tokens read.0 read.1 same)
    where
      by : IsRead tokens read.0 read.1 → Answers phrase_parts value expression tokens (Ok read)
      by found = record {
        form = found.tree;
        lawful = (found.phrase, tt);
        fits = (found.fits, tt);
        whole = found.whole;
        means = found.means;
        again = alike (kinds (marks found.tree)) expression (λ other. Ok (read.0, other)) read.1 (ap expression found.whole ∙ same) found.locally;
      }
  expression_answer tokens (Err (Stuck left)) same = by (laws.stuck tokens left same)
    where
      by : IsStuckAt tokens left → Answers phrase_parts value expression tokens (Err (Stuck left))
      by found = record {
        front = kinds found.front;
        rest = found.rest;
        whole = found.whole;
        place = found.place;
        form = found.tree;
        lawful = (found.phrase, tt);
        more = kinds found.more;
        shows = append-nil (kinds (marks found.tree)) ∙ ap kinds found.shows ∙ map-append (λ (m : Mark). m.kind) found.front found.more;
        again = alike (kinds found.front) expression (λ other. Err (Stuck (length other))) found.rest
            (ap expression found.whole ∙ same ∙ ap (λ n. Err (Stuck n)) (sym found.place)) found.locally;
      }
  expression_answer tokens (Err (Deep left)) same = by (laws.refused tokens left same)
    where
      by : IsDeepAt tokens left → Answers phrase_parts value expression tokens (Err (Deep left))
      by found = record {
        form = found.tree;
        lawful = (found.phrase, tt);
        over = inl (record {
          front = found.front;
          here = found.here;
          more = found.more;
          rest = found.rest;
          shows = found.shows;
          whole = found.whole;
          place = found.place;
          goes_on = found.goes_on;
          exceeds = found.exceeds;
          first = found.first;
        });
      }
  expression_answer tokens (Err NoMemory) same = laws.memory tokens same

  too_deep : (tree : Tree) (tokens : List TokenKind) (left : ℕ) → IsPhrase tree → TooDeep tree tokens left → expression tokens ≡ Err (Deep left)
  too_deep tree tokens left phrase deep =
      ap expression (sym deep.whole)
      ∙ laws.deep tree deep.front deep.here deep.more deep.rest [] phrase deep.shows deep.exceeds deep.first (deep.goes_on [])
      ∙ ap (λ n. Err (Deep n)) deep.place

  pub expression_reader : IsReader phrase_parts value expression_goes expression
  expression_reader = record {
    least = Null;
    lawful = (tt, tt);
    apart = λ tree. tt;
    answers = λ tokens. expression_answer tokens (expression tokens) refl;
    complete = λ tree rest lawful fits ended. laws.complete tree rest lawful.0 fits.0 (expression_ends rest ended);
    deep = deep;
  }
    where
      deep : (tree : Tree) (tokens : List TokenKind) (left : ℕ) → IsPhrase tree × Unit {0} → Overruns (phrase_parts tree) tokens left → expression tokens ≡ Err (Deep left)
      deep tree tokens left lawful (inl here) = too_deep tree tokens left lawful.0 here
      deep tree tokens left lawful (inr later) = absurd later.3

-- ---- how an expression begins

-- no expression begins with a token that passes the test
pub record Misses (test : TokenKind → Bool) : Type 0 where
  pub minus : test (kind.Symbol symbol.Minus) ≡ false
  pub opening : test (kind.Symbol symbol.Open) ≡ false
  pub denied : test (kind.Keyword KNot) ≡ false
  pub null : test (kind.Keyword KNull) ≡ false
  pub truth : test (kind.Keyword KTrue) ≡ false
  pub untruth : test (kind.Keyword KFalse) ≡ false
  pub int : (n : ℕ) → test (kind.Int (pos n)) ≡ false
  pub text : (t : List ℕ) → test (kind.Text t) ≡ false
  pub name : (n : List ℕ) → test (kind.Name n) ≡ false

same_first_mark : (test : TokenKind → Bool) (front : List Mark) (here : Mark) (more : List Mark) (rest : List TokenKind) →
    begins test (kinds (front ++ here ∷ more) ++ []) ≡ begins test (kinds front ++ here.kind ∷ rest)
unfolding begins
same_first_mark test [] here more rest = refl
same_first_mark test (first ∷ front) here more rest = refl

misses_behind : (test : TokenKind → Bool) (front more : List Mark) (rest : List TokenKind) → ((rest : List TokenKind) → begins test (kinds front ++ rest) ≡ false) →
    begins test (kinds (front ++ more) ++ rest) ≡ false
misses_behind test front more rest none =
    ap (λ l. begins test (l ++ rest)) (map-append (λ (m : Mark). m.kind) front more) ∙ ap (begins test) (append_assoc (kinds front) (kinds more) rest) ∙ none (kinds more ++ rest)

module _ (test : TokenKind → Bool) (none : Misses test) where
  misses_column : (table : Option (List ℕ)) (name : List ℕ) (rest : List TokenKind) →
      begins test (kinds (marks (Column (record { table = table; name = name }))) ++ rest) ≡ false
  unfolding begins
  misses_column None name rest = none.name name
  misses_column (Some table) name rest = none.name table

  pub misses : (tree : Tree) (rest : List TokenKind) → begins test (kinds (marks tree) ++ rest) ≡ false
  unfolding begins
  misses (Int n) rest = none.int n
  misses (Negative n) rest = none.minus
  misses (Text t) rest = none.text t
  misses (Truth true) rest = none.truth
  misses (Truth false) rest = none.untruth
  misses Null rest = none.null
  misses (Column column) rest = misses_column column.table column.name rest
  misses (Paren a) rest = none.opening
  misses (Minus a) rest = none.minus
  misses (Not a) rest = none.denied
  misses (Infix operator a b) rest = misses_behind test (marks a) _ rest (λ rest. misses a rest)
  misses (IsNull a is_not) rest = misses_behind test (marks a) _ rest (λ rest. misses a rest)

  pub misses_deep : (tree : Tree) (tokens : List TokenKind) (left : ℕ) → TooDeep tree tokens left → begins test tokens ≡ false
  misses_deep tree tokens left deep =
      ap (begins test) (sym deep.whole) ∙ sym (same_first_mark test deep.front deep.here deep.more deep.rest) ∙ ap (λ m. begins test (kinds m ++ [])) (sym deep.shows) ∙ misses tree []
