-- The canonical text of an expression spells its canonical tree.
use Rattle.std.proofs.Common.{◌≡◌, ◌<◌, ◌^◌, ℕ, zero, suc, pos, negsuc, Bool, true, false, List, [], ◌∷◌, ◌++◌, map, Option, Some, None, sym, subst, arith, codes, append_assoc, slice_range, Ok}
use Rattle.geo_base.specs.declared.cell.Cell.TheVariants as cell
use Rattle.sql_ast.specs.declared.ast.Ast.{Ast}
use Rattle.sql_ast.specs.declared.ast.ColRef.{ColRef}
use Rattle.sql_ast.specs.Printing.{column_text, null_test_text, expression_text}
use Rattle.sql_lex.specs.declared.keyword.Keyword.TheVariants.{KNot, KIs, KNull, KTrue, KFalse}
use Rattle.sql_lex.specs.declared.symbol.Symbol.TheVariants as symbol
use Rattle.sql_lex.specs.declared.token.Token.{Token}
use Rattle.sql_lex.specs.declared.token.TokenKind.{TokenKind}
use Rattle.sql_lex.specs.declared.token.TokenKind.TheVariants as kind
use Rattle.sql_lex.specs.inner.Tokens.{tokens_of}
use Rattle.sql_lex.specs.Grammar.{Spells, AreSlicesFrom}
use Rattle.sql_lex.specs.laws.Slices.{tokens_are_slices}
use Rattle.sql_parse.specs.Kinds.{operator_kind}
use Rattle.sql_parse.specs.Places.{kinds_of}
use Rattle.sql_parse.specs.Trees.{Role, Mark, Inside, Opening, Operator, mark, kinds, Tree, Int, Negative, Text, Truth, Null, Column, Paren, Minus, Infix, Not, IsNull, column_kinds, marks, value, inside, null_kinds}
use Rattle.sql_parse.proofs.PrintedPieces.{Prints, PrintsAlone, MayOpen, opens_by, blank_opens, loose, behind, behind_alone, after, both, spaced, indented, token, lone}
use Rattle.sql_parse.proofs.PrintedWords.{keyword, operator, number, text_in_quotes}
use Rattle.sql_parse.proofs.PrintedTrees.{canonical}
use Rattle.sql_parse.proofs.PrintedLevels.{literal_of, column_of, neg_of, not_of, binary_of, null_test_of}

-- ---- tokens that something spells

-- something spells each of them
abbrev pub AreSpelled : List TokenKind → Type 0
AreSpelled [] = Unit {0}
AreSpelled (k ∷ ks) = ((piece : List ℕ) × Spells k piece) × AreSpelled ks

spelled_slices : (tokens : List Token) (at : ℕ) (text : List ℕ) → AreSlicesFrom at text tokens → AreSpelled (kinds_of tokens)
spelled_slices [] at text slices = tt
spelled_slices (t ∷ tokens) at text slices = ((slice_range text t.from t.to, slices.2), spelled_slices tokens t.to text slices.3)

pub spelled_tokens : (text : List ℕ) (tokens : List Token) → tokens_of text ≡ Ok tokens → AreSpelled (kinds_of tokens)
spelled_tokens text tokens is = spelled_slices tokens 0 text (tokens_are_slices text tokens is)

pub front_of : (ms ns : List Mark) → AreSpelled (kinds (ms ++ ns)) → AreSpelled (kinds ms)
front_of [] ns all = tt
front_of (m ∷ ms) ns all = (all.0, front_of ms ns all.1)

pub rest_of : (ms ns : List Mark) → AreSpelled (kinds (ms ++ ns)) → AreSpelled (kinds ns)
rest_of [] ns all = all
rest_of (m ∷ ms) ns all = rest_of ms ns all.1

pub name_by : (role : Role) (name : List ℕ) → ((piece : List ℕ) × Spells (kind.Name name) piece) → Prints (mark role (kind.Name name) ∷ []) name
name_by role name is = token role (kind.Name name) name (subst (Spells (kind.Name name)) is.1.0 is.1)

pub number_fits : (n : ℕ) → ((piece : List ℕ) × Spells (kind.Int (pos n)) piece) → n < 2 ^ 63
number_fits n is = let same : n ≡ is.1.0 = cc in omega (arith, same, is.1.2.fits)

-- ---- pieces

pub opening : (role : Role) → PrintsAlone (mark role (kind.Symbol symbol.Open) ∷ []) (codes "(")
opening role = lone role symbol.Open (λ next h. h)

-- ---- columns

abbrev reference : Option (List ℕ) → List ℕ → ColRef
reference table name = record { table = table; name = name }

column_by : (role : Role) (table : Option (List ℕ)) (name : List ℕ) → AreSpelled (kinds (map (mark role) (column_kinds (reference table name))))
    → Prints (map (mark role) (column_kinds (reference table name))) (column_text (reference table name))
column_by role None name all = name_by role name all.0
column_by role (Some table) name all =
    after (behind_alone (name_by role table all.0) (opens_by 46 [] (omega arith) (omega arith)) (lone role symbol.Dot (λ next h. h))) (name_by role name all.1.1.0)

pub column_prints : (role : Role) (column : ColRef) → AreSpelled (kinds (map (mark role) (column_kinds column))) → Prints (map (mark role) (column_kinds column)) (column_text column)
column_prints role column all = column_by role column.table column.name all

-- ---- expressions

null_test : (is_not : Bool) → Prints (mark Operator (kind.Keyword KIs) ∷ inside (null_kinds is_not)) (null_test_text is_not)
null_test false = indented (after (spaced (keyword Operator KIs)) (keyword Inside KNull))
null_test true = indented (after (spaced (keyword Operator KIs)) (after (spaced (keyword Inside KNot)) (keyword Inside KNull)))

test_opens : (is_not : Bool) → MayOpen (null_test_text is_not)
test_opens false = blank_opens (codes "IS NULL")
test_opens true = blank_opens (codes "IS NOT NULL")

-- a text, and the parenthesis behind it
pub closed : (role : Role) {ms : List Mark} {a : List ℕ} → Prints ms a → Prints (ms ++ mark role (kind.Symbol symbol.Close) ∷ []) (a ++ codes ")")
closed role p = loose (behind_alone p (opens_by 41 [] (omega arith) (omega arith)) (lone role symbol.Close (λ next h. h)))

-- an expression's text, in the place of what it is known to be
shown : {ms : List Mark} (e : Ast) {text : List ℕ} → expression_text e ≡ text → Prints ms text → Prints ms (expression_text e)
shown {ms} e is p = subst (Prints ms) (sym is) p

pub expression_prints : (t : Tree) → AreSpelled (kinds (marks t)) → Prints (marks (canonical t)) (expression_text (value t))
expression_prints (Int n) all = shown _ (literal_of (cell.Int (pos n))) (number Inside n (number_fits n all.0))
expression_prints (Negative zero) all = shown _ (literal_of (cell.Int (pos 0))) (number Inside 0 (omega arith))
expression_prints (Negative (suc n)) all =
    shown _ (literal_of (cell.Int (negsuc n))) (after (lone Inside symbol.Minus (λ next h. h)) (number Inside (suc n) (number_fits (suc n) all.1.0)))
expression_prints (Text text) all = shown _ (literal_of (cell.Text text)) (text_in_quotes Inside text all.0.1.1)
expression_prints (Truth true) all = shown _ (literal_of (cell.Truth true)) (keyword Inside KTrue)
expression_prints (Truth false) all = shown _ (literal_of (cell.Truth false)) (keyword Inside KFalse)
expression_prints Null all = shown _ (literal_of cell.Null) (keyword Inside KNull)
expression_prints (Column column) all = shown _ (column_of column) (column_prints Inside column all)
expression_prints (Paren a) all = expression_prints a (front_of (marks a) (inside (kind.Symbol symbol.Close ∷ [])) all.1)
expression_prints (Minus a) all = shown _ (neg_of (value a)) (closed Inside (after (both (lone Operator symbol.Minus (λ next h. h)) (opening Opening)) (expression_prints a all.1)))
expression_prints (Not a) all = shown _ (not_of (value a)) (closed Inside (after (both (opening Opening) (spaced (keyword Operator KNot))) (expression_prints a all.1)))
expression_prints (Infix o a b) all =
    let op : Mark = mark Operator (operator_kind o) in
    subst (λ l. Prints (mark Opening (kind.Symbol symbol.Open) ∷ (l ++ inside (kind.Symbol symbol.Close ∷ []))) (expression_text (value (Infix o a b))))
    (append_assoc (marks (canonical a)) (op ∷ []) (marks (canonical b)))
    (shown _ (binary_of o (value a) (value b))
    (closed Inside (after (spaced (after (spaced (after (opening Opening) (expression_prints a (front_of (marks a) (op ∷ marks b) all)))) (operator Operator o)))
    (expression_prints b (rest_of (marks a) (op ∷ marks b) all).1))))
expression_prints (IsNull a is_not) all =
    let test : List Mark = mark Operator (kind.Keyword KIs) ∷ inside (null_kinds is_not) in
    shown _ (null_test_of (value a) is_not) (closed Inside (behind (after (opening Opening) (expression_prints a (front_of (marks a) test all))) (test_opens is_not) (null_test is_not)))
