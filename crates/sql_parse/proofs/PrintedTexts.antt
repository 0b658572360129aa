-- The canonical text of a statement that was parsed is parsed as that statement again.
use Rattle.std.proofs.Common.{◌≡◌, ℕ, List, [], ◌++◌, Ok, sym, ap, ◌∙◌, subst, arith, append-nil}
use Rattle.sql_ast.specs.declared.statement.Statement.{Statement}
use Rattle.sql_ast.specs.Printing.{printed}
use Rattle.sql_lex.specs.declared.token.Token.{Token}
use Rattle.sql_lex.specs.inner.Tokens.{tokens_of}
use Rattle.sql_parse.specs.Trees.{Mark, Tree, kinds}
use Rattle.sql_parse.specs.Forms.{statement_marks, statement_of}
use Rattle.sql_parse.specs.inner.Parsing.{parsed}
use Rattle.sql_parse.specs.Places.{kinds_of}
use Rattle.sql_parse.specs.inner.Reading.{whole}
use Rattle.sql_parse.proofs.ExpressionSound.{expression_laws}
use Rattle.sql_parse.proofs.StatementReading.{IsFitting, statement_sound, statement_complete}
use Rattle.sql_parse.proofs.StatementTexts.{texts_of_statements}
use Rattle.sql_parse.proofs.PrintedPieces.{IsCut, cut_nothing, tokens_of_cut, Prints}
use Rattle.sql_parse.proofs.PrintedTrees.{canonical, phrase, fits}
use Rattle.sql_parse.proofs.PrintedExpressions.{AreSpelled, spelled_tokens}
use Rattle.sql_parse.proofs.PrintedForms.{canonical_form, same_statement, kept}
use Rattle.sql_parse.proofs.PrintedStatements.{statement_prints}

canonical_is_fitting : (t : Tree) → IsFitting t → IsFitting (canonical t)
canonical_is_fitting t fitting = (phrase t, fits t fitting.1)

-- the tokens of a text that spells marks
printed_tokens : (ms : List Mark) (text : List ℕ) → Prints ms text → (tokens : List Token) × (tokens_of text ≡ Ok tokens) × (kinds_of tokens ≡ kinds ms)
printed_tokens ms text prints =
    let all : IsCut (kinds ms ++ []) (text ++ []) = prints.cut [] [] (record { low = omega arith; no_quote = omega arith }) cut_nothing in
    tokens_of_cut (kinds ms) text (subst (λ l. IsCut l text) (append-nil (kinds ms)) (subst (IsCut (kinds ms ++ [])) (append-nil text) all))

pub read_back : (text : List ℕ) (statement : Statement) → parsed text ≡ Ok statement → parsed (printed statement) ≡ Ok statement
read_back text statement is =
    let read = (texts_of_statements text statement).0 is in
    let found = statement_sound expression_laws (kinds_of read.0) statement read.2 in
    let spelled : AreSpelled (kinds (statement_marks found.form)) = subst AreSpelled (sym found.shows) (spelled_tokens text read.0 read.1) in
    let again = printed_tokens (statement_marks (canonical_form found.form)) (printed (statement_of found.form)) (statement_prints found.form spelled) in
    let answer : whole (kinds_of again.0) ≡ Ok statement =
    ap whole again.2 ∙ statement_complete expression_laws (canonical_form found.form) (kept IsFitting canonical_is_fitting found.form found.lawful)
    ∙ ap Ok (same_statement found.form ∙ found.means) in
    ap (λ s. parsed (printed s)) (sym found.means) ∙ (texts_of_statements (printed (statement_of found.form)) statement).1 (again.0, again.1, answer)
