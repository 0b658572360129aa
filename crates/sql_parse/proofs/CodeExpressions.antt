-- What a step at a token does to the reading of an expression.
use Rattle.std.proofs.Common.{◌≡◌, Bool, List, [], ◌∷◌, length, drop, Option, Some, None, Ok, Err, if◌then◌else◌, ℕ, sym, ap, ◌∙◌, subst, refl}
use Rattle.sql_ast.specs.declared.ast.Ast.{Ast}
use Rattle.sql_lex.specs.declared.token.TokenKind.{TokenKind}
use Rattle.sql_ast.specs.declared.ast.AstOp.{AstOp}
use Rattle.sql_lex.specs.declared.symbol.Symbol.TheVariants.{Dot}
use Rattle.sql_parse.specs.declared.expression.reader.Mode.{Mode}
use Rattle.sql_parse.specs.declared.expression.reader.Mode.TheVariants.{Named, Qualified, Complete}
use Rattle.sql_parse.specs.declared.expression.reader.Move.{Move}
use Rattle.sql_parse.specs.declared.expression.reader.Reader.{Reader}
use Rattle.sql_parse.specs.declared.stop.Stop.TheVariants.{Stuck, Deep}
use Rattle.sql_parse.specs.inner.Expressions.{Goes, Ends, Refuses, Deepens, moved, run, step, step_in, finished, behind_step, complete_step, named_step, reader_in}
use Rattle.sql_parse.specs.Grammar.{begins_integer}
use Rattle.sql_parse.specs.inner.Kinds.{is_symbol, operator_of}

-- What the next token does, by what was answered beside the reader. Of what is behind it, it is known whether that begins with an integer.
pub step_here : (reader next : Reader) (token : TokenKind) (more : List TokenKind) (before : Bool) (answer move : Move) →
    before ≡ begins_integer more → answer ≡ move → moved answer next ≡ step reader token before →
    step reader token (begins_integer more) ≡ moved move next
step_here reader next token more before answer move integer is did =
    subst (λ (b : Bool). step reader token b ≡ moved move next) integer (sym did ∙ ap (λ m. moved m next) is)

pub run-goes : (reader next : Reader) (token : TokenKind) (more tokens : List TokenKind) →
    tokens ≡ token ∷ more → step reader token (begins_integer more) ≡ Goes next → run reader tokens ≡ run next (drop 1 tokens)
unfolding run
run-goes reader next token more tokens whole goes = rw (whole, goes)

pub run-ends : (reader : Reader) (value : Ast) (token : TokenKind) (more tokens : List TokenKind) →
    tokens ≡ token ∷ more → step reader token (begins_integer more) ≡ Ends value → run reader tokens ≡ Ok (value, tokens)
unfolding run
run-ends reader value token more tokens whole ends = rw (whole, ends)

pub run-refuses : (reader : Reader) (token : TokenKind) (more tokens : List TokenKind) →
    tokens ≡ token ∷ more → step reader token (begins_integer more) ≡ Refuses → run reader tokens ≡ Err (Stuck (length tokens))
unfolding run
run-refuses reader token more tokens whole refuses = rw (whole, refuses)

pub run-deepens : (reader : Reader) (token : TokenKind) (more tokens : List TokenKind) →
    tokens ≡ token ∷ more → step reader token (begins_integer more) ≡ Deepens → run reader tokens ≡ Err (Deep (length tokens))
unfolding run
run-deepens reader token more tokens whole deepens = rw (whole, deepens)

pub run-finished : (reader : Reader) (value : Ast) (tokens : List TokenKind) →
    tokens ≡ [] → finished reader ≡ Some value → run reader tokens ≡ Ok (value, tokens)
unfolding run
run-finished reader value tokens none done = rw (none, done)

pub run-unfinished : (reader : Reader) (tokens : List TokenKind) →
    tokens ≡ [] → finished reader ≡ None → run reader tokens ≡ Err (Stuck (length tokens))
unfolding run
run-unfinished reader tokens none undone = rw (none, undone)

-- ---- What was read last is of no matter to a step that is told what.

pub complete_step-mode : (mode : Mode) (reader : Reader) (value : Ast) (level : ℕ) (token : TokenKind) →
    complete_step (record reader { mode = mode }) value level token ≡ complete_step reader value level token
unfolding complete_step
complete_step-mode mode reader value level token = by (operator_of token)
  where
    by : (operator : Option AstOp) →
        behind_step (record reader { mode = mode }) value level token operator ≡ behind_step reader value level token operator
    by (Some operator) = refl
    by None = refl

pub step-complete : (mode : Mode) (reader : Reader) (value : Ast) (level : ℕ) (token : TokenKind) (before : Bool) →
    reader.mode ≡ Complete value level → complete_step (record reader { mode = mode }) value level token ≡ step reader token before
unfolding step
step-complete mode reader value level token before last =
    complete_step-mode mode reader value level token ∙ sym (ap (λ m. step_in m reader token before) last)

pub step-named : (mode : Mode) (reader : Reader) (name : List ℕ) (token : TokenKind) (before : Bool) →
    reader.mode ≡ Named name → named_step (record reader { mode = mode }) name token ≡ step reader token before
unfolding step
step-named mode reader name token before last =
    ap (λ other. if is_symbol Dot token then Goes (reader_in (Qualified name) reader.frames reader) else other) (complete_step-mode mode reader _ _ token)
    ∙ sym (ap (λ m. step_in m reader token before) last)
