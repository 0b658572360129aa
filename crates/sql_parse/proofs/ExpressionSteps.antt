-- What the reader of expressions does behind a whole operand.
use Rattle.std.proofs.Common.{◌≡◌, ◌≤◌, ◌<◌, ℕ, Bool, true, false, List, [], ◌∷◌, Option, Some, None, refl, ap, ◌∙◌, arith, if◌then◌else◌}
use Rattle.std.proofs.lemmas.Bool.{le-leb, lt-leb, leb-false, cond-true, cond-false}
use Rattle.sql_ast.specs.declared.ast.Ast.{Ast}
use Rattle.sql_ast.specs.declared.ast.AstOp.{AstOp}
use Rattle.sql_lex.specs.declared.keyword.Keyword.TheVariants.{KIs}
use Rattle.sql_lex.specs.declared.symbol.Symbol.TheVariants as symbol
use Rattle.sql_lex.specs.declared.token.TokenKind.{TokenKind}
use Rattle.sql_lex.specs.declared.token.TokenKind.TheVariants as kind
use Rattle.sql_parse.specs.declared.expression.frame.Frame.{Frame}
use Rattle.sql_parse.specs.declared.expression.frame.Frame.TheVariants as frame
use Rattle.sql_parse.specs.declared.expression.reader.Mode.{Mode}
use Rattle.sql_parse.specs.declared.expression.reader.Mode.TheVariants as mode
use Rattle.sql_parse.specs.declared.expression.reader.Reader.{Reader}
use Rattle.sql_parse.specs.Kinds.{operator_kind}
use Rattle.sql_parse.specs.inner.Kinds.{operator_of, is_keyword, is_symbol}
use Rattle.sql_parse.specs.inner.Levels.{level_of, left_of, test_level, sum_level}
use Rattle.sql_parse.specs.inner.Expressions.{wanted, is_closed, applied, frame_level, Held, settled, with_operator, infix_step, is_step, close_step, end_step, behind_step, complete_step, step, finished, closed, at_end, by_step, run}
use Rattle.sql_parse.proofs.ExpressionTokens.{kind_operator, level_within, level_differs, bound_by, bound_behind}

abbrev pub reading : Mode → List Frame → ℕ → ℕ → Reader
reading mode frames operators openings = record { mode = mode; frames = frames; operators = operators; openings = openings }

abbrev pub held : Ast → ℕ → List Frame → Held
held value level frames = record { value = value; level = level; frames = frames }

-- ---- what closes

pub settles : (bound : ℕ) (value : Ast) (level : ℕ) (frame : Frame) (frames : List Frame) → is_closed bound frame ≡ true →
    settled bound value level (frame ∷ frames) ≡ settled bound (applied frame value) (frame_level frame) frames
settles bound value level frame frames closes = cond-true _ _ _ closes

absorb_tested : (m n : Mode) (frame : Frame) (frames : List Frame) (o p : ℕ) (value : Ast) (level : ℕ) (token : TokenKind) (is : Bool) →
    is_closed (if is then test_level else 0) frame ≡ true →
    (if is then is_step (reading m (frame ∷ frames) o p) (settled test_level value level (frame ∷ frames))
    else (if is_symbol symbol.Close token then close_step (reading m (frame ∷ frames) o p) (settled 0 value level (frame ∷ frames)) (settled 0 value level (frame ∷ frames)).frames
    else end_step (settled 0 value level (frame ∷ frames)) (settled 0 value level (frame ∷ frames)).frames))
    ≡ (if is then is_step (reading n frames o p) (settled test_level (applied frame value) (frame_level frame) frames)
    else (if is_symbol symbol.Close token then close_step (reading n frames o p) (settled 0 (applied frame value) (frame_level frame) frames) (settled 0 (applied frame value) (frame_level frame) frames).frames
    else end_step (settled 0 (applied frame value) (frame_level frame) frames) (settled 0 (applied frame value) (frame_level frame) frames).frames))
absorb_tested m n frame frames o p value level token true closes = ap (is_step (reading n frames o p)) (settles test_level value level frame frames closes)
absorb_tested m n frame frames o p value level token false closes =
    ap (λ h. if is_symbol symbol.Close token then close_step (reading n frames o p) h h.frames else end_step h h.frames) (settles 0 value level frame frames closes)

absorb_by : (m n : Mode) (frame : Frame) (frames : List Frame) (o p : ℕ) (value : Ast) (level : ℕ) (token : TokenKind) (operator : Option AstOp) →
    is_closed (bound_by operator token) frame ≡ true →
    behind_step (reading m (frame ∷ frames) o p) value level token operator ≡ behind_step (reading n frames o p) (applied frame value) (frame_level frame) token operator
absorb_by m n frame frames o p value level token (Some operator) closes = ap (infix_step (reading n frames o p) operator) (settles (level_of operator) value level frame frames closes)
absorb_by m n frame frames o p value level token None closes = absorb_tested m n frame frames o p value level token (is_keyword KIs token) closes

-- what is closed by what comes next may as well be closed before
pub absorb : (frame : Frame) (frames : List Frame) (o p : ℕ) (value : Ast) (level : ℕ) (rest : List TokenKind) → is_closed (bound_behind rest) frame ≡ true →
    run (reading (mode.Complete value level) (frame ∷ frames) o p) rest ≡ run (reading (mode.Complete (applied frame value) (frame_level frame)) frames o p) rest
unfolding run finished step complete_step
absorb frame frames o p value level [] closes = ap (λ h. at_end (closed h h.frames)) (settles 0 value level frame frames closes)
absorb frame frames o p value level (token ∷ more) closes =
    ap (by_step token more (λ next. run next more)) (absorb_by (mode.Complete value level) (mode.Complete (applied frame value) (frame_level frame)) frame frames o p value level token (operator_of token) closes)

-- ---- what stays open

abbrev pub StaysOpen : ℕ → List Frame → Type 0
StaysOpen bound [] = Unit {0}
StaysOpen bound (frame ∷ frames) = is_closed bound frame ≡ false

pub stays : (bound : ℕ) (value : Ast) (level : ℕ) (frames : List Frame) → StaysOpen bound frames → settled bound value level frames ≡ held value level frames
stays bound value level [] stay = refl
stays bound value level (frame ∷ frames) stay = cond-false _ _ _ stay

-- what wants no tighter an operand than this isn't closed by it
pub open_at : (bound : ℕ) (frames : List Frame) → bound ≤ 5 → (bound ≡ 2 → ⊥) → wanted frames ≤ bound → StaysOpen bound frames
open_at bound [] within differs fits = tt
open_at bound (frame.Paren ∷ frames) within differs fits = refl
open_at bound (frame.Minus ∷ frames) within differs fits = absurd (omega arith)
open_at bound (frame.Not ∷ frames) within differs fits = lt-leb bound 2 (omega arith)
open_at bound (frame.Left operator a ∷ frames) within differs fits = lt-leb bound (level_of operator) (omega arith)

-- and what isn't closed by it wants no tighter one
pub open_fits : (bound : ℕ) (frames : List Frame) → bound ≤ 5 → StaysOpen bound frames → wanted frames ≤ bound
open_fits bound [] within stay = omega arith
open_fits bound (frame.Paren ∷ frames) within stay = omega arith
open_fits bound (frame.Minus ∷ frames) within stay = absurd (let h : 6 < bound = leb-false bound 6 stay in omega arith)
open_fits bound (frame.Not ∷ frames) within stay = let h : 2 < bound = leb-false bound 2 stay in omega arith
open_fits bound (frame.Left operator a ∷ frames) within stay = let h : level_of operator < bound = leb-false bound (level_of operator) stay in omega arith

-- ---- operators behind an operand

pub at_operator : (operator : AstOp) (frames : List Frame) (o p : ℕ) (value : Ast) (level : ℕ) (before_integer : Bool) → left_of operator ≤ level → wanted frames ≤ level_of operator →
    step (reading (mode.Complete value level) frames o p) (operator_kind operator) before_integer
    ≡ with_operator mode.Operand (frame.Left operator value ∷ frames) (reading (mode.Complete value level) frames o p)
unfolding step complete_step
at_operator operator frames o p value level before_integer tight fits =
    ap (behind_step reader value level (operator_kind operator)) (kind_operator operator)
    ∙ ap (infix_step reader operator) (stays (level_of operator) value level frames (open_at (level_of operator) frames (level_within operator) (level_differs operator) fits))
    ∙ cond-true _ _ _ (le-leb (left_of operator) level tight)
  where
    reader : Reader
    reader = reading (mode.Complete value level) frames o p

pub at_is : (frames : List Frame) (o p : ℕ) (value : Ast) (level : ℕ) (before_integer : Bool) → sum_level ≤ level → wanted frames ≤ test_level →
    step (reading (mode.Complete value level) frames o p) (kind.Keyword KIs) before_integer
    ≡ with_operator (mode.Is value) frames (reading (mode.Complete value level) frames o p)
unfolding step complete_step
at_is frames o p value level before_integer tight fits =
    ap (is_step (reading (mode.Complete value level) frames o p)) (stays test_level value level frames (open_at 3 frames (omega arith) (λ e. omega arith) fits))
    ∙ cond-true _ _ _ (le-leb 4 level tight)
