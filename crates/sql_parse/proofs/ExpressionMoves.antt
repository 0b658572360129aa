-- What a token does to what was read of an expression.
use Rattle.std.proofs.Common.{◌≡◌, ◌≤◌, ◌<◌, ℕ, ◌+◌, Bool, true, false, List, [], ◌∷◌, ◌++◌, Option, Some, None, pos, negsuc, refl, sym, ap, ◌∙◌, subst, arith, append_assoc, append-nil, if◌then◌else◌, nat_lt, nat_le, is_some}
use Rattle.std.proofs.lemmas.Bool.{leb-true, leb-false, ltb-true, ltb-false}
use Rattle.sql_ast.specs.declared.ast.Ast.{Ast}
use Rattle.sql_ast.specs.declared.ast.AstOp.{AstOp}
use Rattle.sql_lex.specs.declared.keyword.Keyword.TheVariants.{KNot, KIs, KNull, KTrue, KFalse}
use Rattle.sql_lex.specs.declared.symbol.Symbol.TheVariants as symbol
use Rattle.sql_lex.specs.declared.token.TokenKind.{TokenKind}
use Rattle.sql_lex.specs.declared.token.TokenKind.TheVariants as kind
use Rattle.sql_parse.specs.declared.limits.TheConstants.{MAX_OPERATORS, MAX_OPENINGS}
use Rattle.sql_parse.specs.declared.expression.frame.Frame.{Frame}
use Rattle.sql_parse.specs.declared.expression.reader.Mode.{Mode}
use Rattle.sql_parse.specs.declared.expression.reader.Mode.TheVariants as mode
use Rattle.sql_parse.specs.declared.expression.reader.Reader.{Reader}
use Rattle.sql_parse.specs.Kinds.{operator_kind, integer_of}
use Rattle.sql_parse.specs.inner.Kinds.{operator_of, is_keyword, is_symbol}
use Rattle.sql_parse.specs.inner.Levels.{level_of, left_of, not_level, test_level, sum_level}
use Rattle.sql_parse.specs.Trees.{Role, Operator, Opening, Inside, Mark, mark, inside, kinds, marks, value, Tree, Int, Negative, Text, Truth, Null, Column, Paren, IsNull}
use Rattle.sql_parse.specs.Grammar.{begins_integer, GoesOn}
use Rattle.sql_parse.specs.inner.Expressions.{Step, Goes, Ends, Refuses, Deepens, wanted, settled, with_operator, with_opening, signed, operand_step, infix_step, is_step, close_step, end_step, behind_step, complete_step, qualified_step, negative, step}
use Rattle.sql_parse.proofs.ExpressionPhrases.{level, IsPhrase}
use Rattle.sql_parse.proofs.ExpressionLaws.{EndsOperand}
use Rattle.sql_parse.proofs.ExpressionTokens.{operator_token, keyword_token, symbol_token, goes_on, level_within}
use Rattle.sql_parse.proofs.ExpressionSteps.{reading, held, StaysOpen, open_fits}
use Rattle.sql_parse.proofs.ExpressionLimits.{ExceedsAfter, operators_with, openings_with, Fit}
use Rattle.sql_parse.proofs.ExpressionOpened.{Opened, OpenParen, OpenMinus, OpenNot, OpenLeft, frame_of, frames_of, opened_marks, around, AreOpen, Fitted, shut, around_shut, Settles, settle, Continues}
use Rattle.sql_parse.proofs.ExpressionStages.{Stage, BeforeOperand, BehindSign, BehindName, BehindDot, BehindOperand, BehindIs, BehindIsNot, mode_of, stage_marks, consumed, Waits, Tested, Lawful, fitted_whole, fitted_any, fitted_test, signs_integer, WaitsFor, waits_for, continues}

-- ---- what a step says

-- the expression goes on with the token
pub record Went (o p : ℕ) (front : List Mark) (token : TokenKind) (more : List TokenKind) (next : Reader) : Type 0 where
  pub stage : Stage
  pub opened : List Opened
  pub role : Role
  pub lawful : Lawful stage opened (begins_integer more)
  pub shows : consumed stage opened ≡ front ++ mark role token ∷ []
  pub is : next ≡ reading (mode_of stage) (frames_of opened) (operators_with o role) (openings_with p role)
  pub fit : Fit (operators_with o role) (openings_with p role)

-- the expression is over before the token
pub record Ended (front : List Mark) (token : TokenKind) (more : List TokenKind) (v : Ast) : Type 0 where
  pub tree : Tree
  pub phrase : IsPhrase tree
  pub means : value tree ≡ v
  pub shows : marks tree ≡ front
  pub ends : EndsOperand (token ∷ more)

-- an expression goes on with these marks, as the tokens do
pub record Leaves (front : List Mark) (token : TokenKind) (more : List TokenKind) : Type 0 where
  pub continues : Continues front
  pub alike : (behind : List TokenKind) → GoesOn token more (kinds continues.more ++ behind)

-- the token is one too many
pub record TooMany (o p : ℕ) (front : List Mark) (token : TokenKind) (more : List TokenKind) : Type 0 where
  pub role : Role
  pub exceeds : ExceedsAfter o p [] role
  pub leaves : Leaves (front ++ mark role token ∷ []) token more

abbrev pub Follows : ℕ → ℕ → List Mark → TokenKind → List TokenKind → Step → Type 0
Follows o p front token more (Goes next) = Went o p front token more next
Follows o p front token more (Ends v) = Ended front token more v
Follows o p front token more Refuses = Unit {0}
Follows o p front token more Deepens = TooMany o p front token more

-- ---- steps by their role

inside_follows : (stage : Stage) (opened : List Opened) (o p : ℕ) (front : List Mark) (token : TokenKind) (more : List TokenKind) → Fit o p →
    Lawful stage opened (begins_integer more) → consumed stage opened ≡ front ++ mark Inside token ∷ [] →
    Follows o p front token more (Goes (reading (mode_of stage) (frames_of opened) o p))
inside_follows stage opened o p front token more fit lawful shows =
    record { stage = stage; opened = opened; role = Inside; lawful = lawful; shows = shows; is = refl; fit = fit }

leaves_same : (front other : List Mark) (token : TokenKind) (more : List TokenKind) → front ≡ other → Leaves front token more → Leaves other token more
leaves_same front other token more same leaves = subst (λ (ms : List Mark). Leaves ms token more) same leaves

operator_follows : (stage : Stage) (opened : List Opened) (m : Mode) (fs : List Frame) (o p : ℕ) (front : List Mark) (token : TokenKind) (more : List TokenKind) → Fit o p →
    Lawful stage opened (begins_integer more) → consumed stage opened ≡ front ++ mark Operator token ∷ [] → Leaves (consumed stage opened) token more →
    Follows o p front token more (with_operator (mode_of stage) (frames_of opened) (reading m fs o p))
operator_follows stage opened m fs o p front token more fit lawful shows leaves = by (nat_lt o MAX_OPERATORS) refl
  where
    by : (within : Bool) → nat_lt o MAX_OPERATORS ≡ within →
        Follows o p front token more (if within then Goes (reading (mode_of stage) (frames_of opened) (o + 1) p) else Deepens)
    by true is = record {
      stage = stage;
      opened = opened;
      role = Operator;
      lawful = lawful;
      shows = shows;
      is = refl;
      fit = (let h : o < MAX_OPERATORS = ltb-true o MAX_OPERATORS is in omega arith, fit.1);
    }
    by false is = record {
      role = Operator;
      exceeds = let h : MAX_OPERATORS ≤ o = ltb-false o MAX_OPERATORS is in omega (arith, fit.0);
      leaves = leaves_same (consumed stage opened) (front ++ mark Operator token ∷ []) token more shows leaves;
    }

opening_follows : (stage : Stage) (opened : List Opened) (m : Mode) (fs : List Frame) (o p : ℕ) (front : List Mark) (token : TokenKind) (more : List TokenKind) → Fit o p →
    Lawful stage opened (begins_integer more) → consumed stage opened ≡ front ++ mark Opening token ∷ [] → Leaves (consumed stage opened) token more →
    Follows o p front token more (with_opening (mode_of stage) (frames_of opened) (reading m fs o p))
opening_follows stage opened m fs o p front token more fit lawful shows leaves = by (nat_lt p MAX_OPENINGS) refl
  where
    by : (within : Bool) → nat_lt p MAX_OPENINGS ≡ within →
        Follows o p front token more (if within then Goes (reading (mode_of stage) (frames_of opened) o (p + 1)) else Deepens)
    by true is = record {
      stage = stage;
      opened = opened;
      role = Opening;
      lawful = lawful;
      shows = shows;
      is = refl;
      fit = (fit.0, let h : p < MAX_OPENINGS = ltb-true p MAX_OPENINGS is in omega arith);
    }
    by false is = record {
      role = Opening;
      exceeds = let h : MAX_OPENINGS ≤ p = ltb-false p MAX_OPENINGS is in omega (arith, fit.1);
      leaves = leaves_same (consumed stage opened) (front ++ mark Opening token ∷ []) token more shows leaves;
    }

leaves_operand : (fs : List Opened) (token : TokenKind) (more : List TokenKind) → Waits fs (begins_integer more) → Leaves (consumed BeforeOperand fs) token more
leaves_operand fs token more waits =
    let w : WaitsFor (consumed BeforeOperand fs) (begins_integer more) = waits_for fs (begins_integer more) waits in
    record { continues = w.continues; alike = λ behind. goes_on token more (kinds w.continues.more ++ behind) (w.alike behind) }

-- ---- where an operand has to begin

read_one : (fs : List Opened) (ms : List Mark) → around fs ++ ms ≡ (around fs ++ []) ++ ms
read_one fs ms = ap (λ l. l ++ ms) (sym (append-nil (around fs)))

opened_one : (f : Opened) (fs : List Opened) → consumed BeforeOperand (f ∷ fs) ≡ (around fs ++ []) ++ opened_marks f
opened_one f fs = append-nil (around fs ++ opened_marks f) ∙ read_one fs (opened_marks f)

literal_follows : (t : Tree) (token : TokenKind) (fs : List Opened) (o p : ℕ) (more : List TokenKind) → Fit o p → Fitted fs t → marks t ≡ inside (token ∷ []) →
    Follows o p (around fs ++ []) token more (Goes (reading (mode.Complete (value t) (level t)) (frames_of fs) o p))
literal_follows t token fs o p more fit fitted shows =
    inside_follows (BehindOperand t) fs o p (around fs ++ []) token more fit fitted (ap (λ l. around fs ++ l) shows ∙ read_one fs (inside (token ∷ [])))

signed_follows : (fs : List Opened) (o p : ℕ) (more : List TokenKind) → Fit o p → AreOpen fs → (b : Bool) → begins_integer more ≡ b →
    Follows o p (around fs ++ []) (kind.Symbol symbol.Minus) more (signed (reading mode.Operand (frames_of fs) o p) b)
signed_follows fs o p more fit opens true is =
    inside_follows BehindSign fs o p (around fs ++ []) (kind.Symbol symbol.Minus) more fit opens (read_one fs (inside (kind.Symbol symbol.Minus ∷ [])))
signed_follows fs o p more fit opens false is =
    let waits : Waits (OpenMinus ∷ fs) (begins_integer more) = record { opens = opens; sign = is } in
    operator_follows BeforeOperand (OpenMinus ∷ fs) mode.Operand (frames_of fs) o p (around fs ++ []) (kind.Symbol symbol.Minus) more fit waits
    (opened_one OpenMinus fs) (leaves_operand (OpenMinus ∷ fs) (kind.Symbol symbol.Minus) more waits)

paren_follows : (fs : List Opened) (o p : ℕ) (more : List TokenKind) → Fit o p → AreOpen fs →
    Follows o p (around fs ++ []) (kind.Symbol symbol.Open) more (with_opening mode.Operand (frame_of OpenParen ∷ frames_of fs) (reading mode.Operand (frames_of fs) o p))
paren_follows fs o p more fit opens =
    let waits : Waits (OpenParen ∷ fs) (begins_integer more) = record { opens = opens; sign = tt } in
    opening_follows BeforeOperand (OpenParen ∷ fs) mode.Operand (frames_of fs) o p (around fs ++ []) (kind.Symbol symbol.Open) more fit waits
    (opened_one OpenParen fs) (leaves_operand (OpenParen ∷ fs) (kind.Symbol symbol.Open) more waits)

denied_follows : (fs : List Opened) (o p : ℕ) (more : List TokenKind) → Fit o p → AreOpen fs → (b : Bool) → nat_le (wanted (frames_of fs)) not_level ≡ b →
    Follows o p (around fs ++ []) (kind.Keyword KNot) more (if b then with_operator mode.Operand (frame_of OpenNot ∷ frames_of fs) (reading mode.Operand (frames_of fs) o p) else Refuses)
denied_follows fs o p more fit opens true is =
    let waits : Waits (OpenNot ∷ fs) (begins_integer more) = record { opens = (opens, leb-true (wanted (frames_of fs)) 2 is); sign = tt } in
    operator_follows BeforeOperand (OpenNot ∷ fs) mode.Operand (frames_of fs) o p (around fs ++ []) (kind.Keyword KNot) more fit waits
    (opened_one OpenNot fs) (leaves_operand (OpenNot ∷ fs) (kind.Keyword KNot) more waits)
denied_follows fs o p more fit opens false is = tt

operand_follows : (token : TokenKind) (fs : List Opened) (o p : ℕ) (more : List TokenKind) → Fit o p → Waits fs (is_some (integer_of token)) →
    Follows o p (around fs ++ []) token more (operand_step (reading mode.Operand (frames_of fs) o p) token (begins_integer more))
unfolding operand_step
operand_follows (kind.Symbol symbol.Minus) fs o p more fit waits = signed_follows fs o p more fit waits.opens (begins_integer more) refl
operand_follows (kind.Symbol symbol.Open) fs o p more fit waits = paren_follows fs o p more fit waits.opens
operand_follows (kind.Symbol _) fs o p more fit waits = tt
operand_follows (kind.Keyword KNot) fs o p more fit waits = denied_follows fs o p more fit waits.opens (nat_le (wanted (frames_of fs)) not_level) refl
operand_follows (kind.Keyword KNull) fs o p more fit waits = literal_follows Null (kind.Keyword KNull) fs o p more fit (fitted_any fs Null waits.opens tt (omega arith) tt) refl
operand_follows (kind.Keyword KTrue) fs o p more fit waits = literal_follows (Truth true) (kind.Keyword KTrue) fs o p more fit (fitted_any fs (Truth true) waits.opens tt (omega arith) tt) refl
operand_follows (kind.Keyword KFalse) fs o p more fit waits = literal_follows (Truth false) (kind.Keyword KFalse) fs o p more fit (fitted_any fs (Truth false) waits.opens tt (omega arith) tt) refl
operand_follows (kind.Keyword _) fs o p more fit waits = tt
operand_follows (kind.Text text) fs o p more fit waits = literal_follows (Text text) (kind.Text text) fs o p more fit (fitted_any fs (Text text) waits.opens tt (omega arith) tt) refl
operand_follows (kind.Name name) fs o p more fit waits = inside_follows (BehindName name) fs o p (around fs ++ []) (kind.Name name) more fit waits.opens (read_one fs (inside (kind.Name name ∷ [])))
operand_follows (kind.Int (pos n)) fs o p more fit waits =
    literal_follows (Int n) (kind.Int (pos n)) fs o p more fit (fitted_whole fs (Int n) waits.opens tt (omega arith) (signs_integer fs n waits.sign)) refl
operand_follows (kind.Int (negsuc n)) fs o p more fit waits = tt

-- ---- behind a whole operand

-- one more mark behind what is whole
behind_one : (opened fs : List Opened) (tree t : Tree) (front : List Mark) (m : Mark) → around opened ++ marks tree ≡ around fs ++ marks t → front ≡ around fs ++ marks t →
    around opened ++ (marks tree ++ m ∷ []) ≡ front ++ m ∷ []
behind_one opened fs tree t front m same is = sym (append_assoc (around opened) (marks tree) (m ∷ [])) ∙ ap (λ l. l ++ m ∷ []) (same ∙ sym is)

infix_follows : (operator : AstOp) (m : Mode) (fs : List Opened) (t : Tree) (o p : ℕ) (front : List Mark) (more : List TokenKind) → Fit o p → front ≡ around fs ++ marks t →
    (s : Settles (level_of operator) fs t) (b : Bool) → nat_le (left_of operator) (level s.tree) ≡ b →
    Follows o p front (operator_kind operator) more (if b then with_operator mode.Operand (frame_of (OpenLeft operator s.tree) ∷ frames_of s.opened) (reading m (frames_of fs) o p) else Refuses)
infix_follows operator m fs t o p front more fit is s true tight =
    let f : Opened = OpenLeft operator s.tree in
    let waits : Waits (f ∷ s.opened) (begins_integer more) = record {
      opens = (s.fitted.opens, open_fits (level_of operator) (frames_of s.opened) (level_within operator) s.stays, s.fitted.phrase, leb-true (left_of operator) (level s.tree) tight);
      sign = tt;
    } in
    operator_follows BeforeOperand (f ∷ s.opened) m (frames_of fs) o p front (operator_kind operator) more fit waits
    (append-nil (around (f ∷ s.opened)) ∙ behind_one s.opened fs s.tree t front (mark Operator (operator_kind operator)) s.same is)
    (leaves_operand (f ∷ s.opened) (operator_kind operator) more waits)
infix_follows operator m fs t o p front more fit is s false tight = tt

is_follows : (m : Mode) (fs : List Opened) (t : Tree) (o p : ℕ) (front : List Mark) (more : List TokenKind) → Fit o p → front ≡ around fs ++ marks t →
    (s : Settles test_level fs t) (b : Bool) → nat_le sum_level (level s.tree) ≡ b →
    Follows o p front (kind.Keyword KIs) more (if b then with_operator (mode.Is (value s.tree)) (frames_of s.opened) (reading m (frames_of fs) o p) else Refuses)
is_follows m fs t o p front more fit is s true tight =
    let tested : Tested s.opened s.tree = record {
      opens = s.fitted.opens;
      phrase = s.fitted.phrase;
      tight = leb-true 4 (level s.tree) tight;
      fits = open_fits 3 (frames_of s.opened) (omega arith) s.stays;
    } in
    operator_follows (BehindIs s.tree) s.opened m (frames_of fs) o p front (kind.Keyword KIs) more fit tested
    (behind_one s.opened fs s.tree t front (mark Operator (kind.Keyword KIs)) s.same is)
    (record { continues = continues (BehindIs s.tree) s.opened (begins_integer more) tested; alike = λ behind. tt })
is_follows m fs t o p front more fit is s false tight = tt

close_follows : (m : Mode) (fs : List Opened) (t : Tree) (o p : ℕ) (front : List Mark) (more : List TokenKind) → Fit o p → front ≡ around fs ++ marks t →
    (tree : Tree) (opened : List Opened) → Fitted opened tree → around opened ++ marks tree ≡ around fs ++ marks t → StaysOpen 0 (frames_of opened) →
    Follows o p front (kind.Symbol symbol.Close) more (close_step (reading m (frames_of fs) o p) (held (value tree) (level tree) (frames_of opened)) (frames_of opened))
close_follows m fs t o p front more fit is tree [] fitted same stays = record { tree = tree; phrase = fitted.phrase; means = refl; shows = same ∙ sym is; ends = (refl, refl) }
close_follows m fs t o p front more fit is tree (OpenParen ∷ opened) fitted same stays =
    inside_follows (BehindOperand (Paren tree)) opened o p front (kind.Symbol symbol.Close) more fit (shut OpenParen opened tree fitted)
    (around_shut OpenParen opened tree ∙ ap (λ l. l ++ inside (kind.Symbol symbol.Close ∷ [])) (same ∙ sym is))
close_follows m fs t o p front more fit is tree (OpenMinus ∷ opened) fitted same stays = absurd (let h : 6 < 0 = leb-false 0 6 stays in omega arith)
close_follows m fs t o p front more fit is tree (OpenNot ∷ opened) fitted same stays = absurd (let h : 2 < 0 = leb-false 0 2 stays in omega arith)
close_follows m fs t o p front more fit is tree (OpenLeft operator a ∷ opened) fitted same stays = absurd (let h : level_of operator < 0 = leb-false 0 (level_of operator) stays in omega arith)

end_follows : (fs : List Opened) (t : Tree) (o p : ℕ) (front : List Mark) (token : TokenKind) (more : List TokenKind) → front ≡ around fs ++ marks t →
    (tree : Tree) (opened : List Opened) → Fitted opened tree → around opened ++ marks tree ≡ around fs ++ marks t → EndsOperand (token ∷ more) →
    Follows o p front token more (end_step (held (value tree) (level tree) (frames_of opened)) (frames_of opened))
end_follows fs t o p front token more is tree [] fitted same ends = record { tree = tree; phrase = fitted.phrase; means = refl; shows = same ∙ sym is; ends = ends }
end_follows fs t o p front token more is tree (f ∷ opened) fitted same ends = tt

complete_follows : (m : Mode) (fs : List Opened) (t : Tree) (o p : ℕ) (front : List Mark) (token : TokenKind) (more : List TokenKind) → Fit o p → front ≡ around fs ++ marks t → Fitted fs t →
    Follows o p front token more (complete_step (reading m (frames_of fs) o p) (value t) (level t) token)
unfolding complete_step
complete_follows m fs t o p front token more fit is fitted = by (operator_of token) refl
  where
    reader : Reader
    reader = reading m (frames_of fs) o p

    ended : operator_of token ≡ None → is_keyword KIs token ≡ false → (close : Bool) → is_symbol symbol.Close token ≡ close →
        Follows o p front token more (if close then close_step reader (settled 0 (value t) (level t) (frames_of fs)) (settled 0 (value t) (level t) (frames_of fs)).frames
        else end_step (settled 0 (value t) (level t) (frames_of fs)) (settled 0 (value t) (level t) (frames_of fs)).frames)
    ended none no_test true closes =
        let s : Settles 0 fs t = settle 0 fs t fitted in
        subst (λ (token : TokenKind). Follows o p front token more (close_step reader (settled 0 (value t) (level t) (frames_of fs)) (settled 0 (value t) (level t) (frames_of fs)).frames))
        (sym (symbol_token symbol.Close token closes))
        (subst (λ h. Follows o p front (kind.Symbol symbol.Close) more (close_step reader h h.frames)) (sym s.is)
        (close_follows m fs t o p front more fit is s.tree s.opened s.fitted s.same s.stays))
    ended none no_test false closes =
        let s : Settles 0 fs t = settle 0 fs t fitted in
        subst (λ h. Follows o p front token more (end_step h h.frames)) (sym s.is)
        (end_follows fs t o p front token more is s.tree s.opened s.fitted s.same (none, no_test))

    tested : operator_of token ≡ None → (test : Bool) → is_keyword KIs token ≡ test →
        Follows o p front token more (if test then is_step reader (settled test_level (value t) (level t) (frames_of fs))
        else (if is_symbol symbol.Close token then close_step reader (settled 0 (value t) (level t) (frames_of fs)) (settled 0 (value t) (level t) (frames_of fs)).frames
        else end_step (settled 0 (value t) (level t) (frames_of fs)) (settled 0 (value t) (level t) (frames_of fs)).frames))
    tested none true tests =
        let s : Settles test_level fs t = settle test_level fs t fitted in
        subst (λ (token : TokenKind). Follows o p front token more (is_step reader (settled test_level (value t) (level t) (frames_of fs)))) (sym (keyword_token KIs token tests))
        (subst (λ h. Follows o p front (kind.Keyword KIs) more (is_step reader h)) (sym s.is)
        (is_follows m fs t o p front more fit is s (nat_le sum_level (level s.tree)) refl))
    tested none false tests = ended none tests (is_symbol symbol.Close token) refl

    by : (operator : Option AstOp) → operator_of token ≡ operator → Follows o p front token more (behind_step reader (value t) (level t) token operator)
    by (Some operator) found =
        let s : Settles (level_of operator) fs t = settle (level_of operator) fs t fitted in
        subst (λ (token : TokenKind). Follows o p front token more (infix_step reader operator (settled (level_of operator) (value t) (level t) (frames_of fs))))
        (sym (operator_token token operator found))
        (subst (λ h. Follows o p front (operator_kind operator) more (infix_step reader operator h)) (sym s.is)
        (infix_follows operator m fs t o p front more fit is s (nat_le (left_of operator) (level s.tree)) refl))
    by None none = tested none (is_keyword KIs token) refl

-- ---- elsewhere

sign_follows : (token : TokenKind) (fs : List Opened) (o p : ℕ) (more : List TokenKind) → Fit o p → AreOpen fs →
    Follows o p (consumed BehindSign fs) token more (negative (reading mode.Negative (frames_of fs) o p) (integer_of token))
sign_follows (kind.Int (pos n)) fs o p more fit opens =
    inside_follows (BehindOperand (Negative n)) fs o p (consumed BehindSign fs) (kind.Int (pos n)) more fit (fitted_any fs (Negative n) opens tt (omega arith) tt)
    (sym (append_assoc (around fs) (stage_marks BehindSign) (inside (kind.Int (pos n) ∷ []))))
sign_follows (kind.Int (negsuc n)) fs o p more fit opens = tt
sign_follows (kind.Name n) fs o p more fit opens = tt
sign_follows (kind.Text t) fs o p more fit opens = tt
sign_follows (kind.Keyword k) fs o p more fit opens = tt
sign_follows (kind.Symbol s) fs o p more fit opens = tt

name_follows : (name : List ℕ) (fs : List Opened) (o p : ℕ) (token : TokenKind) (more : List TokenKind) → Fit o p → AreOpen fs → (dot : Bool) → is_symbol symbol.Dot token ≡ dot →
    Follows o p (consumed (BehindName name) fs) token more
    (if dot then Goes (reading (mode.Qualified name) (frames_of fs) o p)
    else complete_step (reading (mode.Named name) (frames_of fs) o p) (value (Column (record { table = None; name = name }))) 7 token)
name_follows name fs o p token more fit opens true dots =
    inside_follows (BehindDot name) fs o p (consumed (BehindName name) fs) token more fit opens
    (sym (append_assoc (around fs) (stage_marks (BehindName name)) (inside (kind.Symbol symbol.Dot ∷ [])))
    ∙ ap (λ k. consumed (BehindName name) fs ++ mark Inside k ∷ []) (sym (symbol_token symbol.Dot token dots)))
name_follows name fs o p token more fit opens false dots =
    complete_follows (mode.Named name) fs (Column (record { table = None; name = name })) o p (consumed (BehindName name) fs) token more fit refl
    (fitted_any fs (Column (record { table = None; name = name })) opens tt (omega arith) tt)

dot_follows : (token : TokenKind) (table : List ℕ) (fs : List Opened) (o p : ℕ) (more : List TokenKind) → Fit o p → AreOpen fs →
    Follows o p (consumed (BehindDot table) fs) token more (qualified_step (reading (mode.Qualified table) (frames_of fs) o p) table token)
dot_follows (kind.Name name) table fs o p more fit opens =
    inside_follows (BehindOperand (Column (record { table = Some table; name = name }))) fs o p (consumed (BehindDot table) fs) (kind.Name name) more fit
    (fitted_any fs (Column (record { table = Some table; name = name })) opens tt (omega arith) tt)
    (sym (append_assoc (around fs) (stage_marks (BehindDot table)) (inside (kind.Name name ∷ []))))
dot_follows (kind.Int n) table fs o p more fit opens = tt
dot_follows (kind.Text t) table fs o p more fit opens = tt
dot_follows (kind.Keyword k) table fs o p more fit opens = tt
dot_follows (kind.Symbol s) table fs o p more fit opens = tt

-- a test that ends with NULL
null_follows : (stage : Stage) (t : Tree) (is_not : Bool) (fs : List Opened) (o p : ℕ) (token : TokenKind) (more : List TokenKind) → Fit o p → Tested fs t →
    marks (IsNull t is_not) ≡ stage_marks stage ++ inside (kind.Keyword KNull ∷ []) → is_keyword KNull token ≡ true →
    Follows o p (consumed stage fs) token more (Goes (reading (mode.Complete (value (IsNull t is_not)) test_level) (frames_of fs) o p))
null_follows stage t is_not fs o p token more fit tested shows null =
    inside_follows (BehindOperand (IsNull t is_not)) fs o p (consumed stage fs) token more fit (fitted_test fs t is_not tested)
    (ap (λ l. around fs ++ l) shows ∙ sym (append_assoc (around fs) (stage_marks stage) (inside (kind.Keyword KNull ∷ [])))
    ∙ ap (λ k. consumed stage fs ++ mark Inside k ∷ []) (sym (keyword_token KNull token null)))

test_follows : (t : Tree) (fs : List Opened) (o p : ℕ) (token : TokenKind) (more : List TokenKind) → Fit o p → Tested fs t → (null is_not : Bool) →
    is_keyword KNull token ≡ null → is_keyword KNot token ≡ is_not →
    Follows o p (consumed (BehindIs t) fs) token more
    (if null then Goes (reading (mode.Complete (value (IsNull t false)) test_level) (frames_of fs) o p)
    else (if is_not then Goes (reading (mode.IsNot (value t)) (frames_of fs) o p) else Refuses))
test_follows t fs o p token more fit tested true is_not null denies =
    null_follows (BehindIs t) t false fs o p token more fit tested (sym (append_assoc (marks t) (mark Operator (kind.Keyword KIs) ∷ []) (inside (kind.Keyword KNull ∷ [])))) null
test_follows t fs o p token more fit tested false true null denies =
    inside_follows (BehindIsNot t) fs o p (consumed (BehindIs t) fs) token more fit tested
    (ap (λ l. around fs ++ l) (sym (append_assoc (marks t) (mark Operator (kind.Keyword KIs) ∷ []) (inside (kind.Keyword KNot ∷ []))))
    ∙ sym (append_assoc (around fs) (stage_marks (BehindIs t)) (inside (kind.Keyword KNot ∷ [])))
    ∙ ap (λ k. consumed (BehindIs t) fs ++ mark Inside k ∷ []) (sym (keyword_token KNot token denies)))
test_follows t fs o p token more fit tested false false null denies = tt

not_follows : (t : Tree) (fs : List Opened) (o p : ℕ) (token : TokenKind) (more : List TokenKind) → Fit o p → Tested fs t → (null : Bool) → is_keyword KNull token ≡ null →
    Follows o p (consumed (BehindIsNot t) fs) token more (if null then Goes (reading (mode.Complete (value (IsNull t true)) test_level) (frames_of fs) o p) else Refuses)
not_follows t fs o p token more fit tested true null =
    null_follows (BehindIsNot t) t true fs o p token more fit tested
    (sym (append_assoc (marks t) (mark Operator (kind.Keyword KIs) ∷ inside (kind.Keyword KNot ∷ [])) (inside (kind.Keyword KNull ∷ [])))) null
not_follows t fs o p token more fit tested false null = tt

-- what each token does
pub follows : (stage : Stage) (fs : List Opened) (o p : ℕ) (token : TokenKind) (more : List TokenKind) → Fit o p → Lawful stage fs (is_some (integer_of token)) →
    Follows o p (consumed stage fs) token more (step (reading (mode_of stage) (frames_of fs) o p) token (begins_integer more))
unfolding step
follows BeforeOperand fs o p token more fit lawful = operand_follows token fs o p more fit lawful
follows BehindSign fs o p token more fit lawful = sign_follows token fs o p more fit lawful
follows (BehindName name) fs o p token more fit lawful = name_follows name fs o p token more fit lawful (is_symbol symbol.Dot token) refl
follows (BehindDot table) fs o p token more fit lawful = dot_follows token table fs o p more fit lawful
follows (BehindOperand t) fs o p token more fit lawful = complete_follows (mode.Complete (value t) (level t)) fs t o p (consumed (BehindOperand t) fs) token more fit refl lawful
follows (BehindIs t) fs o p token more fit lawful = test_follows t fs o p token more fit lawful (is_keyword KNull token) (is_keyword KNot token) refl refl
follows (BehindIsNot t) fs o p token more fit lawful = not_follows t fs o p token more fit lawful (is_keyword KNull token) refl
