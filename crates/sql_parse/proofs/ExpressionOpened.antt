-- What is open around an operand, with the trees of what was read; and how it is closed.
use Rattle.std.proofs.Common.{◌≡◌, ◌≤◌, ℕ, Bool, true, false, List, [], ◌∷◌, ◌++◌, refl, sym, ap, ap₂, ◌∙◌, arith, append_assoc, append-nil}
use Rattle.sql_ast.specs.declared.ast.AstOp.{AstOp}
use Rattle.sql_lex.specs.declared.keyword.Keyword.TheVariants.{KNot}
use Rattle.sql_lex.specs.declared.symbol.Symbol.TheVariants as symbol
use Rattle.sql_lex.specs.declared.token.TokenKind.TheVariants as kind
use Rattle.sql_parse.specs.declared.expression.frame.Frame.{Frame}
use Rattle.sql_parse.specs.declared.expression.frame.Frame.TheVariants as frame
use Rattle.sql_parse.specs.Kinds.{operator_kind}
use Rattle.sql_parse.specs.inner.Levels.{level_of, left_of, not_level}
use Rattle.sql_parse.specs.Trees.{Operator, Opening, Mark, mark, inside, marks, value, Tree, Paren, Minus, Infix, Not, TakesSign}
use Rattle.sql_parse.specs.inner.Expressions.{wanted, is_closed, applied, frame_level, settled}
use Rattle.sql_parse.proofs.ExpressionPhrases.{level, IsPhrase}
use Rattle.sql_parse.proofs.ExpressionTokens.{level_within}
use Rattle.sql_parse.proofs.ExpressionSteps.{held, settles, stays, StaysOpen}

pub data Opened : Type 0 where
  OpenParen : Opened
  OpenMinus : Opened
  OpenNot : Opened
  -- an operator with its left operand
  OpenLeft : AstOp → Tree → Opened

abbrev pub frame_of : Opened → Frame
frame_of OpenParen = frame.Paren
frame_of OpenMinus = frame.Minus
frame_of OpenNot = frame.Not
frame_of (OpenLeft operator a) = frame.Left operator (value a)

abbrev pub frames_of : List Opened → List Frame
frames_of [] = []
frames_of (f ∷ fs) = frame_of f ∷ frames_of fs

abbrev pub opened_marks : Opened → List Mark
opened_marks OpenParen = mark Opening (kind.Symbol symbol.Open) ∷ []
opened_marks OpenMinus = mark Operator (kind.Symbol symbol.Minus) ∷ []
opened_marks OpenNot = mark Operator (kind.Keyword KNot) ∷ []
opened_marks (OpenLeft operator a) = marks a ++ mark Operator (operator_kind operator) ∷ []

-- the tokens of all that is open, from the outermost on
abbrev pub around : List Opened → List Mark
around [] = []
around (f ∷ fs) = around fs ++ opened_marks f

-- each is as tight as what is open around it wants
abbrev pub AreOpen : List Opened → Type 0
AreOpen [] = Unit {0}
AreOpen (OpenParen ∷ fs) = AreOpen fs
AreOpen (OpenMinus ∷ fs) = AreOpen fs
AreOpen (OpenNot ∷ fs) = AreOpen fs × (wanted (frames_of fs) ≤ not_level)
AreOpen (OpenLeft operator a ∷ fs) = AreOpen fs × (wanted (frames_of fs) ≤ level_of operator) × IsPhrase a × (left_of operator ≤ level a)

-- a sign that was read as an operator has no integer behind it
abbrev pub Signs : List Opened → Tree → Type 0
Signs (OpenMinus ∷ fs) t = TakesSign t
Signs _ t = Unit {0}

pub signs_any : (fs : List Opened) (t : Tree) → TakesSign t → Signs fs t
signs_any [] t takes = tt
signs_any (OpenParen ∷ fs) t takes = tt
signs_any (OpenMinus ∷ fs) t takes = takes
signs_any (OpenNot ∷ fs) t takes = tt
signs_any (OpenLeft operator a ∷ fs) t takes = tt

-- the operand fits what is open around it
pub record Fitted (fs : List Opened) (t : Tree) : Type 0 where
  pub opens : AreOpen fs
  pub phrase : IsPhrase t
  pub fits : wanted (frames_of fs) ≤ level t
  pub signs : Signs fs t

pub wanted_within : (frames : List Frame) → wanted frames ≤ 6
wanted_within [] = omega arith
wanted_within (frame.Paren ∷ frames) = omega arith
wanted_within (frame.Minus ∷ frames) = omega arith
wanted_within (frame.Not ∷ frames) = omega arith
wanted_within (frame.Left operator a ∷ frames) = omega (arith, level_within operator)

-- ---- closing

abbrev pub closed_by : Opened → Tree → Tree
closed_by OpenParen t = Paren t
closed_by OpenMinus t = Minus t
closed_by OpenNot t = Not t
closed_by (OpenLeft operator a) t = Infix operator a t

-- what closes it, by a token of its own
abbrev pub closing_marks : Opened → List Mark
closing_marks OpenParen = inside (kind.Symbol symbol.Close ∷ [])
closing_marks OpenMinus = []
closing_marks OpenNot = []
closing_marks (OpenLeft operator a) = []

pub shut : (f : Opened) (fs : List Opened) (t : Tree) → Fitted (f ∷ fs) t → Fitted fs (closed_by f t)
shut OpenParen fs t fitted = record { opens = fitted.opens; phrase = fitted.phrase; fits = omega (arith, wanted_within (frames_of fs)); signs = signs_any fs (Paren t) tt }
shut OpenMinus fs t fitted = record {
  opens = fitted.opens;
  phrase = (fitted.phrase, fitted.fits, fitted.signs);
  fits = wanted_within (frames_of fs);
  signs = signs_any fs (Minus t) tt;
}
shut OpenNot fs t fitted = record { opens = fitted.opens.0; phrase = (fitted.phrase, fitted.fits); fits = fitted.opens.1; signs = signs_any fs (Not t) tt }
shut (OpenLeft operator a) fs t fitted = record {
  opens = fitted.opens.0;
  phrase = (fitted.opens.2, fitted.phrase, fitted.opens.3, fitted.fits);
  fits = fitted.opens.1;
  signs = signs_any fs (Infix operator a t) tt;
}

shut_marks : (f : Opened) (t : Tree) → marks (closed_by f t) ≡ (opened_marks f ++ marks t) ++ closing_marks f
shut_marks OpenParen t = refl
shut_marks OpenMinus t = ap (λ l. mark Operator (kind.Symbol symbol.Minus) ∷ l) (sym (append-nil (marks t)))
shut_marks OpenNot t = ap (λ l. mark Operator (kind.Keyword KNot) ∷ l) (sym (append-nil (marks t)))
shut_marks (OpenLeft operator a) t =
    sym (append_assoc (marks a) (mark Operator (operator_kind operator) ∷ []) (marks t))
    ∙ sym (append-nil ((marks a ++ mark Operator (operator_kind operator) ∷ []) ++ marks t))

-- what was read before is what was read with the closing token
pub around_shut : (f : Opened) (fs : List Opened) (t : Tree) → around fs ++ marks (closed_by f t) ≡ (around (f ∷ fs) ++ marks t) ++ closing_marks f
around_shut f fs t =
    ap (λ l. around fs ++ l) (shut_marks f t)
    ∙ sym (append_assoc (around fs) (opened_marks f ++ marks t) (closing_marks f))
    ∙ ap (λ l. l ++ closing_marks f) (sym (append_assoc (around fs) (opened_marks f) (marks t)))

shut_value : (f : Opened) (t : Tree) → applied (frame_of f) (value t) ≡ value (closed_by f t)
shut_value OpenParen t = refl
shut_value OpenMinus t = refl
shut_value OpenNot t = refl
shut_value (OpenLeft operator a) t = refl

shut_level : (f : Opened) (t : Tree) → frame_level (frame_of f) ≡ level (closed_by f t)
shut_level OpenParen t = refl
shut_level OpenMinus t = refl
shut_level OpenNot t = refl
shut_level (OpenLeft operator a) t = refl

-- ---- what a token closes

pub record Settles (bound : ℕ) (fs : List Opened) (t : Tree) : Type 0 where
  pub tree : Tree
  pub opened : List Opened
  pub is : settled bound (value t) (level t) (frames_of fs) ≡ held (value tree) (level tree) (frames_of opened)
  pub fitted : Fitted opened tree
  pub same : around opened ++ marks tree ≡ around fs ++ marks t
  pub stays : StaysOpen bound (frames_of opened)

no_token : (bound : ℕ) (f : Opened) → is_closed bound (frame_of f) ≡ true → closing_marks f ≡ []
no_token bound OpenParen closes = absurd (cc closes)
no_token bound OpenMinus closes = refl
no_token bound OpenNot closes = refl
no_token bound (OpenLeft operator a) closes = refl

closes_one : (bound : ℕ) (f : Opened) (fs : List Opened) (t : Tree) → is_closed bound (frame_of f) ≡ true → Settles bound fs (closed_by f t) → Settles bound (f ∷ fs) t
closes_one bound f fs t closes further = record {
  tree = further.tree;
  opened = further.opened;
  is = settles bound (value t) (level t) (frame_of f) (frames_of fs) closes
      ∙ ap₂ (λ v l. settled bound v l (frames_of fs)) (shut_value f t) (shut_level f t)
      ∙ further.is;
  fitted = further.fitted;
  same = further.same ∙ around_shut f fs t ∙ ap (λ l. (around (f ∷ fs) ++ marks t) ++ l) (no_token bound f closes) ∙ append-nil (around (f ∷ fs) ++ marks t);
  stays = further.stays;
}

stays_all : (bound : ℕ) (fs : List Opened) (t : Tree) → settled bound (value t) (level t) (frames_of fs) ≡ held (value t) (level t) (frames_of fs) →
    Fitted fs t → StaysOpen bound (frames_of fs) → Settles bound fs t
stays_all bound fs t is fitted stays = record { tree = t; opened = fs; is = is; fitted = fitted; same = refl; stays = stays }

pub settle : (bound : ℕ) (fs : List Opened) (t : Tree) → Fitted fs t → Settles bound fs t
settle bound [] t fitted = stays_all bound [] t refl fitted tt
settle bound (f ∷ fs) t fitted = by (is_closed bound (frame_of f)) refl (settle bound fs (closed_by f t) (shut f fs t fitted))
  where
    by : (closes : Bool) → is_closed bound (frame_of f) ≡ closes → Settles bound fs (closed_by f t) → Settles bound (f ∷ fs) t
    by true is further = closes_one bound f fs t is further
    by false is further = stays_all bound (f ∷ fs) t (stays bound (value t) (level t) (frames_of (f ∷ fs)) is) fitted is

-- ---- closing all

-- an expression that begins with the marks
pub record Continues (front : List Mark) : Type 0 where
  pub tree : Tree
  pub more : List Mark
  pub phrase : IsPhrase tree
  pub shows : marks tree ≡ front ++ more

pub close_all : (fs : List Opened) (t : Tree) → Fitted fs t → Continues (around fs ++ marks t)
close_all [] t fitted = record { tree = t; more = []; phrase = fitted.phrase; shows = sym (append-nil (marks t)) }
close_all (f ∷ fs) t fitted =
    let further : Continues (around fs ++ marks (closed_by f t)) = close_all fs (closed_by f t) (shut f fs t fitted) in
    record {
      tree = further.tree;
      more = closing_marks f ++ further.more;
      phrase = further.phrase;
      shows = further.shows ∙ ap (λ l. l ++ further.more) (around_shut f fs t) ∙ append_assoc (around (f ∷ fs) ++ marks t) (closing_marks f) further.more;
    }
