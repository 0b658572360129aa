-- How far an expression is read, with the trees of what was read; and how it may go on.
use Rattle.std.proofs.Common.{◌≡◌, ◌≤◌, ℕ, Bool, true, false, List, [], ◌∷◌, ◌++◌, Some, None, pos, refl, sym, ap, ◌∙◌, arith, append_assoc}
use Rattle.sql_lex.specs.declared.keyword.Keyword.TheVariants.{KNot, KIs, KNull}
use Rattle.sql_lex.specs.declared.symbol.Symbol.TheVariants as symbol
use Rattle.sql_lex.specs.declared.token.TokenKind.{TokenKind}
use Rattle.sql_lex.specs.declared.token.TokenKind.TheVariants as kind
use Rattle.sql_parse.specs.declared.expression.reader.Mode.{Mode}
use Rattle.sql_parse.specs.declared.expression.reader.Mode.TheVariants as mode
use Rattle.sql_parse.specs.inner.Levels.{test_level, sum_level}
use Rattle.sql_parse.specs.Trees.{Operator, Mark, mark, inside, kinds, marks, value, Tree, Int, Negative, Null, Column, IsNull, TakesSign}
use Rattle.sql_parse.specs.Grammar.{begins_integer}
use Rattle.sql_parse.specs.inner.Expressions.{wanted}
use Rattle.sql_parse.proofs.ExpressionPhrases.{level, IsPhrase}
use Rattle.sql_parse.proofs.ExpressionOpened.{Opened, OpenParen, OpenMinus, OpenNot, OpenLeft, frames_of, around, AreOpen, Signs, signs_any, Fitted, wanted_within, Continues, close_all}

pub data Stage : Type 0 where
  BeforeOperand : Stage
  BehindSign : Stage
  BehindName : List ℕ → Stage
  BehindDot : List ℕ → Stage
  BehindOperand : Tree → Stage
  BehindIs : Tree → Stage
  BehindIsNot : Tree → Stage

abbrev pub mode_of : Stage → Mode
mode_of BeforeOperand = mode.Operand
mode_of BehindSign = mode.Negative
mode_of (BehindName name) = mode.Named name
mode_of (BehindDot table) = mode.Qualified table
mode_of (BehindOperand t) = mode.Complete (value t) (level t)
mode_of (BehindIs t) = mode.Is (value t)
mode_of (BehindIsNot t) = mode.IsNot (value t)

-- the tokens of the innermost operand
abbrev pub stage_marks : Stage → List Mark
stage_marks BeforeOperand = []
stage_marks BehindSign = inside (kind.Symbol symbol.Minus ∷ [])
stage_marks (BehindName name) = inside (kind.Name name ∷ [])
stage_marks (BehindDot table) = inside (kind.Name table ∷ kind.Symbol symbol.Dot ∷ [])
stage_marks (BehindOperand t) = marks t
stage_marks (BehindIs t) = marks t ++ mark Operator (kind.Keyword KIs) ∷ []
stage_marks (BehindIsNot t) = marks t ++ mark Operator (kind.Keyword KIs) ∷ inside (kind.Keyword KNot ∷ [])

-- the tokens that were read
abbrev pub consumed : Stage → List Opened → List Mark
consumed stage opened = around opened ++ stage_marks stage

-- behind a sign that is an operator stands no integer
abbrev pub SignStands : List Opened → Bool → Type 0
SignStands (OpenMinus ∷ fs) before_integer = before_integer ≡ false
SignStands _ before_integer = Unit {0}

-- what is tested fits what is open around it
pub record Tested (fs : List Opened) (t : Tree) : Type 0 where
  pub opens : AreOpen fs
  pub phrase : IsPhrase t
  pub tight : sum_level ≤ level t
  pub fits : wanted (frames_of fs) ≤ test_level

pub record Waits (fs : List Opened) (before_integer : Bool) : Type 0 where
  pub opens : AreOpen fs
  pub sign : SignStands fs before_integer

-- what was read is the beginning of an expression
abbrev pub Lawful : Stage → List Opened → Bool → Type 0
Lawful BeforeOperand fs before_integer = Waits fs before_integer
Lawful BehindSign fs before_integer = AreOpen fs
Lawful (BehindName name) fs before_integer = AreOpen fs
Lawful (BehindDot table) fs before_integer = AreOpen fs
Lawful (BehindOperand t) fs before_integer = Fitted fs t
Lawful (BehindIs t) fs before_integer = Tested fs t
Lawful (BehindIsNot t) fs before_integer = Tested fs t

-- ---- operands that are whole

pub fitted_whole : (fs : List Opened) (t : Tree) → AreOpen fs → IsPhrase t → 7 ≤ level t → Signs fs t → Fitted fs t
fitted_whole fs t opens phrase tight signs = record { opens = opens; phrase = phrase; fits = omega (arith, wanted_within (frames_of fs)); signs = signs }

pub fitted_any : (fs : List Opened) (t : Tree) → AreOpen fs → IsPhrase t → 7 ≤ level t → TakesSign t → Fitted fs t
fitted_any fs t opens phrase tight takes = fitted_whole fs t opens phrase tight (signs_any fs t takes)

pub fitted_test : (fs : List Opened) (t : Tree) (is_not : Bool) → Tested fs t → Fitted fs (IsNull t is_not)
fitted_test fs t is_not tested = record { opens = tested.opens; phrase = (tested.phrase, tested.tight); fits = tested.fits; signs = signs_any fs (IsNull t is_not) tt }

-- ---- going on

from_closed : (front next : List Mark) → Continues (front ++ next) → (read more : List Mark) → next ≡ read ++ more → Continues (front ++ read)
from_closed front next closed read more is = record {
  tree = closed.tree;
  more = more ++ closed.more;
  phrase = closed.phrase;
  shows = closed.shows
      ∙ ap (λ l. (front ++ l) ++ closed.more) is
      ∙ ap (λ l. l ++ closed.more) (sym (append_assoc front read more))
      ∙ append_assoc (front ++ read) more closed.more;
}

-- an integer where one is wanted, and else NULL
abbrev pub operand_by : Bool → Tree
operand_by true = Int 0
operand_by false = Null

pub signs_integer : (fs : List Opened) (n : ℕ) → SignStands fs true → Signs fs (Int n)
signs_integer [] n sign = tt
signs_integer (OpenParen ∷ fs) n sign = tt
signs_integer (OpenMinus ∷ fs) n sign = cc sign
signs_integer (OpenNot ∷ fs) n sign = tt
signs_integer (OpenLeft operator a ∷ fs) n sign = tt

operand_fits : (fs : List Opened) (before_integer : Bool) → Waits fs before_integer → Fitted fs (operand_by before_integer)
operand_fits fs false waits = fitted_any fs Null waits.opens tt (omega arith) tt
operand_fits fs true waits = fitted_whole fs (Int 0) waits.opens tt (omega arith) (signs_integer fs 0 waits.sign)

-- an expression goes on with an operand: with an integer, or with none
pub record WaitsFor (front : List Mark) (before_integer : Bool) : Type 0 where
  pub continues : Continues front
  pub alike : (behind : List TokenKind) → begins_integer (kinds continues.more ++ behind) ≡ before_integer

pub waits_for : (fs : List Opened) (before_integer : Bool) → Waits fs before_integer → WaitsFor (consumed BeforeOperand fs) before_integer
unfolding from_closed
waits_for fs true waits = record {
  continues = from_closed (around fs) (marks (Int 0)) (close_all fs (Int 0) (operand_fits fs true waits)) [] (marks (Int 0)) refl;
  alike = λ behind. refl;
}
waits_for fs false waits = record {
  continues = from_closed (around fs) (marks Null) (close_all fs Null (operand_fits fs false waits)) [] (marks Null) refl;
  alike = λ behind. refl;
}

-- what was read is the beginning of an expression
pub continues : (stage : Stage) (fs : List Opened) (before_integer : Bool) → Lawful stage fs before_integer → Continues (consumed stage fs)
continues BeforeOperand fs before_integer lawful = (waits_for fs before_integer lawful).continues
continues BehindSign fs before_integer lawful =
    from_closed (around fs) (marks (Negative 0)) (close_all fs (Negative 0) (fitted_any fs (Negative 0) lawful tt (omega arith) tt))
    (stage_marks BehindSign) (inside (kind.Int (pos 0) ∷ [])) refl
continues (BehindName name) fs before_integer lawful =
    close_all fs (Column (record { table = None; name = name })) (fitted_any fs (Column (record { table = None; name = name })) lawful tt (omega arith) tt)
continues (BehindDot table) fs before_integer lawful =
    from_closed (around fs) (marks (Column (record { table = Some table; name = [] })))
    (close_all fs (Column (record { table = Some table; name = [] })) (fitted_any fs (Column (record { table = Some table; name = [] })) lawful tt (omega arith) tt))
    (stage_marks (BehindDot table)) (inside (kind.Name [] ∷ [])) refl
continues (BehindOperand t) fs before_integer lawful = close_all fs t lawful
continues (BehindIs t) fs before_integer lawful =
    from_closed (around fs) (marks (IsNull t false)) (close_all fs (IsNull t false) (fitted_test fs t false lawful))
    (stage_marks (BehindIs t)) (inside (kind.Keyword KNull ∷ [])) (sym (append_assoc (marks t) (mark Operator (kind.Keyword KIs) ∷ []) (inside (kind.Keyword KNull ∷ []))))
continues (BehindIsNot t) fs before_integer lawful =
    from_closed (around fs) (marks (IsNull t true)) (close_all fs (IsNull t true) (fitted_test fs t true lawful))
    (stage_marks (BehindIsNot t)) (inside (kind.Keyword KNull ∷ []))
    (sym (append_assoc (marks t) (mark Operator (kind.Keyword KIs) ∷ inside (kind.Keyword KNot ∷ [])) (inside (kind.Keyword KNull ∷ []))))
