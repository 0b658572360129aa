-- What is read is written: what the reader of expressions answers, in the terms of trees.
use Rattle.std.proofs.Common.{◌≡◌, ℕ, Bool, false, List, [], ◌∷◌, ◌++◌, length, None, Ok, Err, refl, sym, ap, ◌∙◌, subst, arith, append_assoc, add-one}
use Rattle.sql_ast.specs.declared.ast.Ast.{Ast}
use Rattle.sql_lex.specs.declared.token.TokenKind.{TokenKind}
use Rattle.sql_parse.specs.declared.stop.Stop.TheVariants.{Stuck, Deep, NoMemory}
use Rattle.sql_parse.specs.Trees.{Role, Operator, Opening, Inside, Outside, Mark, mark, kinds, marks, value, Tree, Column}
use Rattle.sql_parse.specs.Grammar.{since_operators, since_openings, Exceeds, begins_integer}
use Rattle.sql_parse.specs.inner.Expressions.{Step, Goes, Ends, Refuses, Deepens, run, start, step, finished, closed, settled, at_end, by_step}
use Rattle.sql_parse.specs.inner.Reading.{expression}
use Rattle.sql_parse.proofs.ExpressionPhrases.{level, IsPhrase}
use Rattle.sql_parse.proofs.ExpressionLaws.{Fits, EndsOperand, IsDeepAt, ReadIsWritten, StuckIsAtEnd, RefusedIsDeep, ExpressionLaws}
use Rattle.sql_parse.proofs.ExpressionSteps.{reading}
use Rattle.sql_parse.proofs.ExpressionCounts.{Answer, kinds_append}
use Rattle.sql_parse.proofs.ExpressionPlaces.{Whole, AtFault, locally}
use Rattle.sql_parse.proofs.ExpressionLimits.{ExceedsAfter, operators_with, openings_with, Fit}
use Rattle.sql_parse.proofs.ExpressionDepth.{AllWithin, tree_within, within_front, operators_append, openings_append, none_exceeds, complete, deep, memory, limits, fitting}
use Rattle.sql_parse.proofs.ExpressionOpened.{Opened, frames_of, around, Fitted, Settles, settle, Continues}
use Rattle.sql_parse.proofs.ExpressionStages.{Stage, BeforeOperand, BehindSign, BehindName, BehindDot, BehindOperand, BehindIs, BehindIsNot, mode_of, consumed, Lawful, fitted_any, continues}
use Rattle.sql_parse.proofs.ExpressionMoves.{Ended, TooMany, Follows, follows}

-- ---- the counts

-- so many operators and openings are among the marks, and none is too many
pub record Counted (o p : ℕ) (front : List Mark) : Type 0 where
  pub operators : since_operators 0 front ≡ o
  pub openings : since_openings 0 front ≡ p
  pub fit : Fit o p

operators_mark : (n : ℕ) (role : Role) (token : TokenKind) → since_operators n (mark role token ∷ []) ≡ operators_with n role
operators_mark n Operator token = refl
operators_mark n Opening token = refl
operators_mark n Inside token = refl
operators_mark n Outside token = refl

openings_mark : (n : ℕ) (role : Role) (token : TokenKind) → since_openings n (mark role token ∷ []) ≡ openings_with n role
openings_mark n Operator token = refl
openings_mark n Opening token = refl
openings_mark n Inside token = refl
openings_mark n Outside token = refl

count_one : (o p : ℕ) (front behind : List Mark) (role : Role) (token : TokenKind) → Counted o p front → behind ≡ front ++ mark role token ∷ [] →
    Fit (operators_with o role) (openings_with p role) → Counted (operators_with o role) (openings_with p role) behind
count_one o p front behind role token counted is fit = record {
  operators = ap (since_operators 0) is ∙ operators_append front (mark role token ∷ []) 0 ∙ operators_mark (since_operators 0 front) role token ∙ ap (λ n. operators_with n role) counted.operators;
  openings = ap (since_openings 0) is ∙ openings_append front (mark role token ∷ []) 0 ∙ openings_mark (since_openings 0 front) role token ∙ ap (λ n. openings_with n role) counted.openings;
  fit = fit;
}

exceeds_counted : (o p : ℕ) (front : List Mark) (role : Role) → Counted o p front → ExceedsAfter o p [] role → Exceeds front role
exceeds_counted o p front Operator counted is = counted.operators ∙ is
exceeds_counted o p front Opening counted is = counted.openings ∙ is
exceeds_counted o p front Inside counted is = is
exceeds_counted o p front Outside counted is = is

-- ---- answers

-- the tokens begin with an expression
pub record Reaches (tokens : List TokenKind) (e : Ast) (rest : List TokenKind) : Type 0 where
  pub tree : Tree
  pub phrase : IsPhrase tree
  pub fits : Fits tree
  pub means : value tree ≡ e
  pub whole : kinds (marks tree) ++ rest ≡ tokens
  pub ends : EndsOperand rest

-- they begin an expression up to that place
pub record Sticks (tokens : List TokenKind) (left : ℕ) : Type 0 where
  pub front : List Mark
  pub rest : List TokenKind
  pub tree : Tree
  pub more : List Mark
  pub phrase : IsPhrase tree
  pub shows : marks tree ≡ front ++ more
  pub whole : kinds front ++ rest ≡ tokens
  pub place : length rest ≡ left

abbrev Reached : List TokenKind → Answer → Type 0
Reached tokens (Ok read) = Reaches tokens read.0 read.1
Reached tokens (Err (Stuck left)) = Sticks tokens left
Reached tokens (Err (Deep left)) = IsDeepAt tokens left
Reached tokens (Err NoMemory) = ⊥

sticks : (tokens : List TokenKind) (front : List Mark) (rest : List TokenKind) → Continues front → kinds front ++ rest ≡ tokens → Sticks tokens (length rest)
sticks tokens front rest further whole = record {
  front = front;
  rest = rest;
  tree = further.tree;
  more = further.more;
  phrase = further.phrase;
  shows = further.shows;
  whole = whole;
  place = refl;
}

tree_fits : (o p : ℕ) (t : Tree) (front : List Mark) → marks t ≡ front → Counted o p front → Fits t
tree_fits o p t front shows counted =
    let e : since_operators 0 (marks t) ≡ o = ap (since_operators 0) shows ∙ counted.operators in
    let f : since_openings 0 (marks t) ≡ p = ap (since_openings 0) shows ∙ counted.openings in
    (omega (arith, counted.fit.0), omega (arith, counted.fit.1))

-- ---- at the end

finish : (tokens : List TokenKind) (o p : ℕ) (front : List Mark) (tree : Tree) (opened : List Opened) → IsPhrase tree → around opened ++ marks tree ≡ front → Counted o p front →
    Continues front → kinds front ++ [] ≡ tokens → Reached tokens (at_end (closed (record { value = value tree; level = level tree; frames = frames_of opened }) (frames_of opened)))
finish tokens o p front tree [] phrase same counted further whole = record {
  tree = tree;
  phrase = phrase;
  fits = tree_fits o p tree front same counted;
  means = refl;
  whole = ap (λ ms. kinds ms ++ []) same ∙ whole;
  ends = tt;
}
finish tokens o p front tree (f ∷ opened) phrase same counted further whole = sticks tokens front [] further whole

finish_whole : (tokens : List TokenKind) (o p : ℕ) (fs : List Opened) (t : Tree) → Fitted fs t → Counted o p (around fs ++ marks t) → Continues (around fs ++ marks t) →
    kinds (around fs ++ marks t) ++ [] ≡ tokens → Reached tokens (at_end (closed (settled 0 (value t) (level t) (frames_of fs)) (settled 0 (value t) (level t) (frames_of fs)).frames))
finish_whole tokens o p fs t fitted counted further whole =
    let s : Settles 0 fs t = settle 0 fs t fitted in
    subst (λ h. Reached tokens (at_end (closed h h.frames))) (sym s.is)
    (finish tokens o p (around fs ++ marks t) s.tree s.opened s.fitted.phrase s.same counted further whole)

finish_stage : (stage : Stage) (fs : List Opened) (o p : ℕ) (tokens : List TokenKind) → Lawful stage fs false → Counted o p (consumed stage fs) → kinds (consumed stage fs) ++ [] ≡ tokens →
    Reached tokens (at_end (finished (reading (mode_of stage) (frames_of fs) o p)))
unfolding finished
finish_stage BeforeOperand fs o p tokens lawful counted whole = sticks tokens (consumed BeforeOperand fs) [] (continues BeforeOperand fs false lawful) whole
finish_stage BehindSign fs o p tokens lawful counted whole = sticks tokens (consumed BehindSign fs) [] (continues BehindSign fs false lawful) whole
finish_stage (BehindName name) fs o p tokens lawful counted whole =
    finish_whole tokens o p fs (Column (record { table = None; name = name })) (fitted_any fs (Column (record { table = None; name = name })) lawful tt (omega arith) tt)
    counted (continues (BehindName name) fs false lawful) whole
finish_stage (BehindDot table) fs o p tokens lawful counted whole = sticks tokens (consumed (BehindDot table) fs) [] (continues (BehindDot table) fs false lawful) whole
finish_stage (BehindOperand t) fs o p tokens lawful counted whole = finish_whole tokens o p fs t lawful counted (continues (BehindOperand t) fs false lawful) whole
finish_stage (BehindIs t) fs o p tokens lawful counted whole = sticks tokens (consumed (BehindIs t) fs) [] (continues (BehindIs t) fs false lawful) whole
finish_stage (BehindIsNot t) fs o p tokens lawful counted whole = sticks tokens (consumed (BehindIsNot t) fs) [] (continues (BehindIsNot t) fs false lawful) whole

-- ---- at a token

too_deep : (o p : ℕ) (front : List Mark) (token : TokenKind) (more tokens : List TokenKind) → Counted o p front → kinds front ++ token ∷ more ≡ tokens → TooMany o p front token more →
    IsDeepAt tokens (length (token ∷ more))
too_deep o p front token more tokens counted whole many = record {
  front = front;
  here = mark many.role token;
  rest = more;
  tree = many.leaves.continues.tree;
  more = many.leaves.continues.more;
  phrase = many.leaves.continues.phrase;
  shows = shows;
  whole = whole;
  place = add-one (length more);
  goes_on = many.leaves.alike;
  exceeds = exceeds_counted o p front many.role counted many.exceeds;
  first = none_exceeds front within (omega (arith, counted.operators, counted.fit.0)) (omega (arith, counted.openings, counted.fit.1));
}
  where
    shows : marks many.leaves.continues.tree ≡ front ++ mark many.role token ∷ many.leaves.continues.more
    shows = many.leaves.continues.shows ∙ append_assoc front (mark many.role token ∷ []) many.leaves.continues.more

    within : AllWithin front
    within = within_front front (mark many.role token ∷ many.leaves.continues.more) (subst AllWithin shows (tree_within many.leaves.continues.tree))

over_before : (o p : ℕ) (front : List Mark) (token : TokenKind) (more tokens : List TokenKind) (v : Ast) → Counted o p front → kinds front ++ token ∷ more ≡ tokens → Ended front token more v →
    Reaches tokens v (token ∷ more)
over_before o p front token more tokens v counted whole ended = record {
  tree = ended.tree;
  phrase = ended.phrase;
  fits = tree_fits o p ended.tree front ended.shows counted;
  means = ended.means;
  whole = ap (λ ms. kinds ms ++ token ∷ more) ended.shows ∙ whole;
  ends = ended.ends;
}

-- where reading goes on, what was read before is among what is read then
abbrev GoesFurther : List TokenKind → List TokenKind → Type 0
GoesFurther more tokens = (stage : Stage) (fs : List Opened) (o p : ℕ) → Lawful stage fs (begins_integer more) → Counted o p (consumed stage fs) →
    kinds (consumed stage fs) ++ more ≡ tokens → Reached tokens (run (reading (mode_of stage) (frames_of fs) o p) more)

at_token : (stage : Stage) (fs : List Opened) (o p : ℕ) (token : TokenKind) (more tokens : List TokenKind) (b : Bool) → Lawful stage fs b → Counted o p (consumed stage fs) →
    kinds (consumed stage fs) ++ token ∷ more ≡ tokens → GoesFurther more tokens → (taken : Step) → Follows o p (consumed stage fs) token more taken →
    Reached tokens (by_step token more (λ next. run next more) taken)
at_token stage fs o p token more tokens b lawful counted whole further (Goes next) went =
    subst (λ reader. Reached tokens (run reader more)) (sym went.is)
    (further went.stage went.opened (operators_with o went.role) (openings_with p went.role) went.lawful
    (count_one o p (consumed stage fs) (consumed went.stage went.opened) went.role token counted went.shows went.fit)
    (ap (λ ms. kinds ms ++ more) went.shows ∙ kinds_append (consumed stage fs) (mark went.role token ∷ []) more ∙ whole))
at_token stage fs o p token more tokens b lawful counted whole further (Ends v) ended = over_before o p (consumed stage fs) token more tokens v counted whole ended
at_token stage fs o p token more tokens b lawful counted whole further Refuses refused = sticks tokens (consumed stage fs) (token ∷ more) (continues stage fs b lawful) whole
at_token stage fs o p token more tokens b lawful counted whole further Deepens many = too_deep o p (consumed stage fs) token more tokens counted whole many

reached : (rest tokens : List TokenKind) → GoesFurther rest tokens
unfolding run
reached [] tokens stage fs o p lawful counted whole = finish_stage stage fs o p tokens lawful counted whole
reached (token ∷ more) tokens stage fs o p lawful counted whole =
    at_token stage fs o p token more tokens (begins_integer (token ∷ more)) lawful counted whole (reached more tokens)
    (step (reading (mode_of stage) (frames_of fs) o p) token (begins_integer more))
    (follows stage fs o p token more counted.fit lawful)

-- ---- from the start

from_start : (tokens : List TokenKind) → Reached tokens (expression tokens)
unfolding expression
from_start tokens = reached tokens tokens BeforeOperand [] 0 0 (record { opens = tt; sign = tt }) (record { operators = refl; openings = refl; fit = (omega arith, omega arith) }) refl

pub sound : ReadIsWritten
unfolding expression
sound tokens e rest is = record {
  tree = found.tree;
  phrase = found.phrase;
  fits = found.fits;
  means = found.means;
  whole = found.whole;
  ends = found.ends;
  locally = λ token behind more begins.
      locally (kinds (marks found.tree)) (Whole e) start token behind more tt
      (ap (λ rest. run start (kinds (marks found.tree) ++ rest)) (sym begins) ∙ ap (run start) found.whole ∙ is ∙ ap (λ rest. Ok (e, rest)) begins);
}
  where
    found : Reaches tokens e rest
    found = subst (Reached tokens) is (from_start tokens)

pub stuck : StuckIsAtEnd
unfolding expression
stuck tokens left is = record {
  front = found.front;
  rest = found.rest;
  tree = found.tree;
  more = found.more;
  phrase = found.phrase;
  shows = found.shows;
  whole = found.whole;
  place = found.place;
  locally = λ token behind others begins.
      locally (kinds found.front) AtFault start token behind others tt
      (ap (λ rest. run start (kinds found.front ++ rest)) (sym begins) ∙ ap (run start) found.whole ∙ is ∙ ap (λ n. Err (Stuck n)) (sym found.place ∙ ap length begins));
}
  where
    found : Sticks tokens left
    found = subst (Reached tokens) is (from_start tokens)

pub refused : RefusedIsDeep
refused tokens left is = subst (Reached tokens) is (from_start tokens)

-- all that reading an expression answers
pub expression_laws : ExpressionLaws
expression_laws = record { sound = sound; complete = complete; deep = deep; stuck = stuck; refused = refused; memory = memory; limits = limits; fitting = fitting }
