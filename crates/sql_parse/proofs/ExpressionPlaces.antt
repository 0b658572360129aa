-- Where the reader of expressions stops: that doesn't depend on what is behind that token.
use Rattle.std.proofs.Common.{◌≡◌, ◌≤◌, ℕ, ◌+◌, Bool, true, false, List, [], ◌∷◌, ◌++◌, length, Option, Some, None, refl, sym, ap, ◌∙◌, subst, arith, if◌then◌else◌, nat_lt, Ok, Err, length-append}
use Rattle.sql_ast.specs.declared.ast.Ast.{Ast}
use Rattle.sql_lex.specs.declared.keyword.Keyword.TheVariants.{KNot}
use Rattle.sql_lex.specs.declared.symbol.Symbol.TheVariants as symbol
use Rattle.sql_lex.specs.declared.token.TokenKind.{TokenKind}
use Rattle.sql_lex.specs.declared.token.TokenKind.TheVariants as kind
use Rattle.sql_parse.specs.declared.limits.TheConstants.{MAX_OPERATORS}
use Rattle.sql_parse.specs.declared.stop.Stop.TheVariants.{Stuck, Deep, NoMemory}
use Rattle.sql_parse.specs.declared.expression.frame.Frame.TheVariants as frame
use Rattle.sql_parse.specs.declared.expression.reader.Mode.{Mode}
use Rattle.sql_parse.specs.declared.expression.reader.Mode.TheVariants as mode
use Rattle.sql_parse.specs.declared.expression.reader.Reader.{Reader}
use Rattle.sql_parse.specs.Grammar.{begins_integer, GoesOn}
use Rattle.sql_parse.specs.inner.Expressions.{Step, Goes, Ends, Refuses, Deepens, run, step, step_in, operand_step, finished, at_end, by_step, signed}
use Rattle.sql_parse.proofs.ExpressionCounts.{Answer}

-- ---- how many tokens are left

abbrev pub left : Answer → ℕ
left (Ok read) = length read.1
left (Err (Stuck n)) = n
left (Err (Deep n)) = n
left (Err NoMemory) = 0

pub left_within : (tokens : List TokenKind) (reader : Reader) → left (run reader tokens) ≤ length tokens
unfolding run
left_within [] reader = by (finished reader)
  where
    by : (value : Option Ast) → left (at_end value) ≤ 0
    by (Some value) = omega arith
    by None = omega arith
left_within (token ∷ more) reader = by (step reader token (begins_integer more)) (left_within more)
  where
    by : (s : Step) → ((next : Reader) → left (run next more) ≤ length more) → left (by_step token more (λ next. run next more) s) ≤ length (token ∷ more)
    by (Goes next) within = let h : left (run next more) ≤ length more = within next in omega arith
    by (Ends value) within = omega arith
    by Refuses within = omega arith
    by Deepens within = omega arith

abbrev HasMemory : Answer → Type 0
HasMemory (Ok read) = Unit {0}
HasMemory (Err (Stuck n)) = Unit {0}
HasMemory (Err (Deep n)) = Unit {0}
HasMemory (Err NoMemory) = ⊥

has_memory : (tokens : List TokenKind) (reader : Reader) → HasMemory (run reader tokens)
unfolding run
has_memory [] reader = by (finished reader)
  where
    by : (value : Option Ast) → HasMemory (at_end value)
    by (Some value) = tt
    by None = tt
has_memory (token ∷ more) reader = by (step reader token (begins_integer more)) (has_memory more)
  where
    by : (s : Step) → ((next : Reader) → HasMemory (run next more)) → HasMemory (by_step token more (λ next. run next more) s)
    by (Goes next) has = has next
    by (Ends value) has = tt
    by Refuses has = tt
    by Deepens has = tt

pub never_without_memory : (tokens : List TokenKind) (reader : Reader) → run reader tokens ≡ Err NoMemory → ⊥
never_without_memory tokens reader is = subst HasMemory is (has_memory tokens reader)

-- ---- what a step looks at

abbrev IsMinus : TokenKind → Type 0
IsMinus (kind.Symbol symbol.Minus) = Unit {0}
IsMinus _ = ⊥

operand_alike : (reader : Reader) (token : TokenKind) (b c : Bool) → (IsMinus token → b ≡ c) → operand_step reader token b ≡ operand_step reader token c
unfolding operand_step
operand_alike reader (kind.Symbol symbol.Minus) b c same = ap (signed reader) (same tt)
operand_alike reader (kind.Symbol _) b c same = refl
operand_alike reader (kind.Name n) b c same = refl
operand_alike reader (kind.Int n) b c same = refl
operand_alike reader (kind.Text t) b c same = refl
operand_alike reader (kind.Keyword KNot) b c same = refl
operand_alike reader (kind.Keyword _) b c same = refl

alike : (m : Mode) (reader : Reader) (token : TokenKind) (b c : Bool) → (IsMinus token → b ≡ c) → step_in m reader token b ≡ step_in m reader token c
alike mode.Operand reader token b c same = operand_alike reader token b c same
alike mode.Negative reader token b c same = refl
alike (mode.Named n) reader token b c same = refl
alike (mode.Qualified n) reader token b c same = refl
alike (mode.Complete v l) reader token b c same = refl
alike (mode.Is v) reader token b c same = refl
alike (mode.IsNot v) reader token b c same = refl

-- where a step ends or refuses, it does so whatever is behind
abbrev Keeps : Step → Step → Type 0
Keeps (Goes next) other = Unit {0}
Keeps (Ends value) other = other ≡ Ends value
Keeps Refuses other = other ≡ Refuses
Keeps Deepens other = Unit {0}

keeps_self : (s : Step) → Keeps s s
keeps_self (Goes next) = tt
keeps_self (Ends value) = refl
keeps_self Refuses = refl
keeps_self Deepens = tt

kept : (reader : Reader) (token : TokenKind) (b c : Bool) → (IsMinus token → b ≡ c) → Keeps (operand_step reader token b) (operand_step reader token c)
kept reader token b c same = subst (Keeps (operand_step reader token b)) (operand_alike reader token b c same) (keeps_self (operand_step reader token b))

operand_keeps : (reader : Reader) (token : TokenKind) (b c : Bool) → Keeps (operand_step reader token b) (operand_step reader token c)
unfolding operand_step
operand_keeps reader (kind.Symbol symbol.Minus) true c = tt
operand_keeps reader (kind.Symbol symbol.Minus) false c = by (nat_lt reader.operators MAX_OPERATORS)
  where
    by : (within : Bool) → Keeps (if within then Goes (record { mode = mode.Operand; frames = frame.Minus ∷ reader.frames; operators = reader.operators + 1; openings = reader.openings }) else Deepens) (signed reader c)
    by true = tt
    by false = tt
operand_keeps reader (kind.Symbol s) b c = kept reader (kind.Symbol s) b c (λ e. absurd e)
operand_keeps reader (kind.Name n) b c = kept reader (kind.Name n) b c (λ e. absurd e)
operand_keeps reader (kind.Int n) b c = kept reader (kind.Int n) b c (λ e. absurd e)
operand_keeps reader (kind.Text t) b c = kept reader (kind.Text t) b c (λ e. absurd e)
operand_keeps reader (kind.Keyword k) b c = kept reader (kind.Keyword k) b c (λ e. absurd e)

keeps : (m : Mode) (reader : Reader) (token : TokenKind) (b c : Bool) → Keeps (step_in m reader token b) (step_in m reader token c)
keeps mode.Operand reader token b c = operand_keeps reader token b c
keeps mode.Negative reader token b c = keeps_self (step_in mode.Negative reader token b)
keeps (mode.Named n) reader token b c = keeps_self (step_in (mode.Named n) reader token b)
keeps (mode.Qualified n) reader token b c = keeps_self (step_in (mode.Qualified n) reader token b)
keeps (mode.Complete v l) reader token b c = keeps_self (step_in (mode.Complete v l) reader token b)
keeps (mode.Is v) reader token b c = keeps_self (step_in (mode.Is v) reader token b)
keeps (mode.IsNot v) reader token b c = keeps_self (step_in (mode.IsNot v) reader token b)

minus_same : (token : TokenKind) (rest more : List TokenKind) → GoesOn token rest more → IsMinus token → begins_integer more ≡ begins_integer rest
minus_same (kind.Symbol symbol.Minus) rest more same is = same
minus_same (kind.Symbol _) rest more same is = absurd is
minus_same (kind.Name n) rest more same is = absurd is
minus_same (kind.Int n) rest more same is = absurd is
minus_same (kind.Text t) rest more same is = absurd is
minus_same (kind.Keyword k) rest more same is = absurd is

-- ---- the same answer at the same place

-- how the reader stops before a token
pub data Stopping : Type 0 where
  Whole : Ast → Stopping
  AtFault : Stopping
  TooDeep : Stopping

abbrev pub stopped : Stopping → List TokenKind → Answer
stopped (Whole e) rest = Ok (e, rest)
stopped AtFault rest = Err (Stuck (length rest))
stopped TooDeep rest = Err (Deep (length rest))

stopped_left : (s : Stopping) (rest : List TokenKind) → left (stopped s rest) ≡ length rest
stopped_left (Whole e) rest = refl
stopped_left AtFault rest = refl
stopped_left TooDeep rest = refl

-- what the other tokens behind have to agree on
abbrev pub Agrees : Stopping → TokenKind → List TokenKind → List TokenKind → Type 0
Agrees (Whole e) token more other = Unit {0}
Agrees AtFault token more other = Unit {0}
Agrees TooDeep token more other = GoesOn token other more

abbrev value_of : Answer → Ast → Ast
value_of (Ok read) e = read.0
value_of (Err stop) e = e

here : (s : Stopping) (reader : Reader) (token : TokenKind) (more other : List TokenKind) → Agrees s token more other →
    run reader (token ∷ more) ≡ stopped s (token ∷ more) → run reader (token ∷ other) ≡ stopped s (token ∷ other)
unfolding run step
here s reader token more other agrees is = by s (step reader token (begins_integer more)) refl (keeps reader.mode reader token (begins_integer more) (begins_integer other)) agrees is
  where
    go : Reader → Answer
    go = λ next. run next more

    by : (s : Stopping) (taken : Step) → step reader token (begins_integer more) ≡ taken → Keeps taken (step reader token (begins_integer other)) → Agrees s token more other →
        by_step token more go taken ≡ stopped s (token ∷ more) →
        by_step token other (λ next. run next other) (step reader token (begins_integer other)) ≡ stopped s (token ∷ other)
    by s (Goes next) same kept agrees is = absurd (omega (arith, left_within more next, ap left is, stopped_left s (token ∷ more)))
    by (Whole e) (Ends value) same kept agrees is =
        ap (by_step token other (λ next. run next other)) kept ∙ ap (λ v. Ok (v, token ∷ other)) (ap (λ answer. value_of answer e) is)
    by AtFault (Ends value) same kept agrees is = absurd (cc is)
    by TooDeep (Ends value) same kept agrees is = absurd (cc is)
    by (Whole e) Refuses same kept agrees is = absurd (cc is)
    by AtFault Refuses same kept agrees is = ap (by_step token other (λ next. run next other)) kept
    by TooDeep Refuses same kept agrees is = absurd (cc is)
    by (Whole e) Deepens same kept agrees is = absurd (cc is)
    by AtFault Deepens same kept agrees is = absurd (cc is)
    by TooDeep Deepens same kept agrees is =
        ap (by_step token other (λ next. run next other))
        (sym (alike reader.mode reader token (begins_integer more) (begins_integer other) (minus_same token other more agrees)) ∙ same)

same_front : (front : List TokenKind) (token : TokenKind) (more other : List TokenKind) → begins_integer (front ++ token ∷ more) ≡ begins_integer (front ++ token ∷ other)
same_front [] token more other = refl
same_front (t ∷ front) token more other = refl

pub locally : (front : List TokenKind) (s : Stopping) (reader : Reader) (token : TokenKind) (more other : List TokenKind) → Agrees s token more other →
    run reader (front ++ token ∷ more) ≡ stopped s (token ∷ more) → run reader (front ++ token ∷ other) ≡ stopped s (token ∷ other)
unfolding run
locally [] s reader token more other agrees is = here s reader token more other agrees is
locally (t ∷ front) s reader token more other agrees is =
    ap (λ b. by_step t (front ++ token ∷ other) (λ next. run next (front ++ token ∷ other)) (step reader t b)) (sym (same_front front token more other))
    ∙ by (step reader t (begins_integer (front ++ token ∷ more))) (λ next. locally front s next token more other agrees) is
  where
    longer : length (front ++ token ∷ more) ≡ length front + length (token ∷ more)
    longer = length-append front (token ∷ more)

    by : (taken : Step) →
        ((next : Reader) → run next (front ++ token ∷ more) ≡ stopped s (token ∷ more) → run next (front ++ token ∷ other) ≡ stopped s (token ∷ other)) →
        by_step t (front ++ token ∷ more) (λ next. run next (front ++ token ∷ more)) taken ≡ stopped s (token ∷ more) →
        by_step t (front ++ token ∷ other) (λ next. run next (front ++ token ∷ other)) taken ≡ stopped s (token ∷ other)
    by (Goes next) again is = again next is
    by (Ends value) again is = absurd (omega (arith, longer, ap left is, stopped_left s (token ∷ more)))
    by Refuses again is = absurd (omega (arith, longer, ap left is, stopped_left s (token ∷ more)))
    by Deepens again is = absurd (omega (arith, longer, ap left is, stopped_left s (token ∷ more)))
