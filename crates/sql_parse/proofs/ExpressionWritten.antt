-- What is written is read: the tokens of an expression lead the reader to its value.
use Rattle.std.proofs.Common.{◌≡◌, ◌≤◌, ℕ, Bool, true, false, List, [], ◌∷◌, ◌++◌, Option, Some, None, refl, sym, ap, ◌∙◌, arith}
use Rattle.std.proofs.lemmas.Bool.{le-leb, cond-true, cond-false}
use Rattle.sql_ast.specs.declared.ast.AstOp.{AstOp}
use Rattle.sql_lex.specs.declared.keyword.Keyword.TheVariants.{KNot, KIs}
use Rattle.sql_lex.specs.declared.symbol.Symbol.TheVariants as symbol
use Rattle.sql_lex.specs.declared.token.TokenKind.{TokenKind}
use Rattle.sql_lex.specs.declared.token.TokenKind.TheVariants as kind
use Rattle.sql_parse.specs.declared.expression.frame.Frame.{Frame}
use Rattle.sql_parse.specs.declared.expression.frame.Frame.TheVariants as frame
use Rattle.sql_parse.specs.declared.expression.reader.Mode.TheVariants as mode
use Rattle.sql_parse.specs.Kinds.{operator_kind}
use Rattle.sql_parse.specs.inner.Levels.{level_of, whole_level, sign_level}
use Rattle.sql_parse.specs.Trees.{Operator, Opening, Mark, mark, kinds, inside, marks, value, Tree, Int, Negative, Text, Truth, Null, Column, Paren, Minus, Infix, Not, IsNull, TakesSign, null_kinds}
use Rattle.sql_parse.specs.Grammar.{begins_integer}
use Rattle.sql_parse.specs.inner.Expressions.{wanted, applied, is_closed, frame_level, run, step, operand_step, complete_step, by_step, finished, column, signed}
use Rattle.sql_parse.proofs.ExpressionPhrases.{level, IsPhrase}
use Rattle.sql_parse.proofs.ExpressionTokens.{level_within, left_tight, bound_behind, begins_dot, Behind, behind_operator}
use Rattle.sql_parse.proofs.ExpressionSteps.{reading, absorb, at_operator, at_is}
use Rattle.sql_parse.proofs.ExpressionCounts.{Answer, after, kinds_append, same_after, after_append, operator_read, opening_read}

-- what is answered where the operand was read
abbrev pub behind_tree : Tree → List Frame → List TokenKind → ℕ → ℕ → Answer
behind_tree t frames rest o p = run (reading (mode.Complete (value t) (level t)) frames o p) rest

abbrev pub Leads : Tree → Type 0
Leads t = (frames : List Frame) (rest : List TokenKind) → IsPhrase t → wanted frames ≤ level t → Behind (level t) rest → (o p : ℕ) →
    run (reading mode.Operand frames o p) (kinds (marks t) ++ rest) ≡ after o p (marks t) rest (behind_tree t frames rest)

-- ---- columns

named : (name : List ℕ) (frames : List Frame) (o p : ℕ) (rest : List TokenKind) → begins_dot rest ≡ false →
    run (reading (mode.Named name) frames o p) rest ≡ run (reading (mode.Complete (column None name) whole_level) frames o p) rest
unfolding run step finished complete_step
named name frames o p [] ends = refl
named name frames o p (token ∷ more) ends = ap (by_step token more (λ next. run next more)) (cond-false _ _ _ ends)

column_leads : (table : Option (List ℕ)) (name : List ℕ) → Leads (Column (record { table = table; name = name }))
unfolding run step operand_step
column_leads None name frames rest phrase fits behind o p = named name frames o p rest behind.1
column_leads (Some table) name frames rest phrase fits behind o p = refl

-- ---- signs

-- what a sign stands before begins with no integer
sign_alone : (t : Tree) (rest : List TokenKind) → sign_level ≤ level t → TakesSign t → begins_integer (kinds (marks t) ++ rest) ≡ false
sign_alone (Int n) rest tight takes = absurd takes
sign_alone (Negative n) rest tight takes = refl
sign_alone (Text text) rest tight takes = refl
sign_alone (Truth true) rest tight takes = refl
sign_alone (Truth false) rest tight takes = refl
sign_alone Null rest tight takes = refl
sign_alone (Column c) rest tight takes = by c.table c.name
  where
    by : (table : Option (List ℕ)) (name : List ℕ) → begins_integer (kinds (marks (Column (record { table = table; name = name }))) ++ rest) ≡ false
    by None name = refl
    by (Some table) name = refl
sign_alone (Paren a) rest tight takes = refl
sign_alone (Minus a) rest tight takes = refl
sign_alone (Infix operator a b) rest tight takes = absurd (omega (arith, level_within operator))
sign_alone (Not a) rest tight takes = absurd (omega arith)
sign_alone (IsNull a is_not) rest tight takes = absurd (omega arith)

-- ---- one line of the grammar each

-- an operand behind what it closes
framed : (f : Frame) (a : Tree) → Leads a → (frames : List Frame) (rest : List TokenKind) → IsPhrase a → wanted (f ∷ frames) ≤ level a → Behind (level a) rest →
    is_closed (bound_behind rest) f ≡ true → (o p : ℕ) →
    run (reading mode.Operand (f ∷ frames) o p) (kinds (marks a) ++ rest)
    ≡ after o p (marks a) rest (λ o p. run (reading (mode.Complete (applied f (value a)) (frame_level f)) frames o p) rest)
framed f a leads frames rest phrase fits behind closes o p =
    leads (f ∷ frames) rest phrase fits behind o p
    ∙ same_after (marks a) rest _ _ (λ o p. absorb f frames o p (value a) (level a) rest closes) o p

minus_leads : (a : Tree) → Leads a → Leads (Minus a)
unfolding run step operand_step
minus_leads a leads frames rest phrase fits behind o p =
    ap (λ b. by_step (kind.Symbol symbol.Minus) more (λ next. run next more) (signed (reading mode.Operand frames o p) b)) (sign_alone a rest phrase.1 phrase.2)
    ∙ operator_read mode.Operand frames mode.Operand (frame.Minus ∷ frames) o p (kind.Symbol symbol.Minus) more
    ∙ same_after (mark Operator (kind.Symbol symbol.Minus) ∷ []) more _ _
    (framed frame.Minus a leads frames rest phrase.0 phrase.1 (omega arith, behind.1) (le-leb (bound_behind rest) 6 behind.0)) o p
  where
    more : List TokenKind
    more = kinds (marks a) ++ rest

not_leads : (a : Tree) → Leads a → Leads (Not a)
unfolding run step operand_step
not_leads a leads frames rest phrase fits behind o p =
    ap (by_step (kind.Keyword KNot) more (λ next. run next more)) (cond-true _ _ _ (le-leb (wanted frames) 2 fits))
    ∙ operator_read mode.Operand frames mode.Operand (frame.Not ∷ frames) o p (kind.Keyword KNot) more
    ∙ same_after (mark Operator (kind.Keyword KNot) ∷ []) more _ _
    (framed frame.Not a leads frames rest phrase.0 phrase.1 (omega arith, behind.1) (le-leb (bound_behind rest) 2 behind.0)) o p
  where
    more : List TokenKind
    more = kinds (marks a) ++ rest

paren_leads : (a : Tree) → Leads a → Leads (Paren a)
unfolding run step operand_step complete_step
paren_leads a leads frames rest phrase fits behind o p =
    opening_read mode.Operand frames mode.Operand (frame.Paren ∷ frames) o p (kind.Symbol symbol.Open) more
    ∙ same_after (mark Opening (kind.Symbol symbol.Open) ∷ []) more _ _ inner o p
  where
    close : List Mark
    close = inside (kind.Symbol symbol.Close ∷ [])

    more : List TokenKind
    more = kinds (marks a ++ close) ++ rest

    closing : (o p : ℕ) → behind_tree a (frame.Paren ∷ frames) (kind.Symbol symbol.Close ∷ rest) o p ≡ behind_tree (Paren a) frames rest o p
    closing o p = refl

    inner : (o p : ℕ) → run (reading mode.Operand (frame.Paren ∷ frames) o p) more ≡ after o p (marks a ++ close) rest (behind_tree (Paren a) frames rest)
    inner o p =
        ap (run (reading mode.Operand (frame.Paren ∷ frames) o p)) (kinds_append (marks a) close rest)
        ∙ leads (frame.Paren ∷ frames) (kind.Symbol symbol.Close ∷ rest) phrase (omega arith) (omega arith, refl) o p
        ∙ same_after (marks a) (kind.Symbol symbol.Close ∷ rest) _ _ closing o p
        ∙ sym (after_append (marks a) close rest (behind_tree (Paren a) frames rest) o p)

infix_leads : (operator : AstOp) (a b : Tree) → Leads a → Leads b → Leads (Infix operator a b)
unfolding run
infix_leads operator a b left right frames rest phrase fits behind o p =
    ap (run (reading mode.Operand frames o p)) (kinds_append (marks a) (here ∷ marks b) rest)
    ∙ left frames (operator_kind operator ∷ more) phrase.0 (omega (arith, left_tight operator)) (behind_operator operator more (level a) (omega (arith, left_tight operator))) o p
    ∙ same_after (marks a) (operator_kind operator ∷ more) _ _ next o p
    ∙ sym (after_append (marks a) (here ∷ marks b) rest (behind_tree (Infix operator a b) frames rest) o p)
  where
    here : Mark
    here = mark Operator (operator_kind operator)

    more : List TokenKind
    more = kinds (marks b) ++ rest

    f : Frame
    f = frame.Left operator (value a)

    next : (o p : ℕ) → behind_tree a frames (operator_kind operator ∷ more) o p ≡ after o p (here ∷ marks b) rest (behind_tree (Infix operator a b) frames rest)
    next o p =
        ap (by_step (operator_kind operator) more (λ next. run next more)) (at_operator operator frames o p (value a) (level a) (begins_integer more) phrase.2 fits)
        ∙ operator_read (mode.Complete (value a) (level a)) frames mode.Operand (f ∷ frames) o p (operator_kind operator) more
        ∙ same_after (here ∷ []) more _ _
        (framed f b right frames rest phrase.1 phrase.3 (omega arith, behind.1) (le-leb (bound_behind rest) (level_of operator) behind.0)) o p

test_leads : (a : Tree) (is_not : Bool) → Leads a → Leads (IsNull a is_not)
unfolding run step
test_leads a is_not leads frames rest phrase fits behind o p =
    ap (run (reading mode.Operand frames o p)) (kinds_append (marks a) (here ∷ inside (null_kinds is_not)) rest)
    ∙ leads frames (kind.Keyword KIs ∷ more) phrase.0 (omega arith) (omega arith, refl) o p
    ∙ same_after (marks a) (kind.Keyword KIs ∷ more) _ _ next o p
    ∙ sym (after_append (marks a) (here ∷ inside (null_kinds is_not)) rest (behind_tree (IsNull a is_not) frames rest) o p)
  where
    here : Mark
    here = mark Operator (kind.Keyword KIs)

    more : List TokenKind
    more = kinds (inside (null_kinds is_not)) ++ rest

    tested : (is_not : Bool) (o p : ℕ) → run (reading (mode.Is (value a)) frames o p) (kinds (inside (null_kinds is_not)) ++ rest)
        ≡ after o p (inside (null_kinds is_not)) rest (behind_tree (IsNull a is_not) frames rest)
    tested true o p = refl
    tested false o p = refl

    next : (o p : ℕ) → behind_tree a frames (kind.Keyword KIs ∷ more) o p ≡ after o p (here ∷ inside (null_kinds is_not)) rest (behind_tree (IsNull a is_not) frames rest)
    next o p =
        ap (by_step (kind.Keyword KIs) more (λ next. run next more)) (at_is frames o p (value a) (level a) (begins_integer more) phrase.1 fits)
        ∙ operator_read (mode.Complete (value a) (level a)) frames (mode.Is (value a)) frames o p (kind.Keyword KIs) more
        ∙ same_after (here ∷ []) more _ _ (tested is_not) o p

pub leads : (t : Tree) → Leads t
unfolding run step operand_step
leads (Int n) frames rest phrase fits behind o p = refl
leads (Negative n) frames rest phrase fits behind o p = refl
leads (Text text) frames rest phrase fits behind o p = refl
leads (Truth true) frames rest phrase fits behind o p = refl
leads (Truth false) frames rest phrase fits behind o p = refl
leads Null frames rest phrase fits behind o p = refl
leads (Column c) frames rest phrase fits behind o p = column_leads c.table c.name frames rest phrase fits behind o p
leads (Paren a) frames rest phrase fits behind o p = paren_leads a (leads a) frames rest phrase fits behind o p
leads (Minus a) frames rest phrase fits behind o p = minus_leads a (leads a) frames rest phrase fits behind o p
leads (Infix operator a b) frames rest phrase fits behind o p = infix_leads operator a b (leads a) (leads b) frames rest phrase fits behind o p
leads (Not a) frames rest phrase fits behind o p = not_leads a (leads a) frames rest phrase fits behind o p
leads (IsNull a is_not) frames rest phrase fits behind o p = test_leads a is_not (leads a) frames rest phrase fits behind o p
