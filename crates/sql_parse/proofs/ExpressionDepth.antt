-- How deep an expression is, by the marks of its tree; and that what is written is read, or refused at the first mark too many.
use Rattle.std.proofs.Common.{◌≡◌, ◌≤◌, inl, inr, ⊎_elim, ℕ, ◌+◌, Bool, true, false, List, [], ◌∷◌, ◌++◌, length, Option, Some, None, refl, sym, ap, ◌∙◌, subst, arith, if◌then◌else◌, Ok, Err, add-one}
use Rattle.std.proofs.lemmas.Bool.{cond-false}
use Rattle.sql_ast.specs.declared.ast.Ast.{Ast}
use Rattle.sql_lex.specs.declared.keyword.Keyword.TheVariants.{KIs, KNot}
use Rattle.sql_lex.specs.declared.symbol.Symbol.TheVariants as symbol
use Rattle.sql_lex.specs.declared.token.TokenKind.{TokenKind}
use Rattle.sql_lex.specs.declared.token.TokenKind.TheVariants as kind
use Rattle.sql_parse.specs.declared.limits.TheConstants.{MAX_OPERATORS, MAX_OPENINGS}
use Rattle.sql_parse.specs.declared.stop.Stop.TheVariants.{Deep}
use Rattle.sql_parse.specs.declared.expression.reader.Mode.TheVariants as mode
use Rattle.sql_parse.specs.declared.expression.reader.Reader.{Reader}
use Rattle.sql_parse.specs.Kinds.{operator_kind}
use Rattle.sql_parse.specs.inner.Kinds.{is_symbol}
use Rattle.sql_parse.specs.Trees.{Role, Operator, Opening, Inside, Outside, Mark, mark, kinds, inside, marks, value, Tree, Int, Negative, Text, Truth, Null, Column, Paren, Minus, Infix, Not, IsNull, null_kinds}
use Rattle.sql_parse.specs.Grammar.{since_operators, since_openings, Exceeds, GoesOn}
use Rattle.sql_parse.specs.inner.Expressions.{run, start, step, finished, complete_step, by_step, settled, close_step, end_step, behind_step}
use Rattle.sql_parse.specs.inner.Reading.{expression}
use Rattle.sql_parse.proofs.ExpressionPhrases.{level}
use Rattle.sql_parse.proofs.ExpressionLaws.{Ends, EndsOperand, NoneExceeds, WrittenIsRead, DeepIsRefused, NeverWithoutMemory, FitsOrExceeds, FittingNeverExceeds}
use Rattle.sql_parse.proofs.ExpressionTokens.{bound_behind, bound_by, Behind}
use Rattle.sql_parse.proofs.ExpressionSteps.{reading}
use Rattle.sql_parse.proofs.ExpressionCounts.{after, kinds_append}
use Rattle.sql_parse.proofs.ExpressionWritten.{behind_tree, leads}
use Rattle.sql_parse.proofs.ExpressionPlaces.{TooDeep, locally, never_without_memory}
use Rattle.sql_parse.proofs.ExpressionLimits.{ExceedsAfter, scan, exceeds_from_start, exceeds_at_start, none_from_start, after_all, after_first}

-- ---- the marks of a tree

-- the token belongs to an expression
abbrev pub IsWithin : Role → Type 0
IsWithin Outside = ⊥
IsWithin _ = Unit {0}

abbrev pub AllWithin : List Mark → Type 0
AllWithin [] = Unit {0}
AllWithin (m ∷ ms) = IsWithin m.role × AllWithin ms

pub within_append : (a b : List Mark) → AllWithin a → AllWithin b → AllWithin (a ++ b)
within_append [] b left right = right
within_append (m ∷ a) b left right = (left.0, within_append a b left.1 right)

inside_within : (ks : List TokenKind) → AllWithin (inside ks)
inside_within [] = tt
inside_within (k ∷ ks) = (tt, inside_within ks)

pub tree_within : (t : Tree) → AllWithin (marks t)
tree_within (Int n) = (tt, tt)
tree_within (Negative n) = (tt, (tt, tt))
tree_within (Text text) = (tt, tt)
tree_within (Truth truth) = (tt, tt)
tree_within Null = (tt, tt)
tree_within (Column c) = inside_within _
tree_within (Paren a) = (tt, within_append (marks a) (inside (kind.Symbol symbol.Close ∷ [])) (tree_within a) (tt, tt))
tree_within (Minus a) = (tt, tree_within a)
tree_within (Infix operator a b) = within_append (marks a) _ (tree_within a) (tt, tree_within b)
tree_within (Not a) = (tt, tree_within a)
tree_within (IsNull a is_not) = within_append (marks a) _ (tree_within a) (tt, inside_within (null_kinds is_not))

-- marks of expressions only add to the counts
pub operators_grow : (ms : List Mark) (n : ℕ) → AllWithin ms → n ≤ since_operators n ms
operators_grow [] n within = omega arith
operators_grow (m ∷ ms) n within = by (λ n. operators_grow ms n within.1) m.role within.0
  where
    by : ((n : ℕ) → n ≤ since_operators n ms) → (role : Role) → IsWithin role → n ≤ since_operators n (mark role m.kind ∷ ms)
    by grow Operator is = let h : n + 1 ≤ since_operators (n + 1) ms = grow (n + 1) in omega arith
    by grow Opening is = grow n
    by grow Inside is = grow n
    by grow Outside is = absurd is

pub openings_grow : (ms : List Mark) (n : ℕ) → AllWithin ms → n ≤ since_openings n ms
openings_grow [] n within = omega arith
openings_grow (m ∷ ms) n within = by (λ n. openings_grow ms n within.1) m.role within.0
  where
    by : ((n : ℕ) → n ≤ since_openings n ms) → (role : Role) → IsWithin role → n ≤ since_openings n (mark role m.kind ∷ ms)
    by grow Operator is = grow n
    by grow Opening is = let h : n + 1 ≤ since_openings (n + 1) ms = grow (n + 1) in omega arith
    by grow Inside is = grow n
    by grow Outside is = absurd is

pub operators_append : (a b : List Mark) (n : ℕ) → since_operators n (a ++ b) ≡ since_operators (since_operators n a) b
operators_append [] b n = refl
operators_append (m ∷ a) b n = operators_append a b _

pub openings_append : (a b : List Mark) (n : ℕ) → since_openings n (a ++ b) ≡ since_openings (since_openings n a) b
openings_append [] b n = refl
openings_append (m ∷ a) b n = openings_append a b _

pub within_front : (front ms : List Mark) → AllWithin (front ++ ms) → AllWithin front
within_front [] ms within = tt
within_front (m ∷ front) ms within = (within.0, within_front front ms within.1)

within_behind : (front ms : List Mark) → AllWithin (front ++ ms) → AllWithin ms
within_behind [] ms within = within
within_behind (m ∷ front) ms within = within_behind front ms within.1

-- ---- the last mark of a tree

abbrev LastInside : List Mark → Type 0
LastInside [] = ⊥
LastInside (m ∷ []) = m.role ≡ Inside
LastInside (m ∷ n ∷ ms) = LastInside (n ∷ ms)

last_cons : (m : Mark) (ms : List Mark) → LastInside ms → LastInside (m ∷ ms)
last_cons m [] last = absurd last
last_cons m (n ∷ ms) last = last

last_append : (a b : List Mark) → LastInside b → LastInside (a ++ b)
last_append [] b last = last
last_append (m ∷ a) b last = last_cons m (a ++ b) (last_append a b last)

tree_last : (t : Tree) → LastInside (marks t)
tree_last (Int n) = refl
tree_last (Negative n) = refl
tree_last (Text text) = refl
tree_last (Truth truth) = refl
tree_last Null = refl
tree_last (Column c) = by c.table
  where
    by : (table : Option (List ℕ)) → LastInside (marks (Column (record { table = table; name = c.name })))
    by None = refl
    by (Some table) = refl
tree_last (Paren a) = last_cons (mark Opening (kind.Symbol symbol.Open)) (marks a ++ inside (kind.Symbol symbol.Close ∷ [])) (last_append (marks a) (inside (kind.Symbol symbol.Close ∷ [])) refl)
tree_last (Minus a) = last_cons (mark Operator (kind.Symbol symbol.Minus)) (marks a) (tree_last a)
tree_last (Infix operator a b) = last_append (marks a) _ (last_cons (mark Operator (operator_kind operator)) (marks b) (tree_last b))
tree_last (Not a) = last_cons (mark Operator (kind.Keyword KNot)) (marks a) (tree_last a)
tree_last (IsNull a is_not) = last_append (marks a) _ (last_cons (mark Operator (kind.Keyword KIs)) (inside (null_kinds is_not)) (by is_not))
  where
    by : (is_not : Bool) → LastInside (inside (null_kinds is_not))
    by true = refl
    by false = refl

last_role : (front : List Mark) (here : Mark) → LastInside (front ++ here ∷ []) → here.role ≡ Inside
last_role [] here last = last
last_role (m ∷ []) here last = last
last_role (m ∷ n ∷ front) here last = last_role (n ∷ front) here last

-- behind a mark that is one too many comes another one
goes_alike : (token : TokenKind) (rest : List TokenKind) (k : TokenKind) (x y : List TokenKind) → GoesOn token rest (k ∷ x) → GoesOn token rest (k ∷ y)
goes_alike (kind.Symbol symbol.Minus) rest k x y same = same
goes_alike (kind.Symbol _) rest k x y same = tt
goes_alike (kind.Name n) rest k x y same = tt
goes_alike (kind.Int n) rest k x y same = tt
goes_alike (kind.Text t) rest k x y same = tt
goes_alike (kind.Keyword keyword) rest k x y same = tt

pub any_behind : (t : Tree) (front : List Mark) (here : Mark) (more : List Mark) (rest behind other : List TokenKind) → marks t ≡ front ++ here ∷ more → Exceeds front here.role →
    GoesOn here.kind rest (kinds more ++ behind) → GoesOn here.kind rest (kinds more ++ other)
any_behind t front here [] rest behind other shows exceeds goes_on =
    absurd (subst (λ (role : Role). Exceeds front role) (last_role front here (subst LastInside shows (tree_last t))) exceeds)
any_behind t front here (m ∷ more) rest behind other shows exceeds goes_on = goes_alike here.kind rest m.kind (kinds more ++ behind) (kinds more ++ other) goes_on

-- ---- the limits

-- the marks of an expression, not more than the limits, have none that is one too many
too_many : (all front : List Mark) (here : Mark) (more : List Mark) → front ++ here ∷ more ≡ all → AllWithin all → ExceedsAfter 0 0 front here.role → since_operators 0 all ≤ MAX_OPERATORS → since_openings 0 all ≤ MAX_OPENINGS → ⊥
too_many all front here more whole within exceeds few_operators few_openings = by here.role refl exceeds
  where
    operators : since_operators 0 all ≡ since_operators (since_operators 0 front) (here ∷ more)
    operators = ap (since_operators 0) (sym whole) ∙ operators_append front (here ∷ more) 0

    openings : since_openings 0 all ≡ since_openings (since_openings 0 front) (here ∷ more)
    openings = ap (since_openings 0) (sym whole) ∙ openings_append front (here ∷ more) 0

    behind : AllWithin more
    behind = (within_behind front (here ∷ more) (subst AllWithin (sym whole) within)).1

    by : (role : Role) → here.role ≡ role → ExceedsAfter 0 0 front role → ⊥
    by Operator is full =
        let e : since_operators (since_operators 0 front) (here ∷ more) ≡ since_operators (since_operators 0 front + 1) more =
        ap (λ r. since_operators (since_operators 0 front) (mark r here.kind ∷ more)) is in
        let h : since_operators 0 front + 1 ≤ since_operators (since_operators 0 front + 1) more = operators_grow more (since_operators 0 front + 1) behind in
        omega (arith, operators, e, few_operators, full)
    by Opening is full =
        let e : since_openings (since_openings 0 front) (here ∷ more) ≡ since_openings (since_openings 0 front + 1) more =
        ap (λ r. since_openings (since_openings 0 front) (mark r here.kind ∷ more)) is in
        let h : since_openings 0 front + 1 ≤ since_openings (since_openings 0 front + 1) more = openings_grow more (since_openings 0 front + 1) behind in
        omega (arith, openings, e, few_openings, full)
    by Inside is full = full
    by Outside is full = full

pub none_exceeds : (all : List Mark) → AllWithin all → since_operators 0 all ≤ MAX_OPERATORS → since_openings 0 all ≤ MAX_OPENINGS → NoneExceeds all
none_exceeds all within few_operators few_openings front here more whole exceeds =
    too_many all front here more whole within (exceeds_from_start here.role front exceeds) few_operators few_openings

pub limits : FitsOrExceeds
limits t = ⊎_elim
    (λ all. inl (all.operators, all.openings))
    (λ found. inr (record {
      front = found.front;
      here = found.here;
      more = found.more;
      whole = found.whole;
      exceeds = exceeds_at_start found.here.role found.front found.exceeds;
      first = λ front here more is exceeds. found.first front here more is (exceeds_from_start here.role front exceeds);
    }))
    (scan (marks t) 0 0 (omega arith, omega arith))

pub fitting : FittingNeverExceeds
fitting t fits = none_exceeds (marks t) (tree_within t) fits.0 fits.1

-- ---- what is written is read

pub over : (v : Ast) (l o p : ℕ) (rest : List TokenKind) → EndsOperand rest → run (reading (mode.Complete v l) [] o p) rest ≡ Ok (v, rest)
unfolding run finished step complete_step
over v l o p [] ends = refl
over v l o p (token ∷ more) ends =
    ap (λ operator. by_step token more (λ next. run next more) (behind_step reader v l token operator)) ends.0
    ∙ ap (by_step token more (λ next. run next more)) (cond-false _ _ _ ends.1)
    ∙ by (is_symbol symbol.Close token)
  where
    reader : Reader
    reader = reading (mode.Complete v l) [] o p

    by : (close : Bool) → by_step token more (λ next. run next more) (if close then close_step reader (settled 0 v l []) [] else end_step (settled 0 v l []) []) ≡ Ok (v, token ∷ more)
    by true = refl
    by false = refl

ends_operand : (rest : List TokenKind) → Ends rest → EndsOperand rest
ends_operand [] ends = tt
ends_operand (token ∷ more) ends = (ends.0, ends.1)

behind_of : (level : ℕ) (rest : List TokenKind) → Ends rest → Behind level rest
behind_of level [] ends = (omega arith, refl)
behind_of level (token ∷ more) ends =
    let e : bound_behind (token ∷ more) ≡ 0 = ap (λ operator. bound_by operator token) ends.0 ∙ cond-false _ _ _ ends.1 in
    (omega arith, ends.2)

pub complete : WrittenIsRead
unfolding expression
complete t rest phrase fits ends =
    leads t [] rest phrase (omega arith) (behind_of (level t) rest ends) 0 0
    ∙ after_all (marks t) 0 0 rest (behind_tree t [] rest) (Ok (value t, rest)) (omega arith, omega arith) (none_from_start (marks t) (fitting t fits))
    (λ o p. over (value t) (level t) o p rest (ends_operand rest ends))

-- ---- what is too deep is refused

pub deep : DeepIsRefused
unfolding expression
deep t front here more rest behind phrase shows exceeds none goes_on =
    locally (kinds front) TooDeep start here.kind (kinds more ++ []) rest (any_behind t front here more rest behind [] shows exceeds goes_on) (ap (run start) (sym text) ∙ found)
    ∙ ap (λ n. Err (Deep n)) (sym (add-one (length rest)))
  where
    text : kinds (marks t) ++ [] ≡ kinds front ++ here.kind ∷ (kinds more ++ [])
    text = ap (λ ms. kinds ms ++ []) shows ∙ kinds_append front (here ∷ more) []

    found : run start (kinds (marks t) ++ []) ≡ Err (Deep (length (kinds (here ∷ more) ++ [])))
    found =
        leads t [] [] phrase (omega arith) (omega arith, refl) 0 0
        ∙ ap (λ ms. after 0 0 ms [] (behind_tree t [] [])) shows
        ∙ after_first front here more 0 0 [] (behind_tree t [] []) (omega arith, omega arith) (exceeds_from_start here.role front exceeds) (none_from_start front none)

pub memory : NeverWithoutMemory
unfolding expression
memory tokens is = never_without_memory tokens start is
