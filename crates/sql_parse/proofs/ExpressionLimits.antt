-- Which mark is the first that is one too many.
use Rattle.std.proofs.Common.{◌≡◌, ◌≤◌, ◌<◌, ◌⊎◌, inl, inr, ⊎_elim, ℕ, ◌+◌, List, [], ◌∷◌, ◌++◌, length, refl, ap, ◌∙◌, subst, arith, Err}
use Rattle.std.proofs.lemmas.Bool.{lt-ltb, le-ltb, cases_lt, cases_eq, cond-true, cond-false}
use Rattle.sql_lex.specs.declared.token.TokenKind.{TokenKind}
use Rattle.sql_parse.specs.declared.limits.TheConstants.{MAX_OPERATORS, MAX_OPENINGS}
use Rattle.sql_parse.specs.declared.stop.Stop.TheVariants.{Deep}
use Rattle.sql_parse.specs.Trees.{Role, Operator, Opening, Inside, Outside, Mark, mark, kinds}
use Rattle.sql_parse.specs.Grammar.{since_operators, since_openings, Exceeds}
use Rattle.sql_parse.proofs.ExpressionLaws.{NoneExceeds}
use Rattle.sql_parse.proofs.ExpressionCounts.{Answer, after}

-- ---- behind others

-- the mark is one too many behind so many operators and openings and these marks
abbrev pub ExceedsAfter : ℕ → ℕ → List Mark → Role → Type 0
ExceedsAfter o p front Operator = since_operators o front ≡ MAX_OPERATORS
ExceedsAfter o p front Opening = since_openings p front ≡ MAX_OPENINGS
ExceedsAfter o p front Inside = ⊥
ExceedsAfter o p front Outside = ⊥

pub exceeds_from_start : (role : Role) (front : List Mark) → Exceeds front role → ExceedsAfter 0 0 front role
exceeds_from_start Operator front is = is
exceeds_from_start Opening front is = is
exceeds_from_start Inside front is = is
exceeds_from_start Outside front is = is

pub exceeds_at_start : (role : Role) (front : List Mark) → ExceedsAfter 0 0 front role → Exceeds front role
exceeds_at_start Operator front is = is
exceeds_at_start Opening front is = is
exceeds_at_start Inside front is = is
exceeds_at_start Outside front is = is

abbrev pub NoneAfter : ℕ → ℕ → List Mark → Type 0
NoneAfter o p all = (front : List Mark) (here : Mark) (more : List Mark) → front ++ here ∷ more ≡ all → ExceedsAfter o p front here.role → ⊥

pub none_from_start : (all : List Mark) → NoneExceeds all → NoneAfter 0 0 all
none_from_start all none = λ front here more is exceeds. none front here more is (exceeds_at_start here.role front exceeds)

-- the counts behind a mark
abbrev pub operators_with : ℕ → Role → ℕ
operators_with o Operator = o + 1
operators_with o Opening = o
operators_with o Inside = o
operators_with o Outside = 0

abbrev pub openings_with : ℕ → Role → ℕ
openings_with p Operator = p
openings_with p Opening = p + 1
openings_with p Inside = p
openings_with p Outside = 0

exceeds_behind : (o p : ℕ) (role : Role) (kind : TokenKind) (front : List Mark) (last : Role) →
    ExceedsAfter (operators_with o role) (openings_with p role) front last → ExceedsAfter o p (mark role kind ∷ front) last
exceeds_behind o p Operator kind front Operator is = is
exceeds_behind o p Operator kind front Opening is = is
exceeds_behind o p Operator kind front Inside is = is
exceeds_behind o p Operator kind front Outside is = is
exceeds_behind o p Opening kind front Operator is = is
exceeds_behind o p Opening kind front Opening is = is
exceeds_behind o p Opening kind front Inside is = is
exceeds_behind o p Opening kind front Outside is = is
exceeds_behind o p Inside kind front Operator is = is
exceeds_behind o p Inside kind front Opening is = is
exceeds_behind o p Inside kind front Inside is = is
exceeds_behind o p Inside kind front Outside is = is
exceeds_behind o p Outside kind front Operator is = is
exceeds_behind o p Outside kind front Opening is = is
exceeds_behind o p Outside kind front Inside is = is
exceeds_behind o p Outside kind front Outside is = is

exceeds_before : (o p : ℕ) (role : Role) (kind : TokenKind) (front : List Mark) (last : Role) →
    ExceedsAfter o p (mark role kind ∷ front) last → ExceedsAfter (operators_with o role) (openings_with p role) front last
exceeds_before o p Operator kind front Operator is = is
exceeds_before o p Operator kind front Opening is = is
exceeds_before o p Operator kind front Inside is = is
exceeds_before o p Operator kind front Outside is = is
exceeds_before o p Opening kind front Operator is = is
exceeds_before o p Opening kind front Opening is = is
exceeds_before o p Opening kind front Inside is = is
exceeds_before o p Opening kind front Outside is = is
exceeds_before o p Inside kind front Operator is = is
exceeds_before o p Inside kind front Opening is = is
exceeds_before o p Inside kind front Inside is = is
exceeds_before o p Inside kind front Outside is = is
exceeds_before o p Outside kind front Operator is = is
exceeds_before o p Outside kind front Opening is = is
exceeds_before o p Outside kind front Inside is = is
exceeds_before o p Outside kind front Outside is = is

none_behind : (o p : ℕ) (role : Role) (kind : TokenKind) (ms : List Mark) → NoneAfter o p (mark role kind ∷ ms) → NoneAfter (operators_with o role) (openings_with p role) ms
none_behind o p role kind ms none = λ front here more is exceeds.
    none (mark role kind ∷ front) here more (ap (λ l. mark role kind ∷ l) is) (exceeds_behind o p role kind front here.role exceeds)

-- ---- one mark

abbrev pub Fit : ℕ → ℕ → Type 0
Fit o p = (o ≤ MAX_OPERATORS) × (p ≤ MAX_OPENINGS)

-- a mark that isn't one too many
one_fits : (o p : ℕ) (role : Role) → Fit o p → (ExceedsAfter o p [] role → ⊥) → Fit (operators_with o role) (openings_with p role)
one_fits o p Operator fit none = (pick (cases_lt o MAX_OPERATORS), fit.1)
  where
    pick : (o < MAX_OPERATORS) ⊎ (MAX_OPERATORS ≤ o) → o + 1 ≤ MAX_OPERATORS
    pick (inl less) = omega arith
    pick (inr more) = let h : o ≤ MAX_OPERATORS = fit.0 in absurd (none (omega arith))
one_fits o p Opening fit none = (fit.0, pick (cases_lt p MAX_OPENINGS))
  where
    pick : (p < MAX_OPENINGS) ⊎ (MAX_OPENINGS ≤ p) → p + 1 ≤ MAX_OPENINGS
    pick (inl less) = omega arith
    pick (inr more) = let h : p ≤ MAX_OPENINGS = fit.1 in absurd (none (omega arith))
one_fits o p Inside fit none = fit
one_fits o p Outside fit none = (omega arith, omega arith)

one_after : (o p : ℕ) (role : Role) (kind : TokenKind) (ms : List Mark) (rest : List TokenKind) (go : ℕ → ℕ → Answer) → Fit (operators_with o role) (openings_with p role) →
    after o p (mark role kind ∷ ms) rest go ≡ after (operators_with o role) (openings_with p role) ms rest go
one_after o p Operator kind ms rest go fit = cond-true _ _ _ (lt-ltb o MAX_OPERATORS (let h : o + 1 ≤ MAX_OPERATORS = fit.0 in omega arith))
one_after o p Opening kind ms rest go fit = cond-true _ _ _ (lt-ltb p MAX_OPENINGS (let h : p + 1 ≤ MAX_OPENINGS = fit.1 in omega arith))
one_after o p Inside kind ms rest go fit = refl
one_after o p Outside kind ms rest go fit = refl

one_exceeds : (o p : ℕ) (role : Role) (kind : TokenKind) (ms : List Mark) (rest : List TokenKind) (go : ℕ → ℕ → Answer) → ExceedsAfter o p [] role →
    after o p (mark role kind ∷ ms) rest go ≡ Err (Deep (length (kinds (mark role kind ∷ ms) ++ rest)))
one_exceeds o p Operator kind ms rest go is = cond-false _ _ _ (le-ltb o MAX_OPERATORS (omega arith))
one_exceeds o p Opening kind ms rest go is = cond-false _ _ _ (le-ltb p MAX_OPENINGS (omega arith))
one_exceeds o p Inside kind ms rest go is = absurd is
one_exceeds o p Outside kind ms rest go is = absurd is

-- ---- all marks

-- where none is one too many, all are read
pub after_all : (ms : List Mark) (o p : ℕ) (rest : List TokenKind) (go : ℕ → ℕ → Answer) (answer : Answer) → Fit o p → NoneAfter o p ms →
    ((o p : ℕ) → go o p ≡ answer) → after o p ms rest go ≡ answer
after_all [] o p rest go answer fit none gives = gives o p
after_all (m ∷ ms) o p rest go answer fit none gives =
    let fits : Fit (operators_with o m.role) (openings_with p m.role) = one_fits o p m.role fit (none [] m ms refl) in
    one_after o p m.role m.kind ms rest go fits
    ∙ after_all ms (operators_with o m.role) (openings_with p m.role) rest go answer fits (none_behind o p m.role m.kind ms none) gives

-- at the first that is one too many, reading stops
pub after_first : (front : List Mark) (here : Mark) (more : List Mark) (o p : ℕ) (rest : List TokenKind) (go : ℕ → ℕ → Answer) → Fit o p →
    ExceedsAfter o p front here.role → NoneAfter o p front →
    after o p (front ++ here ∷ more) rest go ≡ Err (Deep (length (kinds (here ∷ more) ++ rest)))
after_first [] here more o p rest go fit exceeds none = one_exceeds o p here.role here.kind more rest go exceeds
after_first (m ∷ front) here more o p rest go fit exceeds none =
    let fits : Fit (operators_with o m.role) (openings_with p m.role) = one_fits o p m.role fit (none [] m front refl) in
    one_after o p m.role m.kind (front ++ here ∷ more) rest go fits
    ∙ after_first front here more (operators_with o m.role) (openings_with p m.role) rest go fits
    (exceeds_before o p m.role m.kind front here.role exceeds) (none_behind o p m.role m.kind front none)

-- ---- finding the first

pub record FirstAfter (o p : ℕ) (all : List Mark) : Type 0 where
  pub front : List Mark
  pub here : Mark
  pub more : List Mark
  pub whole : front ++ here ∷ more ≡ all
  pub exceeds : ExceedsAfter o p front here.role
  pub first : NoneAfter o p front

pub record AllFit (o p : ℕ) (all : List Mark) : Type 0 where
  pub none : NoneAfter o p all
  pub operators : since_operators o all ≤ MAX_OPERATORS
  pub openings : since_openings p all ≤ MAX_OPENINGS

no_mark : (front : List Mark) (here : Mark) (more : List Mark) → front ++ here ∷ more ≡ [] → ⊥
no_mark [] here more is = cc
no_mark (m ∷ front) here more is = cc

exceeds_or_not : (o p : ℕ) (role : Role) → ExceedsAfter o p [] role ⊎ (ExceedsAfter o p [] role → ⊥)
exceeds_or_not o p Operator = cases_eq o MAX_OPERATORS
exceeds_or_not o p Opening = cases_eq p MAX_OPENINGS
exceeds_or_not o p Inside = inr (λ e. e)
exceeds_or_not o p Outside = inr (λ e. e)

-- none of these and of those behind is one too many
none_with : (o p : ℕ) (m : Mark) (ms : List Mark) → (ExceedsAfter o p [] m.role → ⊥) → NoneAfter (operators_with o m.role) (openings_with p m.role) ms → NoneAfter o p (m ∷ ms)
none_with o p m ms fits none [] here more is exceeds = fits (subst (λ (x : Mark). ExceedsAfter o p [] x.role) (first_is is) exceeds)
  where
    first_is : {here : Mark} {more : List Mark} → here ∷ more ≡ m ∷ ms → here ≡ m
    first_is is = cc
none_with o p m ms fits none (n ∷ front) here more is exceeds =
    none front here more rest_is (subst (λ (x : Mark). ExceedsAfter (operators_with o x.role) (openings_with p x.role) front here.role) first_is (exceeds_before o p n.role n.kind front here.role exceeds))
  where
    first_is : n ≡ m
    first_is = cc

    rest_is : front ++ here ∷ more ≡ ms
    rest_is = cc

operators_before : (o : ℕ) (role : Role) (kind : TokenKind) (ms : List Mark) → since_operators (operators_with o role) ms ≤ MAX_OPERATORS → since_operators o (mark role kind ∷ ms) ≤ MAX_OPERATORS
operators_before o Operator kind ms h = h
operators_before o Opening kind ms h = h
operators_before o Inside kind ms h = h
operators_before o Outside kind ms h = h

openings_before : (p : ℕ) (role : Role) (kind : TokenKind) (ms : List Mark) → since_openings (openings_with p role) ms ≤ MAX_OPENINGS → since_openings p (mark role kind ∷ ms) ≤ MAX_OPENINGS
openings_before p Operator kind ms h = h
openings_before p Opening kind ms h = h
openings_before p Inside kind ms h = h
openings_before p Outside kind ms h = h

found_behind : (o p : ℕ) (m : Mark) (ms : List Mark) → (ExceedsAfter o p [] m.role → ⊥) → FirstAfter (operators_with o m.role) (openings_with p m.role) ms → FirstAfter o p (m ∷ ms)
found_behind o p m ms fits found = record {
  front = m ∷ found.front;
  here = found.here;
  more = found.more;
  whole = ap (λ l. m ∷ l) found.whole;
  exceeds = exceeds_behind o p m.role m.kind found.front found.here.role found.exceeds;
  first = none_with o p m found.front fits found.first;
}

all_behind : (o p : ℕ) (m : Mark) (ms : List Mark) → (ExceedsAfter o p [] m.role → ⊥) → AllFit (operators_with o m.role) (openings_with p m.role) ms → AllFit o p (m ∷ ms)
all_behind o p m ms fits all = record {
  none = none_with o p m ms fits all.none;
  operators = operators_before o m.role m.kind ms all.operators;
  openings = openings_before p m.role m.kind ms all.openings;
}

pub scan : (ms : List Mark) (o p : ℕ) → Fit o p → AllFit o p ms ⊎ FirstAfter o p ms
scan [] o p fit = inl (record { none = λ front here more is exceeds. absurd (no_mark front here more is); operators = fit.0; openings = fit.1 })
scan (m ∷ ms) o p fit = ⊎_elim
    (λ exceeds. inr (record { front = []; here = m; more = ms; whole = refl; exceeds = exceeds; first = λ front here more is. absurd (no_mark front here more is) }))
    (λ fits. ⊎_elim (λ all. inl (all_behind o p m ms fits all)) (λ found. inr (found_behind o p m ms fits found))
    (scan ms (operators_with o m.role) (openings_with p m.role) (one_fits o p m.role fit fits)))
    (exceeds_or_not o p m.role)
