-- The first mark that is one too many of an expression, in a statement's marks and in its parts.
use Rattle.std.proofs.Common.{◌≡◌, ◌≤◌, ◌<◌, ◌⊎◌, ℕ, ◌+◌, List, [], ◌∷◌, ◌++◌, length, true, false, Option, Some, None, refl, sym, ap, ◌∙◌, subst, inl, inr, arith, append_assoc, append-nil, length-append, le_of_lt}
use Rattle.std.proofs.lemmas.List.{map-append}
use Rattle.sql_lex.specs.declared.symbol.Symbol.TheVariants as symbol
use Rattle.sql_lex.specs.declared.token.TokenKind.{TokenKind}
use Rattle.sql_lex.specs.declared.token.TokenKind.TheVariants as kind
use Rattle.sql_parse.specs.Trees.{Role, Operator, Opening, Inside, Outside, Mark, mark, Tree, marks, kinds}
use Rattle.sql_parse.specs.Trees.Tree.{Null, Int, Negative, Text, Truth, Column, Paren, Minus, Infix, Not, IsNull}
use Rattle.sql_parse.specs.Grammar.{since_operators, since_openings, Exceeds, begins_integer, GoesOn}
use Rattle.sql_parse.proofs.ExpressionLaws.{ExpressionLaws, Fits, NoneExceeds, FirstExceeds}
use Rattle.sql_parse.proofs.ReaderParts.{Part, Word, Phrase, before, parts_marks, Every, Apart, Overruns, TooDeep}

-- ---- lists in two

-- the place of a mark in a list of two pieces
abbrev InLeft : List Mark → List Mark → List Mark → Mark → List Mark → Type 0
InLeft a b front here more = (rest : List Mark) × (a ≡ front ++ here ∷ rest) × (more ≡ rest ++ b)

abbrev InRight : List Mark → List Mark → List Mark → Mark → List Mark → Type 0
InRight a b front here more = (behind : List Mark) × (front ≡ a ++ behind) × (b ≡ behind ++ here ∷ more)

split : (a b front : List Mark) (here : Mark) (more : List Mark) → a ++ b ≡ front ++ here ∷ more → InLeft a b front here more ⊎ InRight a b front here more
split [] b front here more same = inr (front, refl, same)
split (first ∷ a) b [] here more same = inl (a, cc, cc)
split (first ∷ a) b (other ∷ front) here more same = by (split a b front here more cc)
  where
    by : InLeft a b front here more ⊎ InRight a b front here more → InLeft (first ∷ a) b (other ∷ front) here more ⊎ InRight (first ∷ a) b (other ∷ front) here more
    by (inl left) = inl (left.0, cc, left.2)
    by (inr right) = inr (right.0, cc, right.2)

-- ---- the last mark of an expression

EndsInside : List Mark → Type 0
EndsInside all = (front : List Mark) × (last : TokenKind) × (all ≡ front ++ mark Inside last ∷ [])

behind_ends : (front all : List Mark) → EndsInside all → EndsInside (front ++ all)
unfolding EndsInside
behind_ends front all ends = (front ++ ends.0, ends.1, ap (λ l. front ++ l) ends.2 ∙ sym (append_assoc front ends.0 (mark Inside ends.1 ∷ [])))

tree_ends : (tree : Tree) → EndsInside (marks tree)
unfolding EndsInside
tree_ends (Int n) = ([], _, refl)
tree_ends (Negative n) = (mark Inside (kind.Symbol symbol.Minus) ∷ [], _, refl)
tree_ends (Text t) = ([], _, refl)
tree_ends (Truth t) = ([], _, refl)
tree_ends Null = ([], _, refl)
tree_ends (Column column) = by column.table column.name
  where
    by : (table : Option (List ℕ)) (name : List ℕ) → EndsInside (marks (Column (record { table = table; name = name })))
    by None name = ([], _, refl)
    by (Some table) name = (mark Inside (kind.Name table) ∷ mark Inside (kind.Symbol symbol.Dot) ∷ [], _, refl)
tree_ends (Paren a) = behind_ends (mark Opening (kind.Symbol symbol.Open) ∷ marks a) (mark Inside (kind.Symbol symbol.Close) ∷ []) ([], _, refl)
tree_ends (Minus a) = behind_ends (mark Operator (kind.Symbol symbol.Minus) ∷ []) (marks a) (tree_ends a)
tree_ends (Infix operator a b) = behind_ends (marks a) _ (behind_ends (_ ∷ []) (marks b) (tree_ends b))
tree_ends (Not a) = behind_ends (_ ∷ []) (marks a) (tree_ends a)
tree_ends (IsNull a false) = behind_ends (marks a) _ (_ ∷ [], _, refl)
tree_ends (IsNull a true) = behind_ends (marks a) _ (_ ∷ _ ∷ [], _, refl)

last_same : (front others : List Mark) (a b : Mark) → front ++ a ∷ [] ≡ others ++ b ∷ [] → a ≡ b
last_same [] [] a b same = cc
last_same [] (first ∷ others) a b same = absurd (none others b cc)
  where
    none : (l : List Mark) (b : Mark) → [] ≡ l ++ b ∷ [] → ⊥
    none [] b e = cc
    none (c ∷ l) b e = cc
last_same (first ∷ front) [] a b same = absurd (none front a cc)
  where
    none : (l : List Mark) (a : Mark) → l ++ a ∷ [] ≡ [] → ⊥
    none [] b e = cc
    none (c ∷ l) b e = cc
last_same (first ∷ front) (other ∷ others) a b same = last_same front others a b cc

-- the last mark is never too many
last_fits : (tree : Tree) (front : List Mark) (here : Mark) → marks tree ≡ front ++ here ∷ [] → Exceeds front here.role → ⊥
unfolding EndsInside
last_fits tree front here shows exceeds =
    subst (λ (m : Mark). Exceeds front m.role)
    (last_same front (tree_ends tree).0 here (mark Inside (tree_ends tree).1) (sym shows ∙ (tree_ends tree).2)) exceeds

-- ---- what follows a minus sign

goes_same : (k : TokenKind) (rest a b : List TokenKind) → begins_integer a ≡ begins_integer b → GoesOn k rest a → GoesOn k rest b
goes_same (kind.Symbol symbol.Minus) rest a b same goes = sym same ∙ goes
goes_same _ rest a b same goes = tt

goes_with : (k : TokenKind) (rest more : List TokenKind) → begins_integer more ≡ begins_integer rest → GoesOn k rest more
goes_with (kind.Symbol symbol.Minus) rest more same = same
goes_with _ rest more same = tt

-- behind a mark that is too many an expression goes on, so what is behind the expression doesn't matter
goes_anyway : (tree : Tree) (front : List Mark) (here : Mark) (more : List Mark) (rest behind others : List TokenKind) → marks tree ≡ front ++ here ∷ more → Exceeds front here.role →
    GoesOn here.kind rest (kinds more ++ behind) → GoesOn here.kind rest (kinds more ++ others)
goes_anyway tree front here [] rest behind others shows exceeds goes = absurd (last_fits tree front here shows exceeds)
goes_anyway tree front here (first ∷ more) rest behind others shows exceeds goes =
    goes_same here.kind rest (first.kind ∷ kinds more ++ behind) (first.kind ∷ kinds more ++ others) refl goes

-- ---- counts since a word

operators_reset : (front : List Mark) (n : ℕ) (k : TokenKind) (more : List Mark) → since_operators n (front ++ mark Outside k ∷ more) ≡ since_operators 0 more
operators_reset [] n k more = refl
operators_reset (first ∷ front) n k more = operators_reset front _ k more

openings_reset : (front : List Mark) (n : ℕ) (k : TokenKind) (more : List Mark) → since_openings n (front ++ mark Outside k ∷ more) ≡ since_openings 0 more
openings_reset [] n k more = refl
openings_reset (first ∷ front) n k more = openings_reset front _ k more

exceeds_behind : (front : List Mark) (k : TokenKind) (more : List Mark) (role : Role) → Exceeds more role → Exceeds (front ++ mark Outside k ∷ more) role
exceeds_behind front k more Operator exceeds = operators_reset front 0 k more ∙ exceeds
exceeds_behind front k more Opening exceeds = openings_reset front 0 k more ∙ exceeds
exceeds_behind front k more Inside exceeds = exceeds
exceeds_behind front k more Outside exceeds = exceeds

exceeds_since : (front : List Mark) (k : TokenKind) (more : List Mark) (role : Role) → Exceeds (front ++ mark Outside k ∷ more) role → Exceeds more role
exceeds_since front k more Operator exceeds = sym (operators_reset front 0 k more) ∙ exceeds
exceeds_since front k more Opening exceeds = sym (openings_reset front 0 k more) ∙ exceeds
exceeds_since front k more Inside exceeds = exceeds
exceeds_since front k more Outside exceeds = exceeds

-- ---- where a mark is too many

-- The tokens are those of the marks up to one that is too many.
pub record Exceeding (all : List Mark) (tokens : List TokenKind) (left : ℕ) : Type 0 where
  pub front : List Mark
  pub here : Mark
  pub rest : List TokenKind
  pub more : List Mark
  pub shows : all ≡ front ++ here ∷ more
  pub whole : kinds front ++ here.kind ∷ rest ≡ tokens
  pub place : length rest + 1 ≡ left
  pub goes_on : GoesOn here.kind rest (kinds more)
  pub exceeds : Exceeds front here.role

-- the first mark of an expression that is too many, where all of the expression is there
first_too_deep : (tree : Tree) (tail : List TokenKind) → FirstExceeds (marks tree) → (left : ℕ) × (length tail < left) × TooDeep tree (kinds (marks tree) ++ tail) left
first_too_deep tree tail found = (
  length (kinds found.more ++ tail) + 1,
  omega (arith, length-append (kinds found.more) tail),
  record {
    front = found.front;
    here = found.here;
    more = found.more;
    rest = kinds found.more ++ tail;
    shows = sym found.whole;
    whole = sym (ap (λ l. kinds l ++ tail) (sym found.whole) ∙ ap (λ l. l ++ tail) (map-append (λ (m : Mark). m.kind) found.front (found.here ∷ found.more))
        ∙ append_assoc (kinds found.front) (found.here.kind ∷ kinds found.more) tail);
    place = refl;
    goes_on = λ behind. goes_anyway tree found.front found.here found.more (kinds found.more ++ tail) tail behind (sym found.whole) found.exceeds
        (goes_with found.here.kind (kinds found.more ++ tail) (kinds found.more ++ tail) refl);
    exceeds = found.exceeds;
    first = found.first;
  },
)

-- ---- from parts to marks

pub over_exceeds : (parts : List Part) (tokens : List TokenKind) (left : ℕ) → Apart true parts → Overruns parts tokens left → Exceeding (parts_marks parts) tokens left
over_exceeds [] tokens left apart over = absurd over
over_exceeds (Word k ∷ parts) tokens left apart over = by (over_exceeds parts over.0 left apart over.2)
  where
    by : Exceeding (parts_marks parts) over.0 left → Exceeding (mark Outside k ∷ parts_marks parts) tokens left
    by found = record {
      front = mark Outside k ∷ found.front;
      here = found.here;
      rest = found.rest;
      more = found.more;
      shows = ap (λ l. mark Outside k ∷ l) found.shows;
      whole = ap (λ l. k ∷ l) found.whole ∙ sym over.1;
      place = found.place;
      goes_on = found.goes_on;
      exceeds = exceeds_behind [] k found.front found.here.role found.exceeds;
    }
over_exceeds (Phrase tree ∷ parts) tokens left apart (inl deep) = record {
  front = deep.front;
  here = deep.here;
  rest = deep.rest;
  more = deep.more ++ parts_marks parts;
  shows = ap (λ l. l ++ parts_marks parts) deep.shows ∙ append_assoc deep.front (deep.here ∷ deep.more) (parts_marks parts);
  whole = deep.whole;
  place = deep.place;
  goes_on = subst (GoesOn deep.here.kind deep.rest) (sym (map-append (λ (m : Mark). m.kind) deep.more (parts_marks parts))) (deep.goes_on (kinds (parts_marks parts)));
  exceeds = deep.exceeds;
}
over_exceeds (Phrase tree ∷ []) tokens left apart (inr later) = absurd later.3
over_exceeds (Phrase tree ∷ Phrase other ∷ parts) tokens left apart (inr later) = absurd apart
over_exceeds (Phrase tree ∷ Word k ∷ parts) tokens left apart (inr later) = by (over_exceeds parts later.3.0 left apart later.3.2)
  where
    by : Exceeding (parts_marks parts) later.3.0 left → Exceeding (marks tree ++ mark Outside k ∷ parts_marks parts) tokens left
    by found = record {
      front = marks tree ++ mark Outside k ∷ found.front;
      here = found.here;
      rest = found.rest;
      more = found.more;
      shows = ap (λ l. marks tree ++ mark Outside k ∷ l) found.shows ∙ sym (append_assoc (marks tree) (mark Outside k ∷ found.front) (found.here ∷ found.more));
      whole = ap (λ l. l ++ found.here.kind ∷ found.rest) (map-append (λ (m : Mark). m.kind) (marks tree) (mark Outside k ∷ found.front))
          ∙ append_assoc (kinds (marks tree)) (k ∷ kinds found.front) (found.here.kind ∷ found.rest)
          ∙ ap (λ l. kinds (marks tree) ++ k ∷ l) found.whole ∙ ap (λ l. kinds (marks tree) ++ l) (sym later.3.1) ∙ sym later.1;
      place = found.place;
      goes_on = found.goes_on;
      exceeds = exceeds_behind (marks tree) k found.front found.here.role found.exceeds;
    }

-- ---- from marks to parts

-- it is over at this place or before it
abbrev pub OverBy : List Part → List TokenKind → ℕ → Type 0
OverBy parts tokens at = (left : ℕ) × (at ≤ left) × Overruns parts tokens left

module _ (laws : ExpressionLaws) where
  -- each expression fits, or there is a first mark that is too many
  pub fits_or_over : (parts : List Part) → Every Fits parts ⊎ ((left : ℕ) × Overruns parts (before parts []) left)
  fits_or_over [] = inl tt
  fits_or_over (Word k ∷ parts) = by (fits_or_over parts)
    where
      by : Every Fits parts ⊎ ((left : ℕ) × Overruns parts (before parts []) left) → Every Fits parts ⊎ ((left : ℕ) × Overruns (Word k ∷ parts) (k ∷ before parts []) left)
      by (inl fits) = inl fits
      by (inr found) = inr (found.0, (before parts [], refl, found.1))
  fits_or_over (Phrase tree ∷ parts) = by (laws.limits tree) (fits_or_over parts)
    where
      by : Fits tree ⊎ FirstExceeds (marks tree) → Every Fits parts ⊎ ((left : ℕ) × Overruns parts (before parts []) left) →
          (Fits tree × Every Fits parts) ⊎ ((left : ℕ) × Overruns (Phrase tree ∷ parts) (kinds (marks tree) ++ before parts []) left)
      by (inl fits) (inl all) = inl (fits, all)
      by (inl fits) (inr found) = inr (found.0, inr (before parts [], refl, fits, found.1))
      by (inr first) later = let deep = first_too_deep tree (before parts []) first in inr (deep.0, inl deep.2)

  -- Where a mark of an expression is too many, the first one is.
  AtFirst : Tree → List TokenKind → ℕ → Type 0
  AtFirst tree tokens at = (left : ℕ) × (at ≤ left) × TooDeep tree tokens left

  same_start : (mid : List Mark) (here : Mark) (more : List Mark) (behind rest : List TokenKind) →
      begins_integer (kinds (mid ++ here ∷ more) ++ behind) ≡ begins_integer (kinds mid ++ here.kind ∷ rest)
  same_start [] here more behind rest = refl
  same_start (first ∷ mid) here more behind rest = refl

  in_tree : (tree : Tree) (front : List Mark) (here : Mark) (more : List Mark) (rest behind : List TokenKind) → marks tree ≡ front ++ here ∷ more →
      GoesOn here.kind rest (kinds more ++ behind) → Exceeds front here.role → AtFirst tree (kinds front ++ here.kind ∷ rest) (length rest + 1)
  unfolding AtFirst
  in_tree tree front here more rest behind shows goes exceeds = by (laws.limits tree)
    where
      place : (first : FirstExceeds (marks tree)) (back : List Mark) → front ≡ first.front ++ back → first.here ∷ first.more ≡ back ++ here ∷ more →
          (left : ℕ) × (length rest + 1 ≤ left) × TooDeep tree (kinds front ++ here.kind ∷ rest) left
      place first [] same tail = (
        length rest + 1,
        omega arith,
        record {
          front = front;
          here = here;
          more = more;
          rest = rest;
          shows = shows;
          whole = refl;
          place = refl;
          goes_on = λ others. goes_anyway tree front here more rest behind others shows exceeds goes;
          exceeds = exceeds;
          first = subst NoneExceeds (sym (same ∙ append-nil first.front)) first.first;
        },
      )
      place first (other ∷ mid) same tail = (
        length (kinds mid ++ here.kind ∷ rest) + 1,
        omega (arith, length-append (kinds mid) (here.kind ∷ rest)),
        record {
          front = first.front;
          here = first.here;
          more = first.more;
          rest = kinds mid ++ here.kind ∷ rest;
          shows = sym first.whole;
          whole = sym (ap (λ l. kinds l ++ here.kind ∷ rest) (same ∙ ap (λ m. first.front ++ m ∷ mid) (sym head))
              ∙ ap (λ l. l ++ here.kind ∷ rest) (map-append (λ (m : Mark). m.kind) first.front (first.here ∷ mid))
              ∙ append_assoc (kinds first.front) (first.here.kind ∷ kinds mid) (here.kind ∷ rest));
          place = refl;
          goes_on = λ others. goes_with first.here.kind (kinds mid ++ here.kind ∷ rest) (kinds first.more ++ others)
              (ap (λ l. begins_integer (kinds l ++ others)) after ∙ same_start mid here more others rest);
          exceeds = first.exceeds;
          first = first.first;
        },
      )
        where
          head : first.here ≡ other
          head = cc

          after : first.more ≡ mid ++ here ∷ more
          after = cc

      compare : (first : FirstExceeds (marks tree)) → InLeft first.front (first.here ∷ first.more) front here more ⊎ InRight first.front (first.here ∷ first.more) front here more →
          (left : ℕ) × (length rest + 1 ≤ left) × TooDeep tree (kinds front ++ here.kind ∷ rest) left
      compare first (inl earlier) = absurd (first.first front here earlier.0 (sym earlier.1) exceeds)
      compare first (inr later) = place first later.0 later.1 later.2

      by : Fits tree ⊎ FirstExceeds (marks tree) → (left : ℕ) × (length rest + 1 ≤ left) × TooDeep tree (kinds front ++ here.kind ∷ rest) left
      by (inl fits) = absurd (laws.fitting tree fits front here more (sym shows) exceeds)
      by (inr first) = compare first (split first.front (first.here ∷ first.more) front here more (first.whole ∙ shows))

  nothing_exceeds : (front : List Mark) (here : Mark) (k : TokenKind) → here ≡ mark Outside k → Exceeds front here.role → ⊥
  nothing_exceeds front here k same exceeds = subst (λ (m : Mark). Exceeds front m.role) same exceeds

  -- a word stands behind an expression, and the mark is behind the word
  over_later : (tree : Tree) (k : TokenKind) (parts : List Part) (back : List Mark) (here : Mark) (rest : List TokenKind) → OverBy parts (kinds back ++ here.kind ∷ rest) (length rest + 1) →
      Fits tree ⊎ FirstExceeds (marks tree) → OverBy (Phrase tree ∷ Word k ∷ parts) (kinds (marks tree) ++ k ∷ (kinds back ++ here.kind ∷ rest)) (length rest + 1)
  over_later tree k parts back here rest found (inl fits) =
      (found.0, found.1, inr (k ∷ (kinds back ++ here.kind ∷ rest), refl, fits, (kinds back ++ here.kind ∷ rest, refl, found.2)))
  over_later tree k parts back here rest found (inr first) =
      let deep = first_too_deep tree (k ∷ (kinds back ++ here.kind ∷ rest)) first in
      let long : length (kinds back ++ here.kind ∷ rest) < deep.0 = le_of_lt deep.1 in
      (deep.0, omega (arith, length-append (kinds back) (here.kind ∷ rest)), inl deep.2)

  behind_phrase : (tree : Tree) (k : TokenKind) (parts : List Part) (front : List Mark) (here : Mark) (more : List Mark) (rest : List TokenKind) → Exceeds front here.role →
      ((back : List Mark) → parts_marks parts ≡ back ++ here ∷ more → Exceeds back here.role → OverBy parts (kinds back ++ here.kind ∷ rest) (length rest + 1)) →
      (back : List Mark) → front ≡ marks tree ++ back → mark Outside k ∷ parts_marks parts ≡ back ++ here ∷ more →
      OverBy (Phrase tree ∷ Word k ∷ parts) (kinds front ++ here.kind ∷ rest) (length rest + 1)
  behind_phrase tree k parts front here more rest exceeds go [] same tail = absurd (nothing_exceeds front here k (sym (cc)) exceeds)
  behind_phrase tree k parts front here more rest exceeds go (first ∷ back) same tail =
      subst (λ tokens. OverBy (Phrase tree ∷ Word k ∷ parts) tokens (length rest + 1)) tokens
      (over_later tree k parts back here rest (go back after (exceeds_since (marks tree) k back here.role (subst (λ l. Exceeds l here.role) split_front exceeds))) (laws.limits tree))
    where
      head : first ≡ mark Outside k
      head = cc

      after : parts_marks parts ≡ back ++ here ∷ more
      after = cc

      split_front : front ≡ marks tree ++ mark Outside k ∷ back
      split_front = same ∙ ap (λ m. marks tree ++ m ∷ back) head

      tokens : kinds (marks tree) ++ k ∷ (kinds back ++ here.kind ∷ rest) ≡ kinds front ++ here.kind ∷ rest
      tokens = sym (ap (λ l. kinds l ++ here.kind ∷ rest) split_front ∙ ap (λ l. l ++ here.kind ∷ rest) (map-append (λ (m : Mark). m.kind) (marks tree) (mark Outside k ∷ back))
          ∙ append_assoc (kinds (marks tree)) (k ∷ kinds back) (here.kind ∷ rest))

  -- Where a mark of an expression is too many, some parts are over there or before.
  pub exceeds_over : (parts : List Part) → Apart true parts → (front : List Mark) (here : Mark) (more : List Mark) (rest : List TokenKind) → parts_marks parts ≡ front ++ here ∷ more →
      GoesOn here.kind rest (kinds more) → Exceeds front here.role → OverBy parts (kinds front ++ here.kind ∷ rest) (length rest + 1)
  unfolding AtFirst
  exceeds_over [] apart [] here more rest shows goes exceeds = cc
  exceeds_over [] apart (first ∷ front) here more rest shows goes exceeds = cc
  exceeds_over (Word k ∷ parts) apart [] here more rest shows goes exceeds = absurd (nothing_exceeds [] here k (sym (cc)) exceeds)
  exceeds_over (Word k ∷ parts) apart (first ∷ front) here more rest shows goes exceeds = by (exceeds_over parts apart front here more rest (cc) goes now)
    where
      head : first ≡ mark Outside k
      head = cc

      now : Exceeds front here.role
      now = exceeds_since [] k front here.role (subst (λ m. Exceeds (m ∷ front) here.role) head exceeds)

      by : OverBy parts (kinds front ++ here.kind ∷ rest) (length rest + 1) → OverBy (Word k ∷ parts) (first.kind ∷ kinds front ++ here.kind ∷ rest) (length rest + 1)
      by found = (found.0, found.1, (kinds front ++ here.kind ∷ rest, ap (λ (m : Mark). m.kind ∷ kinds front ++ here.kind ∷ rest) head, found.2))
  exceeds_over (Phrase tree ∷ []) apart front here more rest shows goes exceeds = by (in_tree tree front here more rest [] (sym (append-nil (marks tree)) ∙ shows) alone exceeds)
    where
      alone : GoesOn here.kind rest (kinds more ++ [])
      alone = subst (GoesOn here.kind rest) (sym (append-nil (kinds more))) goes

      by : AtFirst tree (kinds front ++ here.kind ∷ rest) (length rest + 1) → OverBy (Phrase tree ∷ []) (kinds front ++ here.kind ∷ rest) (length rest + 1)
      by found = (found.0, found.1, inl found.2)
  exceeds_over (Phrase tree ∷ Phrase other ∷ parts) apart front here more rest shows goes exceeds = absurd apart
  exceeds_over (Phrase tree ∷ Word k ∷ parts) apart front here more rest shows goes exceeds =
      by (λ back same now. exceeds_over parts apart back here more rest same goes now) (split (marks tree) (mark Outside k ∷ parts_marks parts) front here more shows)
    where
      by : ((back : List Mark) → parts_marks parts ≡ back ++ here ∷ more → Exceeds back here.role → OverBy parts (kinds back ++ here.kind ∷ rest) (length rest + 1)) →
          InLeft (marks tree) (mark Outside k ∷ parts_marks parts) front here more ⊎ InRight (marks tree) (mark Outside k ∷ parts_marks parts) front here more →
          OverBy (Phrase tree ∷ Word k ∷ parts) (kinds front ++ here.kind ∷ rest) (length rest + 1)
      by go (inl inside) =
          let found = in_tree tree front here inside.0 rest (k ∷ kinds (parts_marks parts)) inside.1
          (subst (GoesOn here.kind rest) (ap kinds inside.2 ∙ map-append (λ (m : Mark). m.kind) inside.0 (mark Outside k ∷ parts_marks parts)) goes) exceeds in
          (found.0, found.1, inl found.2)
      by go (inr behind) = behind_phrase tree k parts front here more rest exceeds go behind.0 behind.1 behind.2
