-- Laws: where the changes of a net come from, the touched rows of nets, and which changes touch known rows alone.
use Rattle.std.proofs.Common.{◌≡◌, ◌⊎◌, inl, inr, ⊎_elim, Bool, true, false, cond, Option, None, Some, unwrap_or, List, [], ◌∷◌, ◌++◌, All, Contains, refl, sym, ap, subst}
use Rattle.std.proofs.lemmas.List.Elements.{All-head, All-tail}
use Rattle.geo_base.specs.declared.row_id.RowId.{RowId}
use Rattle.geo_base.specs.declared.row_image.RowImage.{RowImage}
use Rattle.geo_base.specs.Order.{row_eq}
use Rattle.write_set.specs.declared.change.Change.{Change}
use Rattle.write_set.specs.declared.change.Change.TheVariants.{Put, Remove, Touch}
use Rattle.write_set.specs.declared.row_change.RowChange.{RowChange}
use Rattle.write_set.specs.Net.{left_by, left_of, TouchesKnown}
use Rattle.write_set.specs.Sets.{ChangeOfRow}
use Rattle.write_set.specs.laws.Among.{among_first, among_later}
use Rattle.write_set.specs.laws.Rivals.{row_same}

-- as TouchesKnown, where the given changes were left of the rows before
abbrev pub KnownOver : (RowId → Option Change) → List RowChange → Type 0
KnownOver held changes = (earlier : List RowChange) (c : RowChange) (later : List RowChange) → earlier ++ c ∷ later ≡ changes →
    c.change ≡ Touch → left_of earlier c.row (held c.row) ≡ None → c.before ≡ true

-- what is left of each row after one more change
abbrev left_then : RowChange → (RowId → Option Change) → RowId → Option Change
left_then c held row = cond (row_eq row c.row) (left_by c.before c.change (held row)) (held row)

-- a change of the row says that the row is in the snapshot
abbrev pub IsKnownBy : List RowChange → RowId → Type 0
IsKnownBy changes row = (c : RowChange) × Contains changes c × (c.row ≡ row) × (c.before ≡ true)

known_later : (c : RowChange) (cs : List RowChange) (row : RowId) → IsKnownBy cs row → IsKnownBy (c ∷ cs) row
known_later c cs row known = (known.0, among_later c known.0 cs known.1, known.2, known.3)

known_rest : (held : RowId → Option Change) (c : RowChange) (cs : List RowChange) → KnownOver held (c ∷ cs) → KnownOver (left_then c held) cs
known_rest held c cs known earlier d later is touch none = known (c ∷ earlier) d later (ap (λ l. c ∷ l) is) touch none

-- what a touch leaves is a touch where nothing was left before, or a touch was
touch_of : (held : Option Change) → Some (unwrap_or held Touch) ≡ Some Touch → (held ≡ None) ⊎ (held ≡ Some Touch)
touch_of None e = inl refl
touch_of (Some change) e = inr e

put_apart : (image : RowImage) → Some (Put image) ≡ Some Touch → ⊥
put_apart image e = cc

removed_apart : Some Remove ≡ Some Touch → ⊥
removed_apart e = cc

nothing_apart : None ≡ Some Touch → ⊥
nothing_apart e = cc

left_touch : (before : Bool) (change : Change) (held : Option Change) → left_by before change held ≡ Some Touch →
    (held ≡ Some Touch) ⊎ ((change ≡ Touch) × (held ≡ None))
left_touch before (Put image) held e = absurd (put_apart image e)
left_touch true Remove held e = absurd (removed_apart e)
left_touch false Remove held e = absurd (nothing_apart e)
left_touch before Touch held e = ⊎_elim (λ none. inr (refl, none)) inl (touch_of held e)

-- where a touch is left of a row, a touch was left before the changes, or one of them says that the row is in the snapshot
pub touches_left : (changes : List RowChange) (held : RowId → Option Change) → KnownOver held changes → (row : RowId) →
    left_of changes row (held row) ≡ Some Touch → (held row ≡ Some Touch) ⊎ IsKnownBy changes row
touches_left [] held known row e = inl e
touches_left (c ∷ cs) held known row e =
    ⊎_elim
    (λ here. by (row_eq row c.row) refl here)
    (λ later. inr (known_later c cs row later))
    (touches_left cs (left_then c held) (known_rest held c cs known) row e)
  where
    by : (b : Bool) → row_eq row c.row ≡ b → cond b (left_by c.before c.change (held row)) (held row) ≡ Some Touch →
        (held row ≡ Some Touch) ⊎ IsKnownBy (c ∷ cs) row
    by true is left =
        let same : row ≡ c.row = row_same row c.row is in
        ⊎_elim inl
        (λ touched. inr (c, among_first c cs, sym same, known [] c cs refl touched.0 (subst (λ r. held r ≡ None) same touched.1)))
        (left_touch c.before c.change (held row) left)
    by false is left = inl left

-- changes whose touched rows are all said to be in the snapshot
pub touches_known : (set : List ChangeOfRow) (changes : List RowChange) → All (λ c. c.change ≡ Touch → c.before ≡ true) changes → TouchesKnown set changes
touches_known set changes all earlier c later is touch none =
    known_in earlier c later (subst (All (λ d. d.change ≡ Touch → d.before ≡ true)) (sym is) all) touch
  where
    known_in : (front : List RowChange) (d : RowChange) (back : List RowChange) → All (λ x. x.change ≡ Touch → x.before ≡ true) (front ++ d ∷ back) → d.change ≡ Touch → d.before ≡ true
    known_in [] d back each = All-head (λ x. x.change ≡ Touch → x.before ≡ true) d back each
    known_in (x ∷ front) d back each = known_in front d back (All-tail (λ y. y.change ≡ Touch → y.before ≡ true) x (front ++ d ∷ back) each)

-- one of the changes makes this of the row
abbrev pub IsMadeBy : List RowChange → RowId → Change → Type 0
IsMadeBy changes row change = (c : RowChange) × Contains changes c × (c.row ≡ row) × (c.change ≡ change)

made_later : (c : RowChange) (cs : List RowChange) (row : RowId) (change : Change) → IsMadeBy cs row change → IsMadeBy (c ∷ cs) row change
made_later c cs row change made = (made.0, among_later c made.0 cs made.1, made.2, made.3)

nothing_left : (left : Change) → None ≡ Some left → ⊥
nothing_left left e = cc

one_left : (change left : Change) → Some change ≡ Some left → change ≡ left
one_left change left e = cc

touched_left : (held : Option Change) (left : Change) → Some (unwrap_or held Touch) ≡ Some left → (held ≡ Some left) ⊎ (Touch ≡ left)
touched_left None left e = inr (one_left Touch left e)
touched_left (Some change) left e = inl e

-- what a change leaves was left before it, or is the change
left_or_made : (before : Bool) (change : Change) (held : Option Change) (left : Change) → left_by before change held ≡ Some left → (held ≡ Some left) ⊎ (change ≡ left)
left_or_made before (Put image) held left e = inr (one_left (Put image) left e)
left_or_made true Remove held left e = inr (one_left Remove left e)
left_or_made false Remove held left e = absurd (nothing_left left e)
left_or_made before Touch held left e = touched_left held left e

-- what the changes leave of a row was left before them, or one of them makes it
pub left_from : (changes : List RowChange) (held : RowId → Option Change) (row : RowId) (left : Change) →
    left_of changes row (held row) ≡ Some left → (held row ≡ Some left) ⊎ IsMadeBy changes row left
left_from [] held row left e = inl e
left_from (c ∷ cs) held row left e =
    ⊎_elim
    (λ here. by (row_eq row c.row) refl here)
    (λ later. inr (made_later c cs row left later))
    (left_from cs (left_then c held) row left e)
  where
    by : (b : Bool) → row_eq row c.row ≡ b → cond b (left_by c.before c.change (held row)) (held row) ≡ Some left →
        (held row ≡ Some left) ⊎ IsMadeBy (c ∷ cs) row left
    by true is here = ⊎_elim inl (λ made. inr (c, among_first c cs, sym (row_same row c.row is), made)) (left_or_made c.before c.change (held row) left here)
    by false is here = inl here
