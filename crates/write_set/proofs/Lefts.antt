-- The set with what is left of each row in its place is the net, and what its count and its bytes are.
use Rattle.std.proofs.Common.{◌≡◌, ◌≤◌, ℕ, ◌+◌, Bool, true, false, cond, Option, None, Some, unwrap_or, List, [], ◌∷◌, length, drop, sum_by, refl, sym, ap, ◌∙◌, subst, arith}
use Rattle.std.specs.List.{AllByRecursion}
use Rattle.std.specs.List.Sorted.{IsStrictlySortedBy}
use Rattle.std.specs.Map.{keys_of, lookup, remove_entry}
use Rattle.std.specs.Option.{is_some}
use Rattle.std.specs.Ordering.{is_eq, match_ordering}
use Rattle.std.specs.declared.cmp.Ordering.{Ordering}
use Rattle.std.specs.declared.cmp.Ordering.TheVariants.{Less, Equal, Greater}
use Rattle.std.specs.BTreeMap.{insert_entry, is_at}
use Rattle.std.proofs.lemmas.List.{at_drop_all}
use Rattle.std.proofs.lemmas.List.Sums.{sum_by-cons}
use Rattle.geo_base.specs.declared.row_id.RowId.{RowId}
use Rattle.geo_base.specs.Order.{row_cmp, row_eq}
use Rattle.geo_base.specs.laws.Orders.{row_eq_ties, same_row}
use Rattle.write_set.specs.declared.change.Change.{Change}
use Rattle.write_set.specs.declared.change.Change.TheVariants.{Put, Remove, Touch}
use Rattle.write_set.specs.declared.row_change.RowChange.{RowChange}
use Rattle.write_set.specs.declared.set_fault.SetFault.{SetFault}
use Rattle.write_set.specs.Net.{change_in, left_by, left_of, HasCause, HasNetCause}
use Rattle.write_set.specs.Sets.{ChangeOfRow, Rises}
use Rattle.write_set.specs.Sizes.{change_size, set_size}
use Rattle.write_set.specs.inner.Nets.{Left, left_in, left_with, left_with_all, replaced, all_replaced, share, gained, lost, once, net_of}
use Rattle.write_set.specs.laws.Lookups.{lookup_put, lookup_removed}
use Rattle.write_set.specs.laws.Rising.{below_all, rises_put, rises_removed, turned}
use Rattle.write_set.specs.laws.Rivals.{row_same}
use Rattle.write_set.proofs.Nets.{touch_kept, touch_put, net_cause, rises_net, rows_net, same_changes}

-- ---- what is left of each row

rises_left : (set : List ChangeOfRow) (row : RowId) (before : Bool) (change : Change) (left : Left) → Rises left → Rises (left_with set row before change left)
rises_left set row before (Put image) left h = rises_put row (Some (Put image)) left h
rises_left set row true Remove left h = rises_put row (Some Remove) left h
rises_left set row false Remove left h = rises_put row None left h
rises_left set row before Touch left h = by (is_some (left_in set left row))
  where
    by : (b : Bool) → Rises (cond b left (insert_entry row_cmp left row (Some Touch)))
    by true = h
    by false = rises_put row (Some Touch) left h

pub rises_left_all : (set : List ChangeOfRow) (left : Left) (changes : List RowChange) → Rises left → Rises (left_with_all set left changes)
rises_left_all set left [] h = h
rises_left_all set left (c ∷ cs) h = rises_left_all set (left_with set c.row c.before c.change left) cs (rises_left set c.row c.before c.change left h)

put_left : (q : Bool) (found : Option (Option Change)) (held left : Option Change) → unwrap_or (cond q (Some left) found) held ≡ cond q left (unwrap_or found held)
put_left true found held left = refl
put_left false found held left = refl

left_put : (set : List ChangeOfRow) (row : RowId) (left : Left) (at : RowId) (x : Option Change) →
    left_in set (insert_entry row_cmp left row x) at ≡ cond (row_eq at row) x (left_in set left at)
left_put set row left at x =
    ap (λ o. unwrap_or o (change_in set at)) (lookup_put left row at x) ∙ put_left (row_eq at row) (lookup (is_at (row_cmp at)) left) (change_in set at) x

left_in_with : (set : List ChangeOfRow) (row : RowId) (before : Bool) (change : Change) (left : Left) (at : RowId) →
    left_in set (left_with set row before change left) at ≡ cond (row_eq at row) (left_by before change (left_in set left at)) (left_in set left at)
left_in_with set row before (Put image) left at = left_put set row left at (Some (Put image))
left_in_with set row true Remove left at = left_put set row left at (Some Remove)
left_in_with set row false Remove left at = left_put set row left at None
left_in_with set row before Touch left at = by (is_some (left_in set left row)) refl
  where
    same : row_eq at row ≡ true → is_some (left_in set left at) ≡ is_some (left_in set left row)
    same e = ap (λ r. is_some (left_in set left r)) (row_same at row e)

    by : (b : Bool) → is_some (left_in set left row) ≡ b →
        left_in set (cond b left (insert_entry row_cmp left row (Some Touch))) at ≡ cond (row_eq at row) (Some (unwrap_or (left_in set left at) Touch)) (left_in set left at)
    by true is = touch_kept (row_eq at row) (left_in set left at) (λ e. same e ∙ is)
    by false is = left_put set row left at (Some Touch) ∙ touch_put (row_eq at row) (left_in set left at) (λ e. same e ∙ is)

left_in_all : (set : List ChangeOfRow) (left : Left) (changes : List RowChange) (at : RowId) →
    left_in set (left_with_all set left changes) at ≡ left_of changes at (left_in set left at)
left_in_all set left [] at = refl
left_in_all set left (c ∷ cs) at =
    left_in_all set (left_with set c.row c.before c.change left) cs at ∙ ap (left_of cs at) (left_in_with set c.row c.before c.change left at)

-- ---- what is left put in its place

rises_replaced : (l : RowId × Option Change) (set : List ChangeOfRow) → Rises set → Rises (replaced l set)
rises_replaced (row, Some change) set h = rises_put row change set h
rises_replaced (row, None) set h = rises_removed (is_at (row_cmp row)) set h

replaced_in : (l : RowId × Option Change) (set : List ChangeOfRow) (at : RowId) → Rises set →
    change_in (replaced l set) at ≡ cond (row_eq at l.0) l.1 (change_in set at)
replaced_in (row, Some change) set at h = lookup_put set row at change
replaced_in (row, None) set at h = lookup_removed set row at h

rises_all_replaced : (set : List ChangeOfRow) (left : Left) → Rises set → Rises (all_replaced set left)
rises_all_replaced set [] h = h
rises_all_replaced set (l ∷ ls) h = rises_all_replaced (replaced l set) ls (rises_replaced l set h)

module _ {X : Type 0} where
  -- a row that is less than those of all entries has none
  none_below : (row : RowId) (l : List (RowId × X)) → AllByRecursion (λ y. row_cmp row y ≡ Less) (keys_of l) → lookup (is_at (row_cmp row)) l ≡ None
  none_below row [] below = refl
  none_below row (e ∷ es) below = rw below.0 (none_below row es below.1)

  -- the row of the first of rising entries isn't among the others
  none_behind : (e : RowId × X) (es : List (RowId × X)) (at : RowId) → Rises (e ∷ es) → row_eq at e.0 ≡ true → lookup (is_at (row_cmp at)) es ≡ None
  unfolding IsStrictlySortedBy
  none_behind e es at h is = subst (λ r. lookup (is_at (row_cmp r)) es ≡ None) (sym (row_same at e.0 is)) (none_below e.0 es h.0)

rest_rises : {X : Type 0} (e : RowId × X) (es : List (RowId × X)) → Rises (e ∷ es) → Rises es
unfolding IsStrictlySortedBy
rest_rises e es h = h.1

all_replaced_in : (set : List ChangeOfRow) (left : Left) (at : RowId) → Rises set → Rises left → change_in (all_replaced set left) at ≡ left_in set left at
all_replaced_in set [] at h rising = refl
all_replaced_in set (l ∷ ls) at h rising =
    all_replaced_in (replaced l set) ls at (rises_replaced l set h) (rest_rises l ls rising)
    ∙ ap (unwrap_or (lookup (is_at (row_cmp at)) ls)) (replaced_in l set at h)
    ∙ by (row_eq at l.0) refl
    ∙ ap (λ b. unwrap_or (cond b (Some l.1) (lookup (is_at (row_cmp at)) ls)) (change_in set at)) (row_eq_ties at l.0)
  where
    by : (b : Bool) → row_eq at l.0 ≡ b →
        unwrap_or (lookup (is_at (row_cmp at)) ls) (cond b l.1 (change_in set at)) ≡ unwrap_or (cond b (Some l.1) (lookup (is_at (row_cmp at)) ls)) (change_in set at)
    by true is = ap (λ o. unwrap_or o l.1) (none_behind l ls at rising is)
    by false is = refl

nothing_left : Rises {X = Option Change} []
unfolding IsStrictlySortedBy
nothing_left = tt

-- the set with what the changes leave of each row in its place is the net
pub replaced_is_net : (set : List ChangeOfRow) (changes : List RowChange) → Rises set → all_replaced set (left_with_all set [] changes) ≡ net_of set changes
replaced_is_net set changes h =
    let rising = rises_left_all set [] changes nothing_left in
    same_changes (all_replaced set (left_with_all set [] changes)) (net_of set changes) (rises_all_replaced set (left_with_all set [] changes) h) (rises_net set changes h)
    (λ row. all_replaced_in set (left_with_all set [] changes) row h rising ∙ left_in_all set [] changes row ∙ sym (rows_net set changes row h))

-- ---- sums

module _ (f : ChangeOfRow → ℕ) where
  sum_put : (row : RowId) (change : Change) (l : List ChangeOfRow) → Rises l →
      sum_by f (insert_entry row_cmp l row change) + share f row (change_in l row) ≡ sum_by f l + f (row, change)
  unfolding IsStrictlySortedBy
  sum_put row change [] h = omega (arith, sum_by-cons f (row, change) [])
  sum_put row change (e ∷ es) h = by (row_cmp row e.0) refl (sum_put row change es h.1)
    where
      by : (o : Ordering) → row_cmp row e.0 ≡ o → sum_by f (insert_entry row_cmp es row change) + share f row (change_in es row) ≡ sum_by f es + f (row, change) →
          sum_by f (match_ordering o ((row, change) ∷ e ∷ es) ((e.0, change) ∷ es) (e ∷ insert_entry row_cmp es row change))
          + share f row (cond (is_eq o) (Some e.1) (change_in es row)) ≡ sum_by f (e ∷ es) + f (row, change)
      by Less is rest =
          let none : change_in es row ≡ None = none_below row es (below_all row e.0 es is h.0) in
          rw none (omega (arith, sum_by-cons f (row, change) (e ∷ es)))
      by Equal is rest =
          let same : row ≡ e.0 = same_row row e.0 is in
          let here : share f row (Some e.1) ≡ f e = ap (λ r. f (r, e.1)) same in
          let there : f (e.0, change) ≡ f (row, change) = ap (λ r. f (r, change)) (sym same) in
          omega (arith, here, there, sum_by-cons f (e.0, change) es, sum_by-cons f e es)
      by Greater is rest = omega (arith, rest, sum_by-cons f e (insert_entry row_cmp es row change), sum_by-cons f e es)

  sum_removed : (row : RowId) (l : List ChangeOfRow) →
      sum_by f (remove_entry (is_at (row_cmp row)) l) + share f row (change_in l row) ≡ sum_by f l
  sum_removed row [] = refl
  sum_removed row (e ∷ es) = by (row_cmp row e.0) refl (sum_removed row es)
    where
      kept : (o : Ordering) → sum_by f (remove_entry (is_at (row_cmp row)) es) + share f row (change_in es row) ≡ sum_by f es →
          sum_by f (e ∷ remove_entry (is_at (row_cmp row)) es) + share f row (change_in es row) ≡ sum_by f (e ∷ es)
      kept o rest = omega (arith, rest, sum_by-cons f e (remove_entry (is_at (row_cmp row)) es), sum_by-cons f e es)

      by : (o : Ordering) → row_cmp row e.0 ≡ o → sum_by f (remove_entry (is_at (row_cmp row)) es) + share f row (change_in es row) ≡ sum_by f es →
          sum_by f (cond (is_eq o) es (e ∷ remove_entry (is_at (row_cmp row)) es)) + share f row (cond (is_eq o) (Some e.1) (change_in es row)) ≡ sum_by f (e ∷ es)
      by Less is rest = kept Less rest
      by Equal is rest =
          let here : share f row (Some e.1) ≡ f e = ap (λ r. f (r, e.1)) (same_row row e.0 is) in
          omega (arith, here, sum_by-cons f e es)
      by Greater is rest = kept Greater rest

  sum_replaced : (l : RowId × Option Change) (set : List ChangeOfRow) → Rises set →
      sum_by f (replaced l set) + share f l.0 (change_in set l.0) ≡ sum_by f set + share f l.0 l.1
  sum_replaced (row, Some change) set h = sum_put row change set h
  sum_replaced (row, None) set h = sum_removed row set ∙ omega arith

  -- what the set has of the rows behind one stays when that one is replaced
  lost_behind : (l : RowId × Option Change) (set : List ChangeOfRow) (ls : Left) → Rises set → AllByRecursion (λ y. row_cmp l.0 y ≡ Less) (keys_of ls) →
      lost f (replaced l set) ls ≡ lost f set ls
  lost_behind l set [] h below = refl
  lost_behind l set (m ∷ ms) h below =
      let greater : row_cmp m.0 l.0 ≡ Greater = turned l.0 m.0 Less below.0 in
      let apart : row_eq m.0 l.0 ≡ false = row_eq_ties m.0 l.0 ∙ ap is_eq greater in
      let kept : change_in (replaced l set) m.0 ≡ change_in set m.0 = replaced_in l set m.0 h ∙ ap (λ b. cond b l.1 (change_in set m.0)) apart in
      let here : share f m.0 (change_in (replaced l set) m.0) ≡ share f m.0 (change_in set m.0) = ap (share f m.0) kept in
      let rest = lost_behind l set ms h below.1 in
      omega (arith, here, rest, sum_by-cons (λ x. share f x.0 (change_in (replaced l set) x.0)) m ms, sum_by-cons (λ x. share f x.0 (change_in set x.0)) m ms)

  pub sums : (set : List ChangeOfRow) (left : Left) → Rises set → Rises left → sum_by f (all_replaced set left) + lost f set left ≡ sum_by f set + gained f left
  unfolding IsStrictlySortedBy
  sums set [] h rising = refl
  sums set (l ∷ ls) h rising =
      let rest = sums (replaced l set) ls (rises_replaced l set h) rising.1 in
      let one = sum_replaced l set h in
      let same = lost_behind l set ls h rising.0 in
      omega (arith, rest, one, same, sum_by-cons (λ x. share f x.0 x.1) l ls, sum_by-cons (λ x. share f x.0 (change_in set x.0)) l ls)

-- as many as the list is long
pub sum_once : (l : List ChangeOfRow) → sum_by once l ≡ length l
sum_once [] = refl
sum_once (p ∷ ps) = omega (arith, sum_once ps, sum_by-cons once p ps)

-- what is left of the rows counts as much as what it takes the place of, and as the set did before

pub rows_after : (set : List ChangeOfRow) (left : Left) → Rises set → Rises left → length (all_replaced set left) + lost once set left ≡ length set + gained once left
rows_after set left h rising = omega (arith, sums once set left h rising, sum_once (all_replaced set left), sum_once set)

pub bytes_after : (set : List ChangeOfRow) (left : Left) → Rises set → Rises left → set_size (all_replaced set left) + lost change_size set left ≡ set_size set + gained change_size left
bytes_after set left h rising = sums change_size set left h rising

-- the bytes of one change alone
pub size_of_one : (p : ChangeOfRow) → change_size p ≡ set_size (p ∷ [])
size_of_one p = omega (arith, sum_by-cons change_size p [])

-- a sum is whole where none of the rows is left
pub whole : (sum : Left → ℕ) (left : Left) (n index : ℕ) → sum [] ≡ 0 → length left ≤ index → n + sum (drop index left) ≡ sum left → n ≡ sum left
whole sum left n index none upto counted =
    let rest : sum (drop index left) ≡ 0 = at_drop_all sum left index upto ∙ none in
    omega (arith, counted, rest)

-- the limit that the net breaks
pub replaced_cause : (set : List ChangeOfRow) (changes : List RowChange) (left : Left) (fault : SetFault) → Rises set → left ≡ left_with_all set [] changes →
    HasCause fault (all_replaced set left) → HasNetCause set changes fault
replaced_cause set changes left fault h is cause =
    net_cause set changes fault h (subst (HasCause fault) (ap (all_replaced set) is ∙ replaced_is_net set changes h) cause)
