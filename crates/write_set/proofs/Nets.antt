-- What the changes leave, one after another, is the net, and no other list is.
use Rattle.std.proofs.Common.{◌≡◌, ◌↔◌, Bool, true, false, cond, T, ◌&&◌, Option, None, Some, unwrap_or, List, [], ◌∷◌, refl, sym, ap, ◌∙◌, subst}
use Rattle.std.specs.FinMap.Entries as entries
use Rattle.std.specs.List.{AllByRecursion}
use Rattle.std.specs.List.Sorted.{IsStrictlySortedBy}
use Rattle.std.specs.Map.{keys_of}
use Rattle.std.specs.Option.{is_some}
use Rattle.std.specs.Ordering.{is_lt}
use Rattle.std.specs.declared.cmp.Ordering.TheVariants.{Less}
use Rattle.std.specs.BTreeMap.{insert_entry, is_at}
use Rattle.std.proofs.lemmas.Bool.{false≢true}
use Rattle.geo_base.specs.declared.row_id.RowId.{RowId}
use Rattle.geo_base.specs.Order.{row_cmp, row_eq}
use Rattle.geo_base.specs.laws.Orders.{row_cmp_total, same_row}
use Rattle.write_set.specs.declared.change.Change.{Change}
use Rattle.write_set.specs.declared.change.Change.TheVariants.{Put, Remove, Touch}
use Rattle.write_set.specs.declared.row_change.RowChange.{RowChange}
use Rattle.write_set.specs.declared.set_fault.SetFault.{SetFault}
use Rattle.write_set.specs.Net.{change_in, left_by, left_of, IsNet, TouchesKnown, HasTouchesOf, HasCause, HasNetCause}
use Rattle.write_set.specs.Sets.{ChangeOfRow, Rises}
use Rattle.write_set.specs.inner.Nets.{made, net_of}
use Rattle.write_set.specs.laws.Lookups.{lookup_put, lookup_removed}
use Rattle.write_set.specs.laws.Nets.{touches_left}
use Rattle.write_set.specs.laws.Rising.{rises_put, rises_removed}
use Rattle.write_set.specs.laws.Rivals.{row_same}

-- ---- one change

rises_made : (row : RowId) (before : Bool) (change : Change) (set : List ChangeOfRow) → Rises set → Rises (made row before change set)
rises_made row before (Put image) set h = rises_put row (Put image) set h
rises_made row true Remove set h = rises_put row Remove set h
rises_made row false Remove set h = rises_removed (is_at (row_cmp row)) set h
rises_made row before Touch set h = by (is_some (change_in set row))
  where
    by : (b : Bool) → Rises (cond b set (insert_entry row_cmp set row Touch))
    by true = h
    by false = rises_put row Touch set h

held_is : (held : Option Change) → is_some held ≡ true → held ≡ Some (unwrap_or held Touch)
held_is None some = absurd (false≢true some)
held_is (Some change) some = refl

none_held : (held : Option Change) → is_some held ≡ false → Some Touch ≡ Some (unwrap_or held Touch)
none_held None none = refl
none_held (Some change) none = absurd (false≢true (sym none))

-- a touch of a row that the set has, and of one that it lacks
pub touch_kept : (q : Bool) (held : Option Change) → (q ≡ true → is_some held ≡ true) → held ≡ cond q (Some (unwrap_or held Touch)) held
touch_kept true held some = held_is held (some refl)
touch_kept false held some = refl

pub touch_put : (q : Bool) (held : Option Change) → (q ≡ true → is_some held ≡ false) → cond q (Some Touch) held ≡ cond q (Some (unwrap_or held Touch)) held
touch_put true held none = none_held held (none refl)
touch_put false held none = refl

touched_in : (row : RowId) (set : List ChangeOfRow) (at : RowId) →
    change_in (cond (is_some (change_in set row)) set (insert_entry row_cmp set row Touch)) at
    ≡ cond (row_eq at row) (Some (unwrap_or (change_in set at) Touch)) (change_in set at)
touched_in row set at = by (is_some (change_in set row)) refl
  where
    same : row_eq at row ≡ true → is_some (change_in set at) ≡ is_some (change_in set row)
    same e = ap (λ r. is_some (change_in set r)) (row_same at row e)

    by : (b : Bool) → is_some (change_in set row) ≡ b →
        change_in (cond b set (insert_entry row_cmp set row Touch)) at ≡ cond (row_eq at row) (Some (unwrap_or (change_in set at) Touch)) (change_in set at)
    by true is = touch_kept (row_eq at row) (change_in set at) (λ e. same e ∙ is)
    by false is = lookup_put set row at Touch ∙ touch_put (row_eq at row) (change_in set at) (λ e. same e ∙ is)

made_in : (row : RowId) (before : Bool) (change : Change) (set : List ChangeOfRow) (at : RowId) → Rises set →
    change_in (made row before change set) at ≡ cond (row_eq at row) (left_by before change (change_in set at)) (change_in set at)
made_in row before (Put image) set at h = lookup_put set row at (Put image)
made_in row true Remove set at h = lookup_put set row at Remove
made_in row false Remove set at h = lookup_removed set row at h
made_in row before Touch set at h = touched_in row set at

-- ---- all of them

pub rises_net : (set : List ChangeOfRow) (changes : List RowChange) → Rises set → Rises (net_of set changes)
rises_net set [] h = h
rises_net set (c ∷ cs) h = rises_net (made c.row c.before c.change set) cs (rises_made c.row c.before c.change set h)

pub rows_net : (set : List ChangeOfRow) (changes : List RowChange) (row : RowId) → Rises set →
    change_in (net_of set changes) row ≡ left_of changes row (change_in set row)
rows_net set [] row h = refl
rows_net set (c ∷ cs) row h =
    rows_net (made c.row c.before c.change set) cs row (rises_made c.row c.before c.change set h)
    ∙ ap (left_of cs row) (made_in c.row c.before c.change set row h)

pub is_net : (set : List ChangeOfRow) (changes : List RowChange) → Rises set → IsNet set changes (net_of set changes)
is_net set changes h = record { rising = rises_net set changes h; rows = λ row. rows_net set changes row h }

pub net_touches : (set : List ChangeOfRow) (changes : List RowChange) → Rises set → TouchesKnown set changes → HasTouchesOf set changes (net_of set changes)
net_touches set changes h known row touched = touches_left changes (change_in set) known row (sym (rows_net set changes row h) ∙ touched)

pub net_cause : (set : List ChangeOfRow) (changes : List RowChange) (fault : SetFault) → Rises set → HasCause fault (net_of set changes) → HasNetCause set changes fault
net_cause set changes fault h cause = (net_of set changes, is_net set changes h, cause)

-- ---- there is one net

both_hold : (a b : Bool) → T a → T b → T (a && b)
both_hold true b p q = q
both_hold false b p q = p

below_entries : (row : RowId) (l : List ChangeOfRow) → AllByRecursion (λ y. row_cmp row y ≡ Less) (keys_of l) → T (entries.below_all row_cmp row l)
below_entries row [] below = tt
below_entries row (p ∷ ps) below =
    both_hold (is_lt (row_cmp row p.0)) (entries.below_all row_cmp row ps) (subst (λ o. T (is_lt o)) (sym below.0) tt) (below_entries row ps below.1)

sorted_entries : (l : List ChangeOfRow) → Rises l → T (entries.is_sorted row_cmp l)
unfolding IsStrictlySortedBy
sorted_entries [] rises = tt
sorted_entries (p ∷ ps) rises =
    both_hold (entries.below_all row_cmp p.0 ps) (entries.is_sorted row_cmp ps) (below_entries p.0 ps rises.0) (sorted_entries ps rises.1)

found_so : (row : RowId) (l : List ChangeOfRow) → entries.find row_cmp row l ≡ change_in l row
found_so row [] = refl
found_so row (p ∷ ps) = ap (cond (is_at (row_cmp row) p.0) (Some p.1)) (found_so row ps)

-- rising changes with the same look-ups are the same
pub same_changes : (a b : List ChangeOfRow) → Rises a → Rises b → ((row : RowId) → change_in a row ≡ change_in b row) → a ≡ b
same_changes a b rise_a rise_b same =
    entries.same_entries row_cmp row_cmp_total same_row a b (sorted_entries a rise_a) (sorted_entries b rise_b)
    (λ row. found_so row a ∙ same row ∙ sym (found_so row b))

pub net_is : (set : List ChangeOfRow) (changes : List RowChange) (net : List ChangeOfRow) → Rises set → (net_of set changes ≡ net) ↔ IsNet set changes net
net_is set changes net h = (
  λ e. subst (IsNet set changes) e (is_net set changes h),
  λ is. same_changes (net_of set changes) net (rises_net set changes h) is.rising (λ row. rows_net set changes row h ∙ sym (is.rows row)),
)
