-- Laws: a transaction's net is over its base what statements may leave, and stays so from one statement to the next.
use Rattle.std.proofs.Common.{◌≡◌, ◌⊎◌, inl, inr, ⊎_elim, ℕ, Bool, true, false, cond, Option, Some, None, IsSome, List, [], ◌∷◌, All, Contains, Result, Ok, Err, refl, sym, ◌∙◌, subst}
use Rattle.std.specs.List.Sorted.{IsStrictlySortedBy}
use Rattle.std.proofs.lemmas.List.Elements.{All-contains, All-nil}
use Rattle.std.proofs.lemmas.Option.{none-some}
use Rattle.geo_base.specs.Order.{row_eq}
use Rattle.geo_base.specs.declared.cell.Cell.{Cell}
use Rattle.geo_base.specs.declared.row_id.RowId.{RowId}
use Rattle.geo_base.specs.declared.row_image.RowImage.{RowImage}
use Rattle.geo_schema.specs.Schemas.{Tables}
use Rattle.row_source.specs.declared.fault.ExecFault.{ExecFault}
use Rattle.row_source.specs.Sources.{AreRowsOf, Fits}
use Rattle.sql_exec.specs.Changes.{AreChangesOfRows, ArePutsOfNewRows, HasFittingRow, IsOwnNet, IsPut, IsSoundChange}
use Rattle.sql_exec.specs.Effects.{HasRemovalsOf, IsDone, IsLocked, IsNetAfter}
use Rattle.sql_exec.specs.laws.Reading.{all_from_found, found_from_all}
use Rattle.sql_exec.specs.laws.Staying.{rows_stay}
use Rattle.write_set.specs.declared.change.Change.{Change}
use Rattle.write_set.specs.declared.change.Change.TheVariants.{Put, Remove, Touch}
use Rattle.write_set.specs.declared.row_change.RowChange.{RowChange}
use Rattle.write_set.specs.laws.Among.{among_first, among_later}
use Rattle.write_set.specs.laws.Nets.{IsKnownBy, IsMadeBy, left_from}
use Rattle.write_set.specs.laws.Rivals.{row_same}
use Rattle.write_set.specs.Net.{IsNet, change_in, left_by, left_of}
use Rattle.write_set.specs.Overlay.{Table, image_in, overlay}
use Rattle.write_set.specs.Sets.{ChangeOfRow}

-- ---- what a net removes

left_removed : (before : Bool) (change : Change) (held : Option Change) → left_by before change held ≡ Some Remove → (held ≡ Some Remove) ⊎ (before ≡ true)
left_removed before (Put image) held e = absurd cc
left_removed true Remove held e = inr refl
left_removed false Remove held e = absurd cc
left_removed before Touch None e = absurd cc
left_removed before Touch (Some change) e = inl e

-- where a removal is left of a row, one was left before the changes, or one of them says that the row is in the snapshot
removals_left : (changes : List RowChange) (row : RowId) (held : Option Change) → left_of changes row held ≡ Some Remove →
    (held ≡ Some Remove) ⊎ IsKnownBy changes row
removals_left [] row held e = inl e
removals_left (c ∷ cs) row held e =
    ⊎_elim
    (λ here. by (row_eq row c.row) refl here)
    (λ later. inr (later.0, among_later c later.0 cs later.1, later.2, later.3))
    (removals_left cs row (cond (row_eq row c.row) (left_by c.before c.change held) held) e)
  where
    by : (b : Bool) → row_eq row c.row ≡ b → cond b (left_by c.before c.change held) held ≡ Some Remove → (held ≡ Some Remove) ⊎ IsKnownBy (c ∷ cs) row
    by true is left = ⊎_elim inl (λ known. inr (c, among_first c cs, sym (row_same row c.row is), known)) (left_removed c.before c.change held left)
    by false is left = inl left

pub removals_of : (own : List ChangeOfRow) (changes : List RowChange) (net : List ChangeOfRow) → IsNet own changes net → HasRemovalsOf own changes net
removals_of own changes net is row found = removals_left changes row (change_in own row) (sym (is.rows row) ∙ found)

-- ---- the net of a transaction

module _ (tables : Tables) (base : Table) where
  -- the net of a transaction that has done nothing
  pub none_done : AreRowsOf tables base → IsOwnNet tables base []
  unfolding IsStrictlySortedBy
  none_done rows = record {
    base_rising = rows.rising;
    rising = tt;
    rows = rows;
    named = All-nil (HasFittingRow tables);
    touched = λ row none. absurd (none-some Touch none);
    removed = λ row none. absurd (none-some Remove none);
  }

  -- ---- one change

  abbrev SomeFits : RowId → Type 0
  SomeFits row = (image : RowImage) × Fits tables (row, image)

  -- a row that is there fits
  there_fits : (rows : Table) (row : RowId) → AreRowsOf tables rows → IsSome (image_in rows row) → SomeFits row
  there_fits rows row are there = by (image_in rows row) refl there
    where
      by : (o : Option RowImage) → image_in rows row ≡ o → IsSome o → SomeFits row
      by None is some = absurd cc
      by (Some image) is some = (image, found_from_all (Fits tables) rows row image are.fit is)

  row_fits : (row : RowId) (change : Change) → ((image : RowImage) → change ≡ Put image → Fits tables (row, image)) → IsPut change ⊎ SomeFits row → HasFittingRow tables (row, change)
  row_fits row (Put image) put some = put image refl
  row_fits row Remove put (inl puts) = absurd puts
  row_fits row Remove put (inr some) = some
  row_fits row Touch put (inl puts) = absurd puts
  row_fits row Touch put (inr some) = some

  -- a sound change that puts its row, or whose row is there
  pub record IsMade (rows : Table) (c : RowChange) : Type 0 where
    pub sound : IsSoundChange tables base c
    pub row : IsPut c.change ⊎ IsSome (image_in rows c.row)

  made_fits : (rows : Table) (c : RowChange) → AreRowsOf tables rows → IsMade rows c → HasFittingRow tables (c.row, c.change)
  made_fits rows c are made = row_fits c.row c.change made.sound.fits (by made.row)
    where
      by : IsPut c.change ⊎ IsSome (image_in rows c.row) → IsPut c.change ⊎ SomeFits c.row
      by (inl put) = inl put
      by (inr there) = inr (there_fits rows c.row are there)

  -- ---- the net after such changes

  module _ (own : List ChangeOfRow) (before : IsOwnNet tables base own) (changes : List RowChange) (made : All (IsMade (overlay base own)) changes)
      (net : List ChangeOfRow) (after : IsNetAfter own changes net) where
    made_at : (c : RowChange) → Contains changes c → IsMade (overlay base own) c
    made_at c among = All-contains (IsMade (overlay base own)) changes c made among

    from_change : (row : RowId) (change : Change) (c : RowChange) → Contains changes c → c.row ≡ row → c.change ≡ change → HasFittingRow tables (row, change)
    from_change row change c among same_row same_change =
        subst (λ (r : RowId). HasFittingRow tables (r, change)) same_row
        (subst (λ (d : Change). HasFittingRow tables (c.row, d)) same_change (made_fits (overlay base own) c before.rows (made_at c among)))

    row_named : (row : RowId) (change : Change) → change_in net row ≡ Some change → HasFittingRow tables (row, change)
    row_named row change found = by (left_from changes (change_in own) row change (sym (after.is_net.rows row) ∙ found))
      where
        by : (change_in own row ≡ Some change) ⊎ IsMadeBy changes row change → HasFittingRow tables (row, change)
        by (inl held) = found_from_all (HasFittingRow tables) own row change before.named held
        by (inr (c, among, same_row, same_change)) = from_change row change c among same_row same_change

    -- what a change says to be in the snapshot is in the base
    row_known : (row : RowId) → IsKnownBy changes row → IsSome (image_in base row)
    row_known row (c, among, same, known) = subst (λ (r : RowId). IsSome (image_in base r)) same (sym (made_at c among).sound.before ∙ known)

    row_touched : (row : RowId) → change_in net row ≡ Some Touch → IsSome (image_in base row)
    row_touched row found = ⊎_elim (before.touched row) (row_known row) (after.touches row found)

    row_removed : (row : RowId) → change_in net row ≡ Some Remove → IsSome (image_in base row)
    row_removed row found = ⊎_elim (before.removed row) (row_known row) (after.removals row found)

    pub net_stays : IsOwnNet tables base net
    net_stays = record {
      base_rising = before.base_rising;
      rising = after.is_net.rising;
      rows = rows_stay tables base own changes net before.base_rising before.rising before.rows (λ k d within. (made k d within).sound) after.is_net;
      named = all_from_found (HasFittingRow tables) net after.is_net.rising row_named;
      touched = row_touched;
      removed = row_removed;
    }

  -- ---- the changes of statements

  module _ (own : List ChangeOfRow) (before : IsOwnNet tables base own) (number : ℕ) (changes : List RowChange) (net : List ChangeOfRow) (after : IsNetAfter own changes net) where
    pub puts_stay : ArePutsOfNewRows tables number base own changes → IsOwnNet tables base net
    puts_stay are = net_stays own before changes (λ k d within. record { sound = are.sound k d within; row = inl (are.puts k d within) }) net after

    pub changes_stay : (IsOfKind : Change → Type 0) → AreChangesOfRows IsOfKind tables number base own changes → IsOwnNet tables base net
    changes_stay IsOfKind are = net_stays own before changes (λ k d within. record { sound = are.sound k d within; row = inr (are.there k d within) }) net after

-- what is said of the changes where a statement is done
pub done_by : (own : List ChangeOfRow) (made : Result (List RowChange) ExecFault) (changed : ℕ) (net : List ChangeOfRow) → IsDone own made changed net →
    (changes : List RowChange) × (made ≡ Ok changes) × IsNetAfter own changes net
done_by own (Ok changes) changed net done = (changes, refl, done.1)
done_by own (Err e) changed net done = absurd done

-- and what of the touches where one that locks is
pub locked_by : (own : List ChangeOfRow) (made : Result (List (List Cell) × List RowChange) ExecFault) (lines : List (List Cell)) (net : List ChangeOfRow) → IsLocked own made lines net →
    (both : List (List Cell) × List RowChange) × (made ≡ Ok both) × IsNetAfter own both.1 net
locked_by own (Ok both) lines net done = (both, refl, done.1)
locked_by own (Err e) lines net done = absurd done
