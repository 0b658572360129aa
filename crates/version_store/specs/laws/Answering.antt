-- Laws: the versions that the epochs made answer as the snapshots do, and the newest is of the last change.
use Rattle.std.proofs.Common.{◌≡◌, ⊎_elim, ℕ, zero, suc, ◌+◌, ◌≤◌, Bool, true, false, cond, ◌&&◌, ◌||◌, List, [], ◌∷◌, length, refl, sym, ap, ◌∙◌, subst, arith}
use Rattle.std.specs.List.{list_any}
use Rattle.std.proofs.lemmas.Bool.{cases_lt}
use Rattle.std.proofs.lemmas.Bool.Decides.{nat_tests}
use Rattle.std.proofs.lemmas.List.Folds.{list_any-append}
use Rattle.geo_base.specs.declared.row_id.RowId.{RowId}
use Rattle.geo_base.specs.Order.{row_eq}
use Rattle.write_set.specs.Sets.{ChangeOfRow, alters, changes_row}
use Rattle.write_set.specs.Journal.{Journal, Placed, Epochs, epochs_of}
use Rattle.write_set.specs.Merge.{committed, last_change}
use Rattle.write_set.specs.Snapshot.{changes_of, image_after, snap_at}
use Rattle.write_set.specs.laws.Placing.{length_epochs}
use Rattle.write_set.specs.laws.Isolating.{after_none}
use Rattle.version_store.specs.Chains.{Version, Chain, image_at, change_at, newest_image, newest_epoch}
use Rattle.version_store.specs.History.{versions_of}
use Rattle.version_store.specs.laws.Trimming.{found_first, told_first}

-- candidates change a row where their changes, one after another, do
pub any_changes : (cs : List Placed) (row : RowId) → changes_row row (changes_of cs) ≡ list_any (λ c. changes_row row c.set) cs
any_changes [] row = refl
any_changes (c ∷ cs) row =
    list_any-append (λ (p : ChangeOfRow). row_eq row p.0 && alters p.1) c.set (changes_of cs) ∙ ap (λ b. changes_row row c.set || b) (any_changes cs row)

-- at its own epoch and later the newest version answers
pub newest_answers : (chain : Chain) (epoch : ℕ) → newest_epoch chain ≤ epoch → image_at chain epoch ≡ newest_image chain
newest_answers [] epoch within = refl
newest_answers (version ∷ older) epoch within = found_first version older epoch true (grind (arith, nat_tests, within))

pub newest_told : (chain : Chain) (epoch : ℕ) → newest_epoch chain ≤ epoch → change_at chain epoch ≡ newest_epoch chain
newest_told [] epoch within = refl
newest_told (version ∷ older) epoch within = told_first version older epoch true (grind (arith, nat_tests, within))

-- the newest version is of the row's last change
pub newest_is_last : (epochs : Epochs) (row : RowId) → newest_epoch (versions_of epochs row) ≡ last_change epochs row
newest_is_last [] row = refl
newest_is_last (all ∷ older) row =
    by (list_any (λ c. changes_row row c.set) (committed (all ∷ older))) (newest_is_last older row)
  where
    made : Version
    made = record { epoch = length older + 1; image = image_after (changes_of (committed (all ∷ older))) row (newest_image (versions_of older row)) }

    by : (b : Bool) → newest_epoch (versions_of older row) ≡ last_change older row →
        newest_epoch (cond b (made ∷ versions_of older row) (versions_of older row)) ≡ cond b (length older + 1) (last_change older row)
    by true rest = refl
    by false rest = rest

last_upto : (journal : Journal) (epoch : ℕ) (row : RowId) → last_change (epochs_of journal epoch) row ≤ epoch
last_upto journal zero row = omega arith
last_upto journal (suc epoch) row =
    by (list_any (λ c. changes_row row c.set) (committed (epochs_of journal (suc epoch)))) (last_upto journal epoch row)
  where
    by : (b : Bool) → last_change (epochs_of journal epoch) row ≤ epoch →
        cond b (length (epochs_of journal epoch) + 1) (last_change (epochs_of journal epoch) row) ≤ suc epoch
    by true rest = omega (arith, length_epochs journal epoch)
    by false rest = omega (arith, rest)

newest_within : (journal : Journal) (epoch : ℕ) (row : RowId) → newest_epoch (versions_of (epochs_of journal epoch) row) ≤ epoch
newest_within journal epoch row = omega (arith, newest_is_last (epochs_of journal epoch) row, last_upto journal epoch row)

-- at each epoch up to the last the versions answer what the snapshot has
abbrev Answer : Journal → ℕ → RowId → Type 0
Answer journal last row = (epoch : ℕ) → epoch ≤ last → image_at (versions_of (epochs_of journal last) row) epoch ≡ snap_at (epochs_of journal epoch) row

module _ (journal : Journal) (last : ℕ) (row : RowId) (rest : Answer journal last row) where
  abbrev some : Bool
  some = list_any (λ c. changes_row row c.set) (committed (epochs_of journal (suc last)))

  abbrev chain : Chain
  chain = versions_of (epochs_of journal last) row

  abbrev made : Version
  made = record { epoch = length (epochs_of journal last) + 1; image = image_after (changes_of (committed (epochs_of journal (suc last)))) row (newest_image chain) }

  is_next : made.epoch ≡ suc last
  is_next = omega (arith, length_epochs journal last)

  newest_snap : newest_image chain ≡ snap_at (epochs_of journal last) row
  newest_snap = sym (newest_answers chain last (newest_within journal last row)) ∙ rest last (omega arith)

  before : (epoch : ℕ) → epoch ≤ last → image_at (versions_of (epochs_of journal (suc last)) row) epoch ≡ snap_at (epochs_of journal epoch) row
  before epoch earlier = by some
    where
      by : (b : Bool) → image_at (cond b (made ∷ chain) chain) epoch ≡ snap_at (epochs_of journal epoch) row
      by true = found_first made chain epoch false (grind (arith, nat_tests, is_next, earlier)) ∙ rest epoch earlier
      by false = rest epoch earlier

  now : image_at (versions_of (epochs_of journal (suc last)) row) (suc last) ≡ snap_at (epochs_of journal (suc last)) row
  now = by some refl
    where
      by : (b : Bool) → some ≡ b → image_at (cond b (made ∷ chain) chain) (suc last) ≡ snap_at (epochs_of journal (suc last)) row
      by true is =
          found_first made chain (suc last) true (grind (arith, nat_tests, is_next))
          ∙ ap (image_after (changes_of (committed (epochs_of journal (suc last)))) row) newest_snap
      by false is =
          newest_answers chain (suc last) (omega (arith, newest_within journal last row))
          ∙ newest_snap
          ∙ sym (after_none (changes_of (committed (epochs_of journal (suc last)))) row (snap_at (epochs_of journal last) row) (any_changes (committed (epochs_of journal (suc last))) row ∙ is))

  next_answers : Answer journal (suc last) row
  next_answers epoch within =
      ⊎_elim
      (λ earlier. before epoch (omega (arith, earlier)))
      (λ other. subst (λ e. image_at (versions_of (epochs_of journal (suc last)) row) e ≡ snap_at (epochs_of journal e) row) (omega (arith, other, within)) now)
      (cases_lt epoch (suc last))

pub versions_answer : (journal : Journal) (last : ℕ) (row : RowId) → Answer journal last row
versions_answer journal zero row = at_first
  where
    at_first : Answer journal zero row
    at_first zero within = refl
    at_first (suc epoch) within = absurd (omega (arith, within))
versions_answer journal (suc last) row = next_answers journal last row (versions_answer journal last row)

-- and tell the row's last change up to then
abbrev Tell : Journal → ℕ → RowId → Type 0
Tell journal last row = (epoch : ℕ) → epoch ≤ last → change_at (versions_of (epochs_of journal last) row) epoch ≡ last_change (epochs_of journal epoch) row

pub versions_tell : (journal : Journal) (last : ℕ) (row : RowId) → Tell journal last row
versions_tell journal zero row = at_first
  where
    at_first : Tell journal zero row
    at_first zero within = refl
    at_first (suc epoch) within = absurd (omega (arith, within))
versions_tell journal (suc last) row = next (versions_tell journal last row)
  where
    older : Chain
    older = versions_of (epochs_of journal last) row

    newer : Version
    newer = record { epoch = length (epochs_of journal last) + 1; image = image_after (changes_of (committed (epochs_of journal (suc last)))) row (newest_image older) }

    earlier : (b : Bool) (epoch : ℕ) → epoch ≤ last → change_at (cond b (newer ∷ older) older) epoch ≡ change_at older epoch
    earlier true epoch within = told_first newer older epoch false (grind (arith, nat_tests, length_epochs journal last, within))
    earlier false epoch within = refl

    at_last : change_at (versions_of (epochs_of journal (suc last)) row) (suc last) ≡ last_change (epochs_of journal (suc last)) row
    at_last =
        newest_told (versions_of (epochs_of journal (suc last)) row) (suc last) (newest_within journal (suc last) row)
        ∙ newest_is_last (epochs_of journal (suc last)) row

    next : Tell journal last row → Tell journal (suc last) row
    next rest epoch within =
        ⊎_elim
        (λ before.
        let upto : epoch ≤ last = omega (arith, before) in
        earlier (list_any (λ c. changes_row row c.set) (committed (epochs_of journal (suc last)))) epoch upto ∙ rest epoch upto)
        (λ other. subst (λ e. change_at (versions_of (epochs_of journal (suc last)) row) e ≡ last_change (epochs_of journal e) row) (omega (arith, other, within)) at_last)
        (cases_lt epoch (suc last))
