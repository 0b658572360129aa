-- Laws: what kept versions answer after an epoch is applied and after the horizon is moved, and which images they hold.
use Rattle.std.proofs.Common.{◌≡◌, ◌⊎◌, inl, inr, ⊎_elim, ℕ, ◌+◌, ◌<◌, ◌≤◌, Bool, true, false, cond, nat_le, nat_lt, Option, None, Some, unwrap_or, List, [], ◌∷◌, length, Contains, refl, sym, ap, ◌∙◌, subst, arith}
use Rattle.std.specs.List.{list_any}
use Rattle.std.specs.Option.{is_some}
use Rattle.std.proofs.lemmas.Bool.Decides.{nat_tests}
use Rattle.geo_base.specs.declared.row_id.RowId.{RowId}
use Rattle.geo_base.specs.declared.row_image.RowImage.{RowImage}
use Rattle.geo_base.specs.Order.{row_cmp, row_eq}
use Rattle.write_set.specs.declared.change.Change.TheVariants.{Put, Remove, Touch}
use Rattle.write_set.specs.Sets.{ChangeOfRow, changes_row}
use Rattle.write_set.specs.Journal.{Placed}
use Rattle.write_set.specs.Snapshot.{changes_of, image_left, image_after}
use Rattle.write_set.specs.laws.Among.{among_none, among_first, among_later, among_cases}
use Rattle.write_set.specs.laws.Isolating.{after_none}
use Rattle.write_set.specs.laws.Rivals.{row_same}
use Rattle.page_map.specs.Pairs.{found_at}
use Rattle.version_store.specs.Chains.{Version, Chain, FallsBelow, image_at, change_at, newest_image, newest_epoch, grown, kept_at}
use Rattle.version_store.specs.History.{Kept, chain_of, IsKept, IsApplied, IsTrimmed}
use Rattle.version_store.specs.laws.Trimming.{found_first, answers_from}
use Rattle.version_store.specs.laws.Answering.{any_changes, newest_answers, newest_told}

-- ---- what is kept of a row

pub falls_of : (kept : Kept) → IsKept kept → (row : RowId) → FallsBelow (kept.applied + 1) (chain_of kept row)
falls_of kept lawful row = by (found_at row_cmp row kept.rows) refl
  where
    by : (held : Option Chain) → found_at row_cmp row kept.rows ≡ held → FallsBelow (kept.applied + 1) (unwrap_or held [])
    by None is = tt
    by (Some chain) is = (lawful.chains row chain is).falls

pub whole_of : (kept : Kept) → IsKept kept → (row : RowId) → kept_at kept.horizon (chain_of kept row) ≡ chain_of kept row
whole_of kept lawful row = by (found_at row_cmp row kept.rows) refl
  where
    by : (held : Option Chain) → found_at row_cmp row kept.rows ≡ held → kept_at kept.horizon (unwrap_or held []) ≡ unwrap_or held []
    by None is = refl
    by (Some chain) is = (lawful.chains row chain is).whole

falls_newest : (last : ℕ) (chain : Chain) → FallsBelow (last + 1) chain → newest_epoch chain ≤ last
falls_newest last [] falls = omega arith
falls_newest last (version ∷ older) falls = omega (arith, falls.1)

-- the newest version answers at the last epoch
pub newest_is_read : (kept : Kept) (row : RowId) → IsKept kept → image_at (chain_of kept row) kept.applied ≡ newest_image (chain_of kept row)
newest_is_read kept row lawful =
    newest_answers (chain_of kept row) kept.applied (falls_newest kept.applied (chain_of kept row) (falls_of kept lawful row))

pub newest_is_told : (kept : Kept) (row : RowId) → IsKept kept → change_at (chain_of kept row) kept.applied ≡ newest_epoch (chain_of kept row)
newest_is_told kept row lawful =
    newest_told (chain_of kept row) kept.applied (falls_newest kept.applied (chain_of kept row) (falls_of kept lawful row))

-- ---- after an epoch is applied

module _ (committed : List Placed) (old new : Kept) (row : RowId) (step : IsApplied committed old new) where
  abbrev made : Version
  made = record { epoch = old.applied + 1; image = image_after (changes_of committed) row (newest_image (chain_of old row)) }

  -- what was read at earlier epochs is read still
  pub earlier_stay : (epoch : ℕ) → epoch ≤ old.applied → image_at (chain_of new row) epoch ≡ image_at (chain_of old row) epoch
  earlier_stay epoch within =
      ap (λ chain. image_at chain epoch) (step.chains row) ∙ by (list_any (λ c. changes_row row c.set) committed)
    where
      by : (b : Bool) → image_at (cond b (made ∷ chain_of old row) (chain_of old row)) epoch ≡ image_at (chain_of old row) epoch
      by true = found_first made (chain_of old row) epoch false (grind (arith, nat_tests, within))
      by false = refl

  -- at the new epoch the changes are made to the image that was the last
  pub next_is_read : IsKept old → image_at (chain_of new row) new.applied ≡ image_after (changes_of committed) row (newest_image (chain_of old row))
  next_is_read lawful =
      ap (λ epoch. image_at (chain_of new row) epoch) step.applied
      ∙ ap (λ chain. image_at chain (old.applied + 1)) (step.chains row)
      ∙ by (list_any (λ c. changes_row row c.set) committed) refl
    where
      within : newest_epoch (chain_of old row) ≤ old.applied + 1
      within = omega (arith, falls_newest old.applied (chain_of old row) (falls_of old lawful row))

      by : (b : Bool) → list_any (λ c. changes_row row c.set) committed ≡ b →
          image_at (cond b (made ∷ chain_of old row) (chain_of old row)) (old.applied + 1) ≡ image_after (changes_of committed) row (newest_image (chain_of old row))
      by true is = found_first made (chain_of old row) (old.applied + 1) true (grind (arith, nat_tests))
      by false is =
          newest_answers (chain_of old row) (old.applied + 1) within
          ∙ sym (after_none (changes_of committed) row (newest_image (chain_of old row)) (any_changes committed row ∙ is))

  -- a row that none of them changes reads as it did
  pub unchanged_is_read : IsKept old → list_any (λ c. changes_row row c.set) committed ≡ false →
      image_at (chain_of new row) new.applied ≡ image_at (chain_of old row) old.applied
  unchanged_is_read lawful none =
      next_is_read lawful
      ∙ after_none (changes_of committed) row (newest_image (chain_of old row)) (any_changes committed row ∙ none)
      ∙ sym (newest_is_read old row lawful)

-- ---- after the horizon is moved

pub later_stay : (horizon : ℕ) (old new : Kept) (row : RowId) (epoch : ℕ) → IsTrimmed horizon old new → horizon ≤ epoch →
    image_at (chain_of new row) epoch ≡ image_at (chain_of old row) epoch
later_stay horizon old new row epoch step from =
    ap (λ chain. image_at chain epoch) (step.chains row) ∙ answers_from horizon (chain_of old row) epoch from

-- ---- which images are held

-- the versions answer so at an epoch from the horizon on and before the bound
abbrev pub AnswersWithin : ℕ → ℕ → Chain → Option RowImage → Type 0
AnswersWithin horizon bound chain image = (epoch : ℕ) × (horizon ≤ epoch) × (epoch < bound) × (image_at chain epoch ≡ image)

first_answers : (horizon bound : ℕ) (version : Version) (older : Chain) → horizon < bound → version.epoch < bound →
    AnswersWithin horizon bound (version ∷ older) version.image
first_answers horizon bound version older before below = by (nat_lt horizon version.epoch) refl
  where
    by : (b : Bool) → nat_lt horizon version.epoch ≡ b → AnswersWithin horizon bound (version ∷ older) version.image
    by true is =
        let later : horizon < version.epoch = grind (arith, nat_tests, is) in
        (version.epoch, omega (arith, later), below, found_first version older version.epoch true (grind (arith, nat_tests)))
    by false is = (horizon, omega arith, before, found_first version older horizon true (grind (arith, nat_tests, is)))

-- of several versions of which the horizon leaves all, the first is newer than it, and it leaves the others
first_later : (horizon : ℕ) (version next : Version) (older : Chain) → kept_at horizon (version ∷ next ∷ older) ≡ version ∷ next ∷ older →
    (horizon < version.epoch) × (kept_at horizon (next ∷ older) ≡ next ∷ older)
first_later horizon version next older whole = by (nat_lt horizon version.epoch) (is_some version.image) refl whole
  where
    rest_of : Chain → Chain
    rest_of [] = []
    rest_of (v ∷ vs) = vs

    by : (b c : Bool) → nat_lt horizon version.epoch ≡ b → cond b (version ∷ kept_at horizon (next ∷ older)) (cond c (version ∷ []) []) ≡ version ∷ next ∷ older →
        (horizon < version.epoch) × (kept_at horizon (next ∷ older) ≡ next ∷ older)
    by true c is same = (grind (arith, nat_tests, is), ap rest_of same)
    by false true is same = absurd (omega (arith, ap length same))
    by false false is same = absurd (omega (arith, ap length same))

-- each version of a kept chain answers at some epoch
pub version_is_read : (horizon bound : ℕ) (chain : Chain) (version : Version) → horizon < bound → FallsBelow bound chain → kept_at horizon chain ≡ chain →
    Contains chain version → AnswersWithin horizon bound chain version.image
version_is_read horizon bound [] version before falls whole among = absurd (among_none version among)
version_is_read horizon bound (v ∷ []) version before falls whole among =
    ⊎_elim
    (λ same. subst (λ w. AnswersWithin horizon bound (v ∷ []) w.image) same (first_answers horizon bound v [] before falls.1))
    (λ none. absurd (among_none version none))
    (among_cases v [] version among)
version_is_read horizon bound (v ∷ w ∷ older) version before falls whole among =
    ⊎_elim
    (λ same. subst (λ x. AnswersWithin horizon bound (v ∷ w ∷ older) x.image) same (first_answers horizon bound v (w ∷ older) before falls.1))
    (λ later.
    let left = first_later horizon v w older whole in
    let found : AnswersWithin horizon v.epoch (w ∷ older) version.image = version_is_read horizon v.epoch (w ∷ older) version left.0 falls.2 left.1 later in
    (found.0, found.1, omega (arith, found.2, falls.1), found_first v (w ∷ older) found.0 false (grind (arith, nat_tests, found.2)) ∙ found.3))
    (among_cases v (w ∷ older) version among)

-- each image that is answered is a version's
pub read_is_version : (chain : Chain) (epoch : ℕ) (image : RowImage) → image_at chain epoch ≡ Some image →
    (version : Version) × Contains chain version × (version.image ≡ Some image)
read_is_version [] epoch image read = cc
read_is_version (v ∷ older) epoch image read =
    by (nat_le v.epoch epoch) (sym (found_first v older epoch (nat_le v.epoch epoch) refl) ∙ read) (read_is_version older epoch image)
  where
    by : (b : Bool) → cond b v.image (image_at older epoch) ≡ Some image →
        (image_at older epoch ≡ Some image → (version : Version) × Contains older version × (version.image ≡ Some image)) →
        (version : Version) × Contains (v ∷ older) version × (version.image ≡ Some image)
    by true is rest = (v, among_first v older, is)
    by false is rest =
        let found = rest is in
        (found.0, among_later v found.0 older found.1, found.2)

-- an image after changes was there before them, or one of them puts it
pub image_is_put : (changes : List ChangeOfRow) (row : RowId) (before : Option RowImage) (image : RowImage) → image_after changes row before ≡ Some image →
    (before ≡ Some image) ⊎ Contains changes (row, Put image)
image_is_put [] row before image is = inl is
image_is_put (p ∷ ps) row before image is =
    ⊎_elim (by p (row_eq row p.0) refl) (λ later. inr (among_later p (row, Put image) ps later))
    (image_is_put ps row (cond (row_eq row p.0) (image_left p.1 before) before) image is)
  where
    by : (q : ChangeOfRow) (b : Bool) → row_eq row q.0 ≡ b → cond b (image_left q.1 before) before ≡ Some image →
        (before ≡ Some image) ⊎ Contains (q ∷ ps) (row, Put image)
    by q false same left = inl left
    by (at, Put new) true same left =
        let put : new ≡ image = cc in
        let name : at ≡ row = sym (row_same row at same) in
        inr (subst (λ (r : ChangeOfRow). Contains ((at, Put new) ∷ ps) r) (λ i. (name i, Put (put i))) (among_first (at, Put new) ps))
    by (at, Remove) true same left = cc
    by (at, Touch) true same left = inl left

-- each image of the versions after an epoch is one of those before it, or one that a candidate puts that commits
pub grown_images : (epoch : ℕ) (committed : List Placed) (row : RowId) (chain : Chain) (version : Version) (image : RowImage) →
    Contains (grown epoch committed row chain) version → version.image ≡ Some image →
    ((earlier : Version) × Contains chain earlier × (earlier.image ≡ Some image)) ⊎ Contains (changes_of committed) (row, Put image)
grown_images epoch committed row chain version image among is = by (list_any (λ c. changes_row row c.set) committed) among
  where
    made : Version
    made = record { epoch = epoch; image = image_after (changes_of committed) row (newest_image chain) }

    newest_is : (older : Chain) → newest_image older ≡ Some image → (earlier : Version) × Contains older earlier × (earlier.image ≡ Some image)
    newest_is [] none = cc
    newest_is (v ∷ vs) has = (v, among_first v vs, has)

    by : (b : Bool) → Contains (cond b (record { epoch = epoch; image = image_after (changes_of committed) row (newest_image chain) } ∷ chain) chain) version →
        ((earlier : Version) × Contains chain earlier × (earlier.image ≡ Some image)) ⊎ Contains (changes_of committed) (row, Put image)
    by true here =
        ⊎_elim
        (λ same. ⊎_elim (λ before. inl (newest_is chain before)) inr (image_is_put (changes_of committed) row (newest_image chain) image (ap (λ (v : Version). v.image) same ∙ is)))
        (λ later. inl (version, later, is))
        (among_cases made chain version here)
    by false here = inl (version, here, is)
