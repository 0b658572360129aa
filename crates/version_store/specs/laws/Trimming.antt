-- Laws: what a horizon leaves of the versions of a row.
use Rattle.std.proofs.Common.{◌≡◌, ℕ, ◌<◌, ◌≤◌, Bool, true, false, cond, nat_le, nat_lt, Option, None, Some, List, [], ◌∷◌, find, refl, sym, ap, ◌∙◌, subst, arith}
use Rattle.std.specs.List.{list_any}
use Rattle.std.specs.Option.{is_some}
use Rattle.std.proofs.lemmas.Bool.Decides.{nat_tests}
use Rattle.geo_base.specs.declared.row_id.RowId.{RowId}
use Rattle.geo_base.specs.declared.row_image.RowImage.{RowImage}
use Rattle.write_set.specs.Sets.{changes_row}
use Rattle.write_set.specs.Journal.{Placed}
use Rattle.write_set.specs.Snapshot.{changes_of, image_after}
use Rattle.version_store.specs.Chains.{Version, Chain, image_of, image_at, epoch_of, change_at, newest_image, newest_epoch, grown, standing, kept_at}
use Rattle.version_store.specs.History.{TellsChange}

upto : (a b : ℕ) → a ≤ b → nat_le a b ≡ true
upto a b h = grind (arith, nat_tests, h)

not_after : (a b : ℕ) → a ≤ b → nat_lt b a ≡ false
not_after a b h = grind (arith, nat_tests, h)

not_later : (a b : ℕ) → nat_lt b a ≡ false → a ≤ b
not_later a b e = grind (arith, nat_tests, e)

-- the test of the newest version decides what is found
pub found_first : (version : Version) (older : Chain) (epoch : ℕ) (b : Bool) → nat_le version.epoch epoch ≡ b →
    image_at (version ∷ older) epoch ≡ cond b version.image (image_at older epoch)
found_first version older epoch true is = ap (λ b. image_of (cond b (Some version) (find (λ v. nat_le v.epoch epoch) older))) is
found_first version older epoch false is = ap (λ b. image_of (cond b (Some version) (find (λ v. nat_le v.epoch epoch) older))) is

-- and which epoch is told
pub told_first : (version : Version) (older : Chain) (epoch : ℕ) (b : Bool) → nat_le version.epoch epoch ≡ b →
    change_at (version ∷ older) epoch ≡ cond b version.epoch (change_at older epoch)
told_first version older epoch true is = ap (λ b. epoch_of (cond b (Some version) (find (λ v. nat_le v.epoch epoch) older))) is
told_first version older epoch false is = ap (λ b. epoch_of (cond b (Some version) (find (λ v. nat_le v.epoch epoch) older))) is

-- a version that is left or not by whether it has an image
abbrev left : Bool → Version → Chain
left b version = cond b (version ∷ []) []

none_left : (image : Option RowImage) → is_some image ≡ false → image ≡ None
none_left None is = refl
none_left (Some image) is = cc

-- what stands of a version answers as the version does
standing_answers : (version : Version) (epoch : ℕ) → version.epoch ≤ epoch → image_at (standing version) epoch ≡ version.image
standing_answers version epoch within = by (is_some version.image) refl
  where
    by : (b : Bool) → is_some version.image ≡ b → image_at (left b version) epoch ≡ version.image
    by true is = found_first version [] epoch true (upto version.epoch epoch within)
    by false is = sym (none_left version.image is)

standing_newest : (version : Version) → newest_image (standing version) ≡ version.image
standing_newest version = by (is_some version.image) refl
  where
    by : (b : Bool) → is_some version.image ≡ b → newest_image (left b version) ≡ version.image
    by true is = refl
    by false is = sym (none_left version.image is)

standing_below : (version : Version) (horizon : ℕ) → version.epoch ≤ horizon → newest_epoch (standing version) ≤ horizon
standing_below version horizon within = by (is_some version.image)
  where
    by : (b : Bool) → newest_epoch (left b version) ≤ horizon
    by true = within
    by false = omega arith

standing_kept : (version : Version) (horizon : ℕ) → version.epoch ≤ horizon → kept_at horizon (standing version) ≡ standing version
standing_kept version horizon within = by (is_some version.image) refl
  where
    by : (b : Bool) → is_some version.image ≡ b → kept_at horizon (left b version) ≡ left b version
    by true is =
        ap (λ b. cond b (version ∷ []) (standing version)) (not_after version.epoch horizon within) ∙ ap (λ b. left b version) is
    by false is = refl

-- from the horizon on the same is answered
pub answers_from : (horizon : ℕ) (chain : Chain) (epoch : ℕ) → horizon ≤ epoch → image_at (kept_at horizon chain) epoch ≡ image_at chain epoch
answers_from horizon [] epoch from = refl
answers_from horizon (version ∷ older) epoch from = by (nat_lt horizon version.epoch) refl (answers_from horizon older epoch from)
  where
    whole : Bool → Chain
    whole b = cond b (version ∷ kept_at horizon older) (standing version)

    by : (b : Bool) → nat_lt horizon version.epoch ≡ b → image_at (kept_at horizon older) epoch ≡ image_at older epoch →
        image_at (whole b) epoch ≡ image_at (version ∷ older) epoch
    by true is rest =
        found_first version (kept_at horizon older) epoch (nat_le version.epoch epoch) refl
        ∙ ap (cond (nat_le version.epoch epoch) version.image) rest
        ∙ sym (found_first version older epoch (nat_le version.epoch epoch) refl)
    by false is rest =
        let within : version.epoch ≤ epoch = omega (arith, not_later version.epoch horizon is, from) in
        standing_answers version epoch within ∙ sym (found_first version older epoch true (upto version.epoch epoch within))

-- what an earlier horizon left is trimmed to the same
pub kept_again : (earlier later : ℕ) (chain : Chain) → earlier ≤ later → kept_at later (kept_at earlier chain) ≡ kept_at later chain
kept_again earlier later [] order = refl
kept_again earlier later (version ∷ older) order = by (nat_lt earlier version.epoch) refl (kept_again earlier later older order)
  where
    by : (b : Bool) → nat_lt earlier version.epoch ≡ b → kept_at later (kept_at earlier older) ≡ kept_at later older →
        kept_at later (cond b (version ∷ kept_at earlier older) (standing version)) ≡ kept_at later (version ∷ older)
    by true is rest = ap (λ kept. cond (nat_lt later version.epoch) (version ∷ kept) (standing version)) rest
    by false is rest =
        let within : version.epoch ≤ later = omega (arith, not_later version.epoch earlier is, order) in
        standing_kept version later within
        ∙ sym (ap (λ b. cond b (version ∷ kept_at later older) (standing version)) (not_after version.epoch later within))

-- the newest image is left
pub newest_kept : (horizon : ℕ) (chain : Chain) → newest_image (kept_at horizon chain) ≡ newest_image chain
newest_kept horizon [] = refl
newest_kept horizon (version ∷ older) = by (nat_lt horizon version.epoch)
  where
    by : (b : Bool) → newest_image (cond b (version ∷ kept_at horizon older) (standing version)) ≡ version.image
    by true = refl
    by false = standing_newest version

-- the newest version is left where it is newer than the horizon, and else none that is
pub newest_after : (horizon : ℕ) (chain : Chain) → horizon < newest_epoch chain → newest_epoch (kept_at horizon chain) ≡ newest_epoch chain
newest_after horizon [] more = absurd (omega (arith, more))
newest_after horizon (version ∷ older) more = by (nat_lt horizon version.epoch) refl
  where
    by : (b : Bool) → nat_lt horizon version.epoch ≡ b →
        newest_epoch (cond b (version ∷ kept_at horizon older) (standing version)) ≡ version.epoch
    by true is = refl
    by false is = absurd (omega (arith, not_later version.epoch horizon is, more))

pub newest_upto : (horizon : ℕ) (chain : Chain) → newest_epoch chain ≤ horizon → newest_epoch (kept_at horizon chain) ≤ horizon
newest_upto horizon [] within = within
newest_upto horizon (version ∷ older) within =
    by (nat_lt horizon version.epoch) (not_after version.epoch horizon within)
  where
    by : (b : Bool) → b ≡ false → newest_epoch (cond b (version ∷ kept_at horizon older) (standing version)) ≤ horizon
    by true is = cc
    by false is = standing_below version horizon within

-- ---- the last change up to an epoch

-- the same is told of the same
pub retold : (horizon a b c d : ℕ) → a ≡ b → c ≡ d → TellsChange horizon b d → TellsChange horizon a c
retold horizon a b c d last told tells = subst (λ n. TellsChange horizon n c) (sym last) (subst (TellsChange horizon b) (sym told) tells)

standing_told : (version : Version) (horizon epoch : ℕ) → version.epoch ≤ horizon → change_at (standing version) epoch ≤ horizon
standing_told version horizon epoch within = by (is_some version.image)
  where
    least : (b : Bool) → cond b version.epoch 0 ≤ horizon
    least true = within
    least false = omega arith

    by : (b : Bool) → change_at (left b version) epoch ≤ horizon
    by true = subst (λ n. n ≤ horizon) (sym (told_first version [] epoch (nat_le version.epoch epoch) refl)) (least (nat_le version.epoch epoch))
    by false = omega arith

-- what a horizon leaves tells the last change up to an epoch from the horizon on, where that is after the horizon
pub told_from : (horizon : ℕ) (chain : Chain) (epoch : ℕ) → horizon ≤ epoch → TellsChange horizon (change_at chain epoch) (change_at (kept_at horizon chain) epoch)
told_from horizon [] epoch from = record { later = λ after. refl; upto = λ within. within }
told_from horizon (version ∷ older) epoch from = by (nat_lt horizon version.epoch) refl (told_from horizon older epoch from)
  where
    whole : Bool → Chain
    whole b = cond b (version ∷ kept_at horizon older) (standing version)

    newer : (b : Bool) → TellsChange horizon (change_at older epoch) (change_at (kept_at horizon older) epoch) →
        TellsChange horizon (cond b version.epoch (change_at older epoch)) (cond b version.epoch (change_at (kept_at horizon older) epoch))
    newer true rest = record { later = λ after. refl; upto = λ within. within }
    newer false rest = rest

    by : (b : Bool) → nat_lt horizon version.epoch ≡ b → TellsChange horizon (change_at older epoch) (change_at (kept_at horizon older) epoch) →
        TellsChange horizon (change_at (version ∷ older) epoch) (change_at (whole b) epoch)
    by true is rest =
        retold horizon _ _ _ _ (told_first version older epoch (nat_le version.epoch epoch) refl)
        (told_first version (kept_at horizon older) epoch (nat_le version.epoch epoch) refl) (newer (nat_le version.epoch epoch) rest)
    by false is rest =
        let below : version.epoch ≤ horizon = not_later version.epoch horizon is in
        let told = told_first version older epoch true (upto version.epoch epoch (omega (arith, below, from))) in
        record {
          later = λ after. absurd (omega (arith, after, below, told));
          upto = λ within. standing_told version horizon epoch below;
        }

-- ---- what is added

-- an epoch after the horizon adds to what is left as it adds to all
pub grown_kept : (horizon epoch : ℕ) (committed : List Placed) (row : RowId) (chain : Chain) → horizon < epoch →
    grown epoch committed row (kept_at horizon chain) ≡ kept_at horizon (grown epoch committed row chain)
grown_kept horizon epoch committed row chain later = by (list_any (λ c. changes_row row c.set) committed)
  where
    made : Option RowImage → Version
    made image = record { epoch = epoch; image = image_after (changes_of committed) row image }

    newer : nat_lt horizon epoch ≡ true
    newer = grind (arith, nat_tests, later)

    by : (b : Bool) → cond b (made (newest_image (kept_at horizon chain)) ∷ kept_at horizon chain) (kept_at horizon chain)
        ≡ kept_at horizon (cond b (made (newest_image chain) ∷ chain) chain)
    by true =
        ap (λ image. made image ∷ kept_at horizon chain) (newest_kept horizon chain)
        ∙ sym (ap (λ b. cond b (made (newest_image chain) ∷ kept_at horizon chain) (standing (made (newest_image chain)))) newer)
    by false = refl
