-- What holds of each world that a play leads to.
use Rattle.std.proofs.Common.{◌≡◌, ℕ, ◌+◌, ◌<◌, ◌≤◌, false, List, [], ◌∷◌, length, All, refl, sym, ap, ◌∙◌, subst, arith, le_refl, le_trans, nat_le}
use Rattle.std.proofs.lemmas.Bool.{lt-leb}
use Rattle.std.proofs.lemmas.List.{length-replicate}
use Rattle.std.proofs.lemmas.List.Elements.{All-head, All-tail}
use Rattle.write_set.specs.declared.batch.Batch.{Batch}
use Rattle.write_set.specs.Journal.{Extends, last_sealed, epochs_of}
use Rattle.write_set.specs.Snapshot.{snap_rows}
use Rattle.write_set.specs.laws.Sealing.{epochs_stay}
use Rattle.world_script.specs.declared.event.Event.{Event}
use Rattle.world_script.specs.Script.{IsWithin}
use Rattle.geo_world.specs.World.{World, new_region, first_world, region_of, sealed_by, open_epoch, published_epochs}
use Rattle.geo_world.specs.Step.{step}
use Rattle.geo_world.specs.Play.{world_after}
use Rattle.geo_world.specs.Plays.{LeadTo}
use Rattle.geo_world.specs.inner.Sound.{IsSound}
use Rattle.geo_world.proofs.SoundSteps.{first_world-sound, step-sound, step-count, step-last, log_empty, published-le-sealed}
use Rattle.geo_world.proofs.Growing.{Extends-itself, Extends-joins, step-extends, step-seals_one, step-publishes_on}

-- a relation that each step keeps holds along all events
pub along : (R : World → World → Type 0) → ((w : World) → R w w) → ((u v w : World) → R u v → R v w → R u w) →
    ((w : World) (event : Event) → IsWithin (length w.regions) event → R w (step w event).world) →
    (events : List Event) (w : World) → All (IsWithin (length w.regions)) events → R w (world_after w events)
along R stays joins steps [] w within = stays w
along R stays joins steps (event ∷ events) w within =
    joins w (step w event).world (world_after (step w event).world events)
    (steps w event here)
    (along R stays joins steps events (step w event).world
    (subst (λ (n : ℕ). All (IsWithin n) events) (sym (step-count w event here)) (All-tail (IsWithin (length w.regions)) event events within)))
  where
    here : IsWithin (length w.regions) event
    here = All-head (IsWithin (length w.regions)) event events within

pub after-sound : (events : List Event) (w : World) → All (IsWithin (length w.regions)) events → IsSound w → IsSound (world_after w events)
after-sound = along (λ w v. IsSound w → IsSound v) (λ w s. s) (λ u v w p q s. q (p s)) (λ w event h s. step-sound w event s h)

pub after-count : (events : List Event) (w : World) → All (IsWithin (length w.regions)) events → length (world_after w events).regions ≡ length w.regions
after-count = along (λ w v. length v.regions ≡ length w.regions) (λ w. refl) (λ u v w p q. q ∙ p) step-count

pub after-last : (events : List Event) (w : World) → All (IsWithin (length w.regions)) events → (world_after w events).last ≡ w.last
after-last = along (λ w v. v.last ≡ w.last) (λ w. refl) (λ u v w p q. q ∙ p) step-last

pub after-extends : (events : List Event) (w : World) → All (IsWithin (length w.regions)) events → Extends w.journal (world_after w events).journal
after-extends = along (λ w v. Extends w.journal v.journal) (λ w. Extends-itself w.journal) (λ u v w p q. Extends-joins u.journal v.journal w.journal p q) step-extends

pub after-publishes_on : (events : List Event) (w : World) → All (IsWithin (length w.regions)) events → (region : ℕ) →
    (region_of w region).published ≤ (region_of (world_after w events) region).published
after-publishes_on =
    along (λ w v. (region : ℕ) → (region_of w region).published ≤ (region_of v region).published)
    (λ w region. le_refl (region_of w region).published) (λ u v w p q region. le_trans (p region) (q region)) step-publishes_on

-- each event seals one epoch of a region at most
pub after-seals : (events : List Event) (w : World) → All (IsWithin (length w.regions)) events → (region : ℕ) →
    sealed_by (world_after w events) region ≤ sealed_by w region + length events
after-seals [] w within region = omega arith
after-seals (event ∷ events) w within region =
    omega (arith, step-seals_one w event here region, after-seals events (step w event).world rest region)
  where
    here : IsWithin (length w.regions) event
    here = All-head (IsWithin (length w.regions)) event events within

    rest : All (IsWithin (length (step w event).world.regions)) events
    rest = subst (λ (n : ℕ). All (IsWithin n) events) (sym (step-count w event here)) (All-tail (IsWithin (length w.regions)) event events within)

-- ---- from the first world

from_none : (a n m : ℕ) → n ≡ 0 → a ≤ n + m → a ≤ m
from_none a n m e h = omega arith

module _ (regions last : ℕ) (events : List Event) (w : World) (play : LeadTo regions last events w) where
  pub first_within : All (IsWithin (length (first_world regions last).regions)) events
  first_within = subst (λ (n : ℕ). All (IsWithin n) events) (sym (length-replicate regions new_region)) play.within

  pub played-sound : IsSound w
  played-sound =
      subst IsSound (sym play.after)
      (after-sound events (first_world regions last) first_within (first_world-sound regions last play.some play.few))

  pub played-count : length w.regions ≡ regions
  played-count =
      ap (λ (v : World). length v.regions) play.after
      ∙ (after-count events (first_world regions last) first_within ∙ length-replicate regions new_region)

  pub played-within : (region : ℕ) → region < regions → region < length w.regions
  played-within region h = subst (λ (n : ℕ). region < n) (sym played-count) h

  pub played-last : w.last ≡ last
  played-last = ap (λ (v : World). v.last) play.after ∙ after-last events (first_world regions last) first_within

  pub played-few_seals : (region : ℕ) → sealed_by w region ≤ length events
  played-few_seals region =
      subst (λ (v : World). sealed_by v region ≤ length events) (sym play.after)
      (from_none _ _ _ (ap (λ (log : List Batch). length log) (log_empty regions region)) (after-seals events (first_world regions last) first_within region))

  pub played-not_last : (region : ℕ) → length events + 1 < last → nat_le w.last (open_epoch w region) ≡ false
  played-not_last region h = lt-leb w.last (open_epoch w region) (omega (arith, played-few_seals region, played-last))

  pub played-published : (region : ℕ) → region < regions →
      ((region_of w region).published ≤ last_sealed w.journal) × ((region_of w region).published ≤ sealed_by w region)
  played-published region h =
      ((played-sound.regions region there).published, published-le-sealed w region played-sound there)
    where
      there : region < length w.regions
      there = played-within region h

  -- ---- later worlds

  module _ (more : List Event) (within : All (IsWithin regions) more) where
    pub more_within : All (IsWithin (length w.regions)) more
    more_within = subst (λ (n : ℕ). All (IsWithin n) more) (sym played-count) within

    pub later-extends : Extends w.journal (world_after w more).journal
    later-extends = after-extends more w more_within

    pub later-publishes_on : (region : ℕ) → (region_of w region).published ≤ (region_of (world_after w more) region).published
    later-publishes_on = after-publishes_on more w more_within

    -- the epochs that a region has published are the same in a later journal
    pub later-epochs : (region : ℕ) → region < regions →
        epochs_of (world_after w more).journal (region_of w region).published ≡ published_epochs w region
    later-epochs region h =
        epochs_stay w.journal (world_after w more).journal (region_of w region).published later-extends (played-published region h).0

    pub later-rows : (region q : ℕ) → region < regions → (region_of w region).published ≡ (region_of (world_after w more) q).published →
        snap_rows (published_epochs w region) ≡ snap_rows (published_epochs (world_after w more) q)
    later-rows region q h same =
        ap snap_rows (sym (later-epochs region h) ∙ ap (λ (e : ℕ). epochs_of (world_after w more).journal e) same)
