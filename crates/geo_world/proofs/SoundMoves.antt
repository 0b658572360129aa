-- A world stays sound when a packet arrives, and when a region publishes.
use Rattle.std.proofs.Common.{◌≡◌, ℕ, ◌+◌, ◌<◌, ◌≤◌, true, false, ◌&&◌, ◌==◌, ◌∷◌, length, All, sum_by, refl, sym, ◌∙◌, subst, subst₂, ⊎_elim, arith, length-set, le_refl, nat_lt, nat_le, ltb-false, leb-true, eqb-true}
use Rattle.std.proofs.lemmas.Bool.{cases_eq, or_cases, and_parts}
use Rattle.std.proofs.lemmas.List.Elements.{All-weaker}
use Rattle.geo_base.specs.declared.limits.TheConstants.{MAX_REGIONS, MAX_AHEAD}
use Rattle.write_set.specs.Journal.{log_of, last_sealed}
use Rattle.geo_world.specs.World.{World, RegionState, BatchPacket, region_of, sealed_by, open_epoch, has_arrived, holds}
use Rattle.geo_world.specs.Step.{with_region, have}
use Rattle.geo_world.specs.inner.Sound.{IsSound, IsSealed, IsSoundRegion, IsSoundPacket, IsOpen}
use Rattle.geo_world.proofs.Counting.{count-all}
use Rattle.geo_world.proofs.LastSealed.{le-last_sealed}
use Rattle.geo_world.proofs.SoundRegions.{state-set_same, state-set_other, IsSealed-later, IsSoundPacket-later, IsKept, IsSoundRegion-kept, pending_count-same}

-- another state of one region, which is sound there
pub with_region-sound : (w : World) (region : ℕ) (state : RegionState) → IsSound w →
    IsSoundRegion (with_region region state w) region → IsSound (with_region region state w)
with_region-sound w region state s here = record {
  some = subst (λ (n : ℕ). 1 ≤ n) (sym count) s.some;
  few = subst (λ (n : ℕ). n ≤ MAX_REGIONS) (sym count) s.few;
  same = s.same ∙ sym count;
  lawful = s.lawful;
  regions = λ q l. ⊎_elim
      (λ (e : q ≡ region). subst (λ (r : ℕ). IsSoundRegion v r) (sym e) here)
      (λ (other : q ≡ region → ⊥). IsSoundRegion-kept w v q (kept q other) (s.regions q (subst (λ (n : ℕ). q < n) count l)))
      (cases_eq q region);
  packets = All-weaker (IsSoundPacket w) (IsSoundPacket v) (IsSoundPacket-later w v count (λ of. le_refl (sealed_by w of))) w.packets s.packets;
}
  where
    v : World
    v = with_region region state w

    count : length v.regions ≡ length w.regions
    count = length-set w.regions region state

    kept : (q : ℕ) → (q ≡ region → ⊥) → IsKept w v q
    kept q other = record {
      count = count;
      sealed = le_refl (last_sealed w.journal);
      grows = λ of. le_refl (sealed_by w of);
      log = refl;
      state = state-set_other w.regions region q state other;
      sessions = λ k. refl;
    }

-- ---- arrivals

-- what has arrived is what had, and the new batch
arrived_cases : (state : RegionState) (region epoch of e : ℕ) → has_arrived (record state { arrived = (region, epoch) ∷ state.arrived }) of e ≡ true →
    (P : ℕ → ℕ → Type 0) → P region epoch → (has_arrived state of e ≡ true → P of e) → P of e
arrived_cases state region epoch of e h P new old =
    ⊎_elim
    (λ (t : ((of == region) && (e == epoch)) ≡ true).
    let both : ((of == region) ≡ true) × ((e == epoch) ≡ true) = and_parts (of == region) (e == epoch) t in
    subst₂ P (sym (eqb-true of region both.0)) (sym (eqb-true e epoch both.1)) new)
    old
    (or_cases ((of == region) && (e == epoch)) (has_arrived state of e) h)

pub arrived-sound : (w : World) (to region epoch : ℕ) → IsSoundPacket w (BatchPacket to region epoch) → IsSound w →
    IsSound (with_region to (record (region_of w to) { arrived = (region, epoch) ∷ (region_of w to).arrived }) w)
arrived-sound w to region epoch p s = with_region-sound w to state s (record {
  published = subst (λ (st : RegionState). st.published ≤ last_sealed w.journal) (sym same) r.published;
  ahead = subst (λ (st : RegionState). sealed_by w to ≤ st.published + MAX_AHEAD) (sym same) r.ahead;
  arrived = λ of e h. arrived_cases (region_of w to) region epoch of e (subst (λ (st : RegionState). has_arrived st of e ≡ true) same h)
      (IsSealed v to) (later region epoch p.1) (λ old. later of e (r.arrived of e old));
  waiting = subst (λ (st : RegionState). All (IsOpen (open_epoch w to)) st.waiting) (sym same) r.waiting;
  counted = subst₂ (λ (st : RegionState) (n : ℕ). sum_by (λ b. length b.items) (log_of w.journal to) + length st.waiting ≤ n) (sym same)
      (sym (pending_count-same w v to (λ k. refl))) r.counted;
})
  where
    state : RegionState
    state = record (region_of w to) { arrived = (region, epoch) ∷ (region_of w to).arrived }

    v : World
    v = with_region to state w

    r : IsSoundRegion w to
    r = s.regions to p.0

    same : region_of v to ≡ state
    same = state-set_same w.regions to state p.0

    later : (of e : ℕ) → IsSealed w to of e → IsSealed v to of e
    later of e h = IsSealed-later w v to of e (length-set w.regions to state) (le_refl (sealed_by w of)) h

-- ---- publishing

-- a batch that a region holds was sealed
pub holds-sealed : (w : World) (region of epoch : ℕ) → IsSoundRegion w region → holds w region of epoch ≡ true → epoch ≤ sealed_by w of
holds-sealed w region of epoch s h =
    ⊎_elim
    (λ (t : ((of == region) && (nat_le 1 epoch && nat_le epoch (sealed_by w region))) ≡ true).
    let own : ((of == region) ≡ true) × ((nat_le 1 epoch && nat_le epoch (sealed_by w region)) ≡ true) = and_parts (of == region) _ t in
    let span : (nat_le 1 epoch ≡ true) × (nat_le epoch (sealed_by w region) ≡ true) = and_parts (nat_le 1 epoch) _ own.1 in
    subst (λ (q : ℕ). epoch ≤ sealed_by w q) (sym (eqb-true of region own.0)) (leb-true epoch (sealed_by w region) span.1))
    (λ (t : has_arrived (region_of w region) of epoch ≡ true). (s.arrived of epoch t).sealed)
    (or_cases ((of == region) && (nat_le 1 epoch && nat_le epoch (sealed_by w region))) (has_arrived (region_of w region) of epoch) h)

-- an epoch whose batches a region has all was sealed by all
pub whole-sealed : (w : World) (region epoch : ℕ) → IsSound w → region < length w.regions →
    nat_lt (have w region epoch) (length w.regions) ≡ false → epoch ≤ last_sealed w.journal
whole-sealed w region epoch s h whole =
    le-last_sealed epoch w.journal s.lawful.some
    (λ q l. holds-sealed w region q epoch (s.regions region h)
    (count-all (λ of. holds w region of epoch) (length w.regions) (ltb-false (have w region epoch) (length w.regions) whole) q
    (subst (λ (n : ℕ). q < n) s.same l)))

one_published : (sealed published : ℕ) → sealed ≤ published + MAX_AHEAD → sealed ≤ published + 1 + MAX_AHEAD
one_published sealed published h = omega arith

pub published-sound : (w : World) (region : ℕ) → region < length w.regions →
    nat_lt (have w region ((region_of w region).published + 1)) (length w.regions) ≡ false → IsSound w →
    IsSound (with_region region (record (region_of w region) { published = (region_of w region).published + 1 }) w)
published-sound w region h whole s = with_region-sound w region state s (record {
  published = subst (λ (st : RegionState). st.published ≤ last_sealed w.journal) (sym same) (whole-sealed w region _ s h whole);
  ahead = subst (λ (st : RegionState). sealed_by w region ≤ st.published + MAX_AHEAD) (sym same)
      (one_published (sealed_by w region) (region_of w region).published r.ahead);
  arrived = λ of e a. IsSealed-later w v region of e (length-set w.regions region state) (le_refl (sealed_by w of))
      (r.arrived of e (subst (λ (st : RegionState). has_arrived st of e ≡ true) same a));
  waiting = subst (λ (st : RegionState). All (IsOpen (open_epoch w region)) st.waiting) (sym same) r.waiting;
  counted = subst₂ (λ (st : RegionState) (n : ℕ). sum_by (λ b. length b.items) (log_of w.journal region) + length st.waiting ≤ n) (sym same)
      (sym (pending_count-same w v region (λ k. refl))) r.counted;
})
  where
    state : RegionState
    state = record (region_of w region) { published = (region_of w region).published + 1 }

    v : World
    v = with_region region state w

    r : IsSoundRegion w region
    r = s.regions region h

    same : region_of v region ≡ state
    same = state-set_same w.regions region state h
