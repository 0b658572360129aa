-- What a region's soundness looks at, and what of it a change of another region keeps.
use Rattle.std.proofs.Common.{◌≡◌, ℕ, ◌+◌, ◌<◌, ◌≤◌, true, List, length, set, get_or, All, sum_by, count_by, sym, ap, subst, subst₂, get_or-set_same, get_or-set_other, le_trans}
use Rattle.std.proofs.Math.Path.{fun_ext}
use Rattle.geo_base.specs.declared.limits.TheConstants.{MAX_AHEAD, SESSIONS_PER_REGION}
use Rattle.write_set.specs.declared.batch.Batch.{Batch}
use Rattle.write_set.specs.Journal.{log_of, last_sealed}
use Rattle.geo_world.specs.World.{World, RegionState, Session, Packet, BatchPacket, new_region, region_of, sealed_by, session_of, has_arrived}
use Rattle.geo_world.specs.Step.{numbers_below}
use Rattle.geo_world.specs.inner.Sound.{IsSealed, IsSoundRegion, IsSoundPacket, IsOpen, is_pending, pending_count, candidate_count}

-- the state of a region that was put in its place
pub state-set_same : (regions : List RegionState) (region : ℕ) (state : RegionState) → region < length regions →
    get_or (set regions region state) region new_region ≡ state
state-set_same regions region state h = get_or-set_same regions region state new_region h

pub state-set_other : (regions : List RegionState) (region q : ℕ) (state : RegionState) → (q ≡ region → ⊥) →
    get_or (set regions region state) q new_region ≡ get_or regions q new_region
state-set_other regions region q state other = get_or-set_other regions region q state new_region other

-- what was sealed stays sealed
pub IsSealed-later : (w v : World) (region of epoch : ℕ) → length v.regions ≡ length w.regions → sealed_by w of ≤ sealed_by v of →
    IsSealed w region of epoch → IsSealed v region of epoch
IsSealed-later w v region of epoch count grows s = record {
  known = subst (λ (n : ℕ). of < n) (sym count) s.known;
  other = s.other;
  some = s.some;
  sealed = le_trans s.sealed grows;
}

-- and a packet that carries it stays sound
pub IsSoundPacket-later : (w v : World) → length v.regions ≡ length w.regions → ((of : ℕ) → sealed_by w of ≤ sealed_by v of) →
    (p : Packet) → IsSoundPacket w p → IsSoundPacket v p
IsSoundPacket-later w v count grows (BatchPacket to region epoch) s =
    (subst (λ (n : ℕ). to < n) (sym count) s.0, IsSealed-later w v to region epoch count (grows region) s.1)

-- the later world has what is sound of the region as it was
pub record IsKept (w v : World) (region : ℕ) : Type 0 where
  pub count : length v.regions ≡ length w.regions
  pub sealed : last_sealed w.journal ≤ last_sealed v.journal
  pub grows : (of : ℕ) → sealed_by w of ≤ sealed_by v of
  pub log : log_of v.journal region ≡ log_of w.journal region
  pub state : region_of v region ≡ region_of w region
  pub sessions : (session : ℕ) → session_of v region session ≡ session_of w region session

pub pending_count-same : (w v : World) (region : ℕ) → ((session : ℕ) → session_of v region session ≡ session_of w region session) →
    pending_count v region ≡ pending_count w region
unfolding pending_count
pending_count-same w v region same =
    ap (λ (f : ℕ → Session). count_by (λ s. is_pending (f s)) (numbers_below SESSIONS_PER_REGION)) (fun_ext same)

pub IsSoundRegion-kept : (w v : World) (region : ℕ) → IsKept w v region → IsSoundRegion w region → IsSoundRegion v region
IsSoundRegion-kept w v region k s = record {
  published = subst (λ (st : RegionState). st.published ≤ last_sealed v.journal) (sym k.state) (le_trans s.published k.sealed);
  ahead = subst₂ (λ (log : List Batch) (st : RegionState). length log ≤ st.published + MAX_AHEAD) (sym k.log) (sym k.state) s.ahead;
  arrived = λ of epoch h. IsSealed-later w v region of epoch k.count (k.grows of)
      (s.arrived of epoch (subst (λ (st : RegionState). has_arrived st of epoch ≡ true) k.state h));
  waiting = subst₂ (λ (log : List Batch) (st : RegionState). All (IsOpen (length log + 1)) st.waiting) (sym k.log) (sym k.state) s.waiting;
  counted = subst₂ (λ (log : List Batch) (st : RegionState). sum_by (λ b. length b.items) log + length st.waiting ≤ pending_count v region)
      (sym k.log) (sym k.state)
      (subst (λ (n : ℕ). candidate_count w region ≤ n) (sym (pending_count-same w v region k.sessions)) s.counted);
}
