-- A world stays sound when a region seals its open epoch.
use Rattle.std.proofs.Common.{◌≡◌, ◌≢◌, ℕ, zero, suc, ◌+◌, ◌-◌, ◌<◌, ◌≤◌, true, false, not, eqb, List, [], ◌∷◌, ◌++◌, length, map, set, All, sum_by, refl, sym, ◌∙◌, subst, subst₂, ⊎_elim, arith, length-set, length-append, get_or-set_same, get_or-set_other, le_refl, le_trans, leb-false, nat_le}
use Rattle.std.proofs.lemmas.Bool.{cases_eq, not-true, eqb-false}
use Rattle.std.proofs.lemmas.List.{length_push}
use Rattle.std.proofs.lemmas.List.Elements.{All-nil, All-push, All-weaker, All-append, All-map, All-filter, filter_passes}
use Rattle.std.proofs.lemmas.List.Sums.{sum_by_push}
use Rattle.geo_base.specs.declared.limits.TheConstants.{MAX_REGIONS, MAX_AHEAD, MAX_CANDIDATES, SESSIONS_PER_REGION}
use Rattle.write_set.specs.declared.candidate.Candidate.{Candidate}
use Rattle.write_set.specs.declared.batch.Batch.{Batch}
use Rattle.write_set.specs.Journal.{Journal, IsBatch, IsCandidate, log_of, last_sealed}
use Rattle.write_set.specs.Journal.{IsFront}
use Rattle.write_set.specs.laws.Sealing.{with_batch_extends, with_batch_sealed, with_batch_lawful}
use Rattle.geo_world.specs.World.{World, RegionState, BatchPacket, region_of, sealed_by, open_epoch, session_of, has_arrived}
use Rattle.geo_world.specs.Step.{numbers_below, others, next_batch, sealed_world}
use Rattle.geo_world.specs.inner.Sound.{IsSound, IsSoundRegion, IsSoundPacket, IsOpen, is_pending, pending_count}
use Rattle.geo_world.proofs.Counting.{count-below}
use Rattle.geo_world.proofs.SoundRegions.{state-set_same, state-set_other, IsSealed-later, IsSoundPacket-later, IsKept, IsSoundRegion-kept, pending_count-same}

-- ---- journals

-- the journal with one more batch
abbrev pub pushed : Journal → ℕ → Batch → Journal
pushed journal region batch = set journal region (log_of journal region ++ batch ∷ [])

pub log-pushed_same : (journal : Journal) (region : ℕ) (batch : Batch) → region < length journal →
    log_of (pushed journal region batch) region ≡ log_of journal region ++ batch ∷ []
log-pushed_same journal region batch h = get_or-set_same journal region (log_of journal region ++ batch ∷ []) [] h

pub log-pushed_other : (journal : Journal) (region q : ℕ) (batch : Batch) → (q ≡ region → ⊥) →
    log_of (pushed journal region batch) q ≡ log_of journal q
log-pushed_other journal region q batch other = get_or-set_other journal region q (log_of journal region ++ batch ∷ []) [] other

pub log-pushed_grows : (journal : Journal) (region q : ℕ) (batch : Batch) → length (log_of journal q) ≤ length (log_of (pushed journal region batch) q)
log-pushed_grows journal region q batch = front-short (log_of journal q) _ ((with_batch_extends journal region batch).fronts q)
  where
    front-short : (a b : List Batch) → IsFront a b → length a ≤ length b
    front-short a b front = subst (λ (log : List Batch). length a ≤ length log) front.1 (omega (arith, length-append a front.0))

-- ---- the batch

part_of : (a b c n : ℕ) → a + b ≤ c → c ≤ n → b ≤ n
part_of a b c n h k = omega arith

-- a region has no more open candidates than sessions
pub waiting-few : (w : World) (region : ℕ) → IsSoundRegion w region → length (region_of w region).waiting ≤ SESSIONS_PER_REGION
unfolding pending_count
waiting-few w region s =
    part_of (sum_by (λ b. length b.items) (log_of w.journal region)) (length (region_of w region).waiting) (pending_count w region) SESSIONS_PER_REGION
    s.counted (count-below (λ k. is_pending (session_of w region k)) SESSIONS_PER_REGION)

candidate_of_open : (epoch : ℕ) (c : Candidate) → IsOpen epoch c → IsCandidate epoch c
candidate_of_open epoch c o = record { earlier = o.earlier; young = o.young; some = omega (arith, o.one); lawful = o.lawful }

few_enough : (n : ℕ) → n ≤ SESSIONS_PER_REGION → n ≤ MAX_CANDIDATES
few_enough n h = omega arith

-- the batch that is sealed is lawful
pub next_batch-lawful : (w : World) (region : ℕ) → IsSoundRegion w region → IsBatch region (open_epoch w region) (next_batch w region)
next_batch-lawful w region s = record {
  region = refl;
  epoch = refl;
  few = few_enough (length (region_of w region).waiting) (waiting-few w region s);
  lawful = All-weaker (IsOpen (open_epoch w region)) (IsCandidate (open_epoch w region)) (candidate_of_open (open_epoch w region)) (region_of w region).waiting s.waiting;
}

-- ---- packets

below_all : (n : ℕ) → All (λ q. q < n) (numbers_below n)
below_all zero = All-nil (λ q. q < zero)
below_all (suc n) = All-push (λ q. q < suc n) (numbers_below n) n (All-weaker (λ q. q < n) (λ q. q < suc n) (λ q h. omega arith) (numbers_below n) (below_all n)) (le_refl (suc n))

-- a packet goes to other regions
pub others-are : (n region : ℕ) → All (λ to. (to < n) × (region ≢ to)) (others n region)
others-are n region = λ k d h. (
  All-filter (λ q. not (eqb q region)) (λ q. q < n) (numbers_below n) (below_all n) k d h,
  λ e. eqb-false _ _ (not-true _ (filter_passes (λ q. not (eqb q region)) (numbers_below n) k d h)) (sym e),
)

-- ---- the region that seals

one_ahead : (sealed published : ℕ) → nat_le MAX_AHEAD (sealed - published) ≡ false → sealed + 1 ≤ published + MAX_AHEAD
one_ahead sealed published near = omega (arith, leb-false MAX_AHEAD (sealed - published) near)

sealed_state : World → ℕ → RegionState
sealed_state w region = record (region_of w region) { waiting = [] }

emptied : (log : List Batch) (b : Batch) → sum_by (λ x. length x.items) (log ++ b ∷ []) + zero ≡ sum_by (λ x. length x.items) log + length b.items
emptied log b = omega (arith, sum_by_push (λ (x : Batch). length x.items) log b)

sealing-sound : (w : World) (region : ℕ) → IsSound w → region < length w.regions →
    nat_le MAX_AHEAD (sealed_by w region - (region_of w region).published) ≡ false →
    ((of : ℕ) → sealed_by w of ≤ sealed_by (sealed_world w region) of) → last_sealed w.journal ≤ last_sealed (sealed_world w region).journal →
    IsSoundRegion (sealed_world w region) region
unfolding sealed_state
sealing-sound w region sound h near grows rises = record {
  published = subst (λ (st : RegionState). st.published ≤ last_sealed v.journal) (sym state) (le_trans s.published rises);
  ahead = subst₂ (λ (log : List Batch) (st : RegionState). length log ≤ st.published + MAX_AHEAD) (sym log) (sym state)
      (subst (λ (n : ℕ). n ≤ (region_of w region).published + MAX_AHEAD) (sym (length_push (log_of w.journal region) (next_batch w region)))
      (one_ahead (sealed_by w region) (region_of w region).published near));
  arrived = λ of epoch a. IsSealed-later w v region of epoch (length-set w.regions region (sealed_state w region)) (grows of)
      (s.arrived of epoch (subst (λ (st : RegionState). has_arrived st of epoch ≡ true) state a));
  waiting = subst (λ (st : RegionState). All (IsOpen (open_epoch v region)) st.waiting) (sym state) (All-nil (IsOpen (open_epoch v region)));
  counted = subst₂ (λ (log : List Batch) (st : RegionState). sum_by (λ b. length b.items) log + length st.waiting ≤ pending_count v region) (sym log) (sym state)
      (subst₂ (λ (n m : ℕ). n ≤ m) (sym (emptied (log_of w.journal region) (next_batch w region))) (sym (pending_count-same w v region (λ k. refl))) s.counted);
}
  where
    v : World
    v = sealed_world w region

    s : IsSoundRegion w region
    s = sound.regions region h

    log : log_of v.journal region ≡ log_of w.journal region ++ next_batch w region ∷ []
    log = log-pushed_same w.journal region (next_batch w region) (subst (λ (n : ℕ). region < n) (sym sound.same) h)

    state : region_of v region ≡ sealed_state w region
    state = state-set_same w.regions region (sealed_state w region) h

-- ---- the world

sent-sound : (w : World) (region : ℕ) → region < length w.regions →
    length (sealed_world w region).regions ≡ length w.regions → open_epoch w region ≤ sealed_by (sealed_world w region) region →
    All (IsSoundPacket (sealed_world w region)) (map (λ to. BatchPacket to region (open_epoch w region)) (others (length w.regions) region))
sent-sound w region h count done =
    All-map (IsSoundPacket v) (λ (to : ℕ). BatchPacket to region (open_epoch w region)) (others (length w.regions) region)
    (All-weaker (λ to. (to < length w.regions) × (region ≢ to)) (λ to. IsSoundPacket v (BatchPacket to region (open_epoch w region)))
    (λ to p. (
      subst (λ (n : ℕ). to < n) (sym count) p.0,
      record {
        known = subst (λ (n : ℕ). region < n) (sym count) h;
        other = p.1;
        some = omega arith;
        sealed = done;
      },
    ))
    (others (length w.regions) region) (others-are (length w.regions) region))
  where
    v : World
    v = sealed_world w region

pub sealed_world-sound : (w : World) (region : ℕ) → region < length w.regions →
    nat_le MAX_AHEAD (sealed_by w region - (region_of w region).published) ≡ false → IsSound w → IsSound (sealed_world w region)
unfolding sealed_state
sealed_world-sound w region h near s = record {
  some = subst (λ (n : ℕ). 1 ≤ n) (sym count) s.some;
  few = subst (λ (n : ℕ). n ≤ MAX_REGIONS) (sym count) s.few;
  same = length-set w.journal region (log_of w.journal region ++ next_batch w region ∷ []) ∙ (s.same ∙ sym count);
  lawful = with_batch_lawful w.journal region (next_batch w region) s.lawful (next_batch-lawful w region (s.regions region h));
  regions = λ q l. ⊎_elim
      (λ (e : q ≡ region). subst (λ (r : ℕ). IsSoundRegion v r) (sym e) (sealing-sound w region s h near grows rises))
      (λ (other : q ≡ region → ⊥). IsSoundRegion-kept w v q (kept q other) (s.regions q (subst (λ (n : ℕ). q < n) count l)))
      (cases_eq q region);
  packets = All-append (IsSoundPacket v) w.packets _
      (All-weaker (IsSoundPacket w) (IsSoundPacket v) (IsSoundPacket-later w v count grows) w.packets s.packets)
      (sent-sound w region h count done);
}
  where
    v : World
    v = sealed_world w region

    in_journal : region < length w.journal
    in_journal = subst (λ (n : ℕ). region < n) (sym s.same) h

    count : length v.regions ≡ length w.regions
    count = length-set w.regions region (sealed_state w region)

    grows : (of : ℕ) → sealed_by w of ≤ sealed_by v of
    grows of = log-pushed_grows w.journal region of (next_batch w region)

    rises : last_sealed w.journal ≤ last_sealed v.journal
    rises = with_batch_sealed w.journal region (next_batch w region)

    done : open_epoch w region ≤ sealed_by v region
    done = subst (λ (log : List Batch). open_epoch w region ≤ length log) (sym (log-pushed_same w.journal region (next_batch w region) in_journal))
        (omega (arith, length_push (log_of w.journal region) (next_batch w region)))

    kept : (q : ℕ) → (q ≡ region → ⊥) → IsKept w v q
    kept q other = record {
      count = count;
      sealed = rises;
      grows = grows;
      log = log-pushed_other w.journal region q (next_batch w region) other;
      state = state-set_other w.regions region q (sealed_state w region) other;
      sessions = λ k. refl;
    }
