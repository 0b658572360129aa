-- A region that takes one more open candidate of an idle session stays sound.
use Rattle.std.proofs.Common.{◌≡◌, ℕ, ◌+◌, ◌<◌, ◌≤◌, true, false, List, [], ◌∷◌, ◌++◌, length, All, Option, Some, sum_by, refl, sym, ap, ◌∙◌, subst, ⊎_elim, arith, length-set, unwrap_or, le_refl, eq-eqb, ne_eqb}
use Rattle.std.specs.Map.{lookup}
use Rattle.std.proofs.lemmas.Bool.{cases_eq, and_from, and_left, and_right, cond-true, cond-false}
use Rattle.std.proofs.lemmas.List.{length_push}
use Rattle.std.proofs.lemmas.List.Elements.{All-push, All-weaker}
use Rattle.geo_base.specs.declared.limits.TheConstants.{MAX_REGIONS, MAX_AHEAD, SESSIONS_PER_REGION}
use Rattle.geo_base.specs.declared.numbers.CandId.{CandId}
use Rattle.write_set.specs.declared.candidate.Candidate.{Candidate}
use Rattle.write_set.specs.Journal.{log_of, last_sealed}
use Rattle.geo_world.specs.World.{World, RegionState, Session, Idle, Pending, region_of, sealed_by, open_epoch, session_of, is_session, has_arrived}
use Rattle.geo_world.specs.Step.{submitted}
use Rattle.geo_world.specs.inner.Sound.{IsSound, IsSoundRegion, IsSoundPacket, IsOpen, is_pending, pending_count, candidate_count}
use Rattle.geo_world.proofs.Counting.{count-rises}
use Rattle.geo_world.proofs.SoundRegions.{state-set_same, state-set_other, IsSealed-later, IsSoundPacket-later, IsKept, IsSoundRegion-kept}

-- the session of the newest entry, and another one
pub session_of-newest : (region session : ℕ) (state : Session) (entries : List ((ℕ × ℕ) × Session)) →
    unwrap_or (lookup (is_session region session) (((region, session), state) ∷ entries)) Idle ≡ state
session_of-newest region session state entries =
    ap (λ (o : Option Session). unwrap_or o Idle)
    (cond-true (is_session region session (region, session)) (Some state) (lookup (is_session region session) entries)
    (and_from _ _ (eq-eqb region region refl) (eq-eqb session session refl)))

pub session_of-older : (region session q k : ℕ) (state : Session) (entries : List ((ℕ × ℕ) × Session)) → is_session q k (region, session) ≡ false →
    unwrap_or (lookup (is_session q k) (((region, session), state) ∷ entries)) Idle ≡ unwrap_or (lookup (is_session q k) entries) Idle
session_of-older region session q k state entries differs =
    ap (λ (o : Option Session). unwrap_or o Idle)
    (cond-false (is_session q k (region, session)) (Some state) (lookup (is_session q k) entries) differs)

-- one session more waits
pending_count-rises : (w v : World) (region session : ℕ) (ticket : CandId) → v.sessions ≡ ((region, session), Pending ticket) ∷ w.sessions →
    session < SESSIONS_PER_REGION → session_of w region session ≡ Idle → pending_count v region ≡ pending_count w region + 1
unfolding pending_count
pending_count-rises w v region session ticket added h idle =
    count-rises (λ s. is_pending (session_of w region s)) (λ s. is_pending (session_of v region s)) SESSIONS_PER_REGION session h
    (ap is_pending idle)
    (ap is_pending
    (ap (λ (entries : List ((ℕ × ℕ) × Session)). unwrap_or (lookup (is_session region session) entries) Idle) added
    ∙ session_of-newest region session (Pending ticket) w.sessions))
    (λ k other. ap is_pending (sym
    (ap (λ (entries : List ((ℕ × ℕ) × Session)). unwrap_or (lookup (is_session region k) entries) Idle) added
    ∙ session_of-older region session region k (Pending ticket) w.sessions (and_right _ _ (ne_eqb k session other)))))

raised : (a b c d : ℕ) → a ≡ c + 1 → b ≡ d + 1 → c ≤ d → a ≤ b
raised a b c d p q h = omega arith

abbrev candidates_sealed : World → ℕ → ℕ
candidates_sealed w region = sum_by (λ b. length b.items) (log_of w.journal region)

one_more : (n : ℕ) (waiting : List Candidate) (c : Candidate) → n + length (waiting ++ c ∷ []) ≡ n + length waiting + 1
one_more n waiting c = omega (arith, length_push waiting c)

-- the region that takes the candidate
taking-sound : (w : World) (region session : ℕ) (c : Candidate) (ticket : CandId) → region < length w.regions → session < SESSIONS_PER_REGION →
    session_of w region session ≡ Idle → IsOpen (open_epoch w region) c → IsSoundRegion w region →
    IsSoundRegion (submitted region session c ticket w) region
taking-sound w region session c ticket h few idle open_now s = record {
  published = subst (λ (st : RegionState). st.published ≤ last_sealed w.journal) (sym same) s.published;
  ahead = subst (λ (st : RegionState). sealed_by w region ≤ st.published + MAX_AHEAD) (sym same) s.ahead;
  arrived = λ of epoch a. IsSealed-later w v region of epoch (length-set w.regions region state) (le_refl (sealed_by w of))
      (s.arrived of epoch (subst (λ (st : RegionState). has_arrived st of epoch ≡ true) same a));
  waiting = subst (λ (st : RegionState). All (IsOpen (open_epoch w region)) st.waiting) (sym same)
      (All-push (IsOpen (open_epoch w region)) (region_of w region).waiting c s.waiting open_now);
  counted = raised (candidate_count v region) (pending_count v region) (candidate_count w region) (pending_count w region)
      taken (pending_count-rises w v region session ticket refl few idle) s.counted;
}
  where
    state : RegionState
    state = record (region_of w region) { waiting = (region_of w region).waiting ++ c ∷ [] }

    v : World
    v = submitted region session c ticket w

    same : region_of v region ≡ state
    same = state-set_same w.regions region state h

    taken : candidate_count v region ≡ candidate_count w region + 1
    taken = subst (λ (st : RegionState). candidates_sealed w region + length st.waiting ≡ candidate_count w region + 1) (sym same)
        (one_more (candidates_sealed w region) (region_of w region).waiting c)

-- the world after
pub submitted-sound : (w : World) (region session : ℕ) (c : Candidate) (ticket : CandId) → region < length w.regions → session < SESSIONS_PER_REGION →
    session_of w region session ≡ Idle → IsOpen (open_epoch w region) c → IsSound w → IsSound (submitted region session c ticket w)
submitted-sound w region session c ticket h few idle open_now s = record {
  some = subst (λ (n : ℕ). 1 ≤ n) (sym count) s.some;
  few = subst (λ (n : ℕ). n ≤ MAX_REGIONS) (sym count) s.few;
  same = s.same ∙ sym count;
  lawful = s.lawful;
  regions = λ q l. ⊎_elim
      (λ (e : q ≡ region). subst (λ (r : ℕ). IsSoundRegion v r) (sym e) (taking-sound w region session c ticket h few idle open_now (s.regions region h)))
      (λ (other : q ≡ region → ⊥). IsSoundRegion-kept w v q (kept q other) (s.regions q (subst (λ (n : ℕ). q < n) count l)))
      (cases_eq q region);
  packets = All-weaker (IsSoundPacket w) (IsSoundPacket v) (IsSoundPacket-later w v count (λ of. le_refl (sealed_by w of))) w.packets s.packets;
}
  where
    v : World
    v = submitted region session c ticket w

    count : length v.regions ≡ length w.regions
    count = length-set w.regions region (record (region_of w region) { waiting = (region_of w region).waiting ++ c ∷ [] })

    kept : (q : ℕ) → (q ≡ region → ⊥) → IsKept w v q
    kept q other = record {
      count = count;
      sealed = le_refl (last_sealed w.journal);
      grows = λ of. le_refl (sealed_by w of);
      log = refl;
      state = state-set_other w.regions region q (record (region_of w region) { waiting = (region_of w region).waiting ++ c ∷ [] }) other;
      sessions = λ k. session_of-older region session q k (Pending ticket) w.sessions (and_left _ _ (ne_eqb q region other));
    }
