-- A region of the program that takes a candidate stands for the region that took it.
use Rattle.std.proofs.Common.{◌≡◌, ℕ, ℤ, ◌<◌, ◌≤◌, max, Option, Some, List, [], ◌∷◌, ◌++◌, map, length, All, set, slice_get, unwrap_or, vec_len, refl, sym, ap, ◌∙◌, subst, subst₂, arith, ⊎_elim, length-set, ne_eqb}
use Rattle.std.proofs.lemmas.Bool.{cases_eq, and_left, and_right}
use Rattle.geo_base.specs.declared.limits.TheConstants.{SESSIONS_PER_REGION}
use Rattle.geo_base.specs.declared.numbers.CandId.{CandId}
use Rattle.write_set.specs.declared.candidate.Candidate.{Candidate}
use Rattle.write_set.specs.Journal.{epochs_of}
use Rattle.write_set.specs.Plain.{Merged, IsMergeOf}
use Rattle.geo_world.specs.declared.world.World.{World as Kept}
use Rattle.geo_world.specs.declared.region.Region.{Region}
use Rattle.geo_world.specs.declared.inbox.Inbox.{Inbox}
use Rattle.geo_world.specs.declared.session.Session.{Session as KeptSession}
use Rattle.geo_world.specs.declared.session.Session.TheVariants as kept
use Rattle.geo_world.specs.World.{World, RegionState, Idle, Pending, region_of, session_of}
use Rattle.geo_world.specs.Step.{submitted, put_candidate, next_ticket}
use Rattle.geo_world.specs.inner.Sessions.{session_at}
use Rattle.geo_world.specs.inner.Regions.{Takes}
use Rattle.geo_world.specs.inner.Standing.{StandsFor, RegionStandsFor, HoldsArrived, IsCleared, session_state, packet_state, IsAsSealed}
use Rattle.geo_world.proofs.SoundRegions.{state-set_same, state-set_other}
use Rattle.geo_world.proofs.SoundSubmit.{session_of-newest, session_of-older, submitted-sound}
use Rattle.geo_world.proofs.SoundSteps.{put-open}
use Rattle.geo_world.proofs.Moves.{taken_world}
use Rattle.geo_world.proofs.Standings.{slice_get-set_same, slice_get-set_other, IsHeld, ChangesOne, changed-stands}

-- the sessions, of which one waits
waiting_sessions : (w : World) (number session : ℕ) (c : Candidate) (ticket : CandId) (sessions : List KeptSession) → session < length sessions →
    ((q : ℕ) → q < SESSIONS_PER_REGION → session_state (session_at sessions q) ≡ session_of w number q) →
    (q : ℕ) → q < SESSIONS_PER_REGION →
    session_state (session_at (set sessions session (kept.Pending ticket)) q) ≡ session_of (submitted number session c ticket w) number q
waiting_sessions w number session c ticket sessions within were q few =
    ⊎_elim
    (λ (e : q ≡ session). subst (λ (i : ℕ). session_state (session_at now i) ≡ session_of v number i) (sym e)
    (ap (λ (o : Option KeptSession). session_state (unwrap_or o kept.Idle)) (slice_get-set_same sessions session (kept.Pending ticket) within)
    ∙ sym (session_of-newest number session (Pending ticket) w.sessions)))
    (λ (other : q ≡ session → ⊥).
    ap (λ (o : Option KeptSession). session_state (unwrap_or o kept.Idle)) (slice_get-set_other sessions session q (kept.Pending ticket) other)
    ∙ (were q few ∙ sym (session_of-older number session number q (Pending ticket) w.sessions (and_right _ _ (ne_eqb q session other)))))
    (cases_eq q session)
  where
    now : List KeptSession
    now = set sessions session (kept.Pending ticket)

    v : World
    v = submitted number session c ticket w

sessions_within : (session n m : ℕ) → session < SESSIONS_PER_REGION → n ≡ SESSIONS_PER_REGION → n ≡ m → session < m
sessions_within session n m a b c = omega arith

pub taken-stands : (w : World) (number session : ℕ) (c : Candidate) (ticket : CandId) (old new : Region) → number < length w.regions →
    session < SESSIONS_PER_REGION → Takes number session c ticket old new → RegionStandsFor w number old →
    RegionStandsFor (submitted number session c ticket w) number new
taken-stands w number session c ticket old new h few t r = record {
  log = t.log ∙ r.log;
  opens = t.opens ∙ r.opens;
  room = subst (λ (n : ℕ). n ≤ max 1 w.last) (sym t.opens) r.room;
  waiting = t.waiting ∙ (ap (λ (cs : List Candidate). cs ++ c ∷ []) r.waiting ∙ ap (λ (s : RegionState). s.waiting) (sym same));
  published = ap (λ (m : Merged). m.epoch) t.plain ∙ (r.published ∙ ap (λ (s : RegionState). s.published) (sym same));
  merges = ap (λ (m : Merged). m.regions) t.plain ∙ (r.merges ∙ sym (length-set w.regions number state));
  merged = subst₂ (λ (s : RegionState) (m : Merged). IsMergeOf (epochs_of w.journal s.published) m) (sym same) (sym t.plain) r.merged;
  holds = subst₂ (λ (s : RegionState) (i : Inbox). HoldsArrived w.journal s i) (sym same) (sym t.inbox) r.holds;
  cleared = subst₂ (λ (s : RegionState) (i : Inbox). IsCleared s i) (sym same) (sym t.inbox) r.cleared;
  numbers = new.sessions.ok.0 ∙ (ap (λ (ss : List KeptSession). length ss) t.sessions
      ∙ (length-set old.sessions.items session (kept.Pending ticket) ∙ (sym old.sessions.ok.0 ∙ r.numbers)));
  sessions = λ q l. ap (λ (ss : List KeptSession). session_state (session_at ss q)) t.sessions
      ∙ waiting_sessions w number session c ticket old.sessions.items
      (sessions_within session (vec_len old.sessions) (length old.sessions.items) few r.numbers old.sessions.ok.0) r.sessions q l;
}
  where
    state : RegionState
    state = record (region_of w number) { waiting = (region_of w number).waiting ++ c ∷ [] }

    v : World
    v = submitted number session c ticket w

    same : region_of v number ≡ state
    same = state-set_same w.regions number state h

-- the other regions are held
taken-held : (w : World) (number session : ℕ) (c : Candidate) (ticket : CandId) (q : ℕ) → (q ≡ number → ⊥) →
    IsHeld w (submitted number session c ticket w) q
taken-held w number session c ticket q other = record {
  kept = record {
    count = length-set w.regions number state;
    sealed = omega arith;
    grows = λ of. omega arith;
    log = refl;
    state = same;
    sessions = λ k. session_of-older number session q k (Pending ticket) w.sessions (and_left _ _ (ne_eqb q number other));
  };
  last = refl;
  epochs = ap (λ (s : RegionState). epochs_of w.journal s.published) same;
  batches = λ of epoch t. refl;
}
  where
    state : RegionState
    state = record (region_of w number) { waiting = (region_of w number).waiting ++ c ∷ [] }

    v : World
    v = submitted number session c ticket w

    same : region_of v q ≡ region_of w q
    same = state-set_other w.regions number q state other

-- the ticket that the program gives is the next
taken_ticket : (w : World) (number : ℕ) (old : Region) (ticket : CandId) → RegionStandsFor w number old →
    ticket ≡ record { epoch = old.open; region = number; csn = length old.waiting.items } → ticket ≡ next_ticket w number
taken_ticket w number old ticket r named = named ∙ (λ i. record { epoch = r.opens i; region = number; csn = csn i })
  where
    csn : length old.waiting.items ≡ length (region_of w number).waiting
    csn = ap (λ (cs : List Candidate). length cs) r.waiting

-- the whole world stands after a region took the insert of an idle session
pub taken-world : (w : World) (k n : Kept) (number session : ℕ) (key value : ℤ) (ticket : CandId) (old new : Region) → StandsFor w k →
    number < length w.regions → session < SESSIONS_PER_REGION → session_of w number session ≡ Idle →
    slice_get k.regions.items number ≡ Some old →
    Takes number session (put_candidate (region_of w number).published key value) ticket old new →
    ChangesOne number new k n → n.packets.items ≡ k.packets.items →
    (ticket ≡ next_ticket w number) × StandsFor (taken_world w number session key value) n
taken-world w k n number session key value ticket old new s h few idle at t changes packets = (
  named,
  subst (λ (id : CandId). StandsFor (submitted number session c id w) n) named
      (changed-stands w (submitted number session c ticket w) k n number new s changes
      (taken-stands w number session c ticket old new h few t r)
      (λ q other within. taken-held w number session c ticket q other)
      (submitted-sound w number session c ticket h few idle (put-open w number key value s.sound h) s.sound)
      refl
      (length-set w.regions number state)
      (ap (map packet_state) packets ∙ s.packets)
      (subst (All (IsAsSealed w.journal)) (sym packets) s.carried)),
)
  where
    c : Candidate
    c = put_candidate (region_of w number).published key value

    r : RegionStandsFor w number old
    r = s.regions number old at

    state : RegionState
    state = record (region_of w number) { waiting = (region_of w number).waiting ++ c ∷ [] }

    named : ticket ≡ next_ticket w number
    named = taken_ticket w number old ticket r t.named
