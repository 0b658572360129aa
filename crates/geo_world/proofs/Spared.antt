-- Refusals that a sound world never comes to: too old, a full batch, and a packet that is far ahead.
use Rattle.std.proofs.Common.{◌≡◌, ℕ, ℤ, ◌+◌, ◌-◌, ◌*◌, ◌<◌, ◌≤◌, false, ◌||◌, if◌then◌else◌, List, [], ◌∷◌, ◌++◌, length, All, Some, sum_by, sym, ap, ◌∙◌, subst, ⊎_elim, arith, nat_lt, nat_le, slice_get, le-ltb}
use Rattle.std.proofs.lemmas.Bool.{cases_lt, or_from, lt-leb, both_ways, cond-false}
use Rattle.std.proofs.lemmas.List.{length_push}
use Rattle.std.proofs.lemmas.List.Elements.{All-push, All-weaker}
use Rattle.std.proofs.lemmas.List.Sums.{sum_by-le}
use Rattle.geo_base.specs.declared.limits.TheConstants.{MAX_AGE, MAX_AHEAD, MAX_CANDIDATES, MAX_BATCH_BYTES, SESSIONS_PER_REGION}
use Rattle.write_set.specs.declared.candidate.Candidate.{Candidate}
use Rattle.write_set.specs.BatchSizes.{candidate_size, batch_size}
use Rattle.write_set.specs.Journal.{log_of, last_sealed}
use Rattle.geo_world.specs.World.{World, Idle, BatchPacket, region_of, sealed_by, open_epoch, session_of, holds}
use Rattle.geo_world.specs.Step.{Stepped, says, put_candidate, next_ticket, is_full, submit, arrive}
use Rattle.geo_world.specs.Lines.{changed_one, packet_known, packet_new, too_old, batch_full, packet_far}
use Rattle.geo_world.specs.inner.Sound.{IsSound, IsSoundPacket, IsOpen, PUT_SIZE, is_pending, pending_count}
use Rattle.geo_world.proofs.Counting.{count-all}
use Rattle.geo_world.proofs.LastSealed.{last_sealed-le-log}
use Rattle.geo_world.proofs.SoundSteps.{put-open, sent_packet-sound}
use Rattle.geo_world.proofs.Moves.{taken_world, arrived_world}

-- ---- too old

near_open : (sealed published : ℕ) → sealed ≤ published + MAX_AHEAD → sealed + 1 - published ≤ MAX_AGE
near_open sealed published h = omega arith

pub not_too_old : (w : World) (region : ℕ) → IsSound w → region < length w.regions →
    nat_lt MAX_AGE (open_epoch w region - (region_of w region).published) ≡ false
not_too_old w region s h =
    le-ltb MAX_AGE (open_epoch w region - (region_of w region).published)
    (near_open (sealed_by w region) (region_of w region).published (s.regions region h).ahead)

-- ---- a full batch

short_of : (a b c n : ℕ) → a + b ≤ c → c < n → b < n
short_of a b c n h k = omega arith

-- where a session is idle, not all sessions wait
pending-short : (w : World) (region session : ℕ) → session < SESSIONS_PER_REGION → session_of w region session ≡ Idle →
    pending_count w region < SESSIONS_PER_REGION
unfolding pending_count
pending-short w region session h idle =
    ⊎_elim (λ (l : pending_count w region < SESSIONS_PER_REGION). l)
    (λ (all : SESSIONS_PER_REGION ≤ pending_count w region). absurd (both_ways _ (ap is_pending idle)
    (count-all (λ s. is_pending (session_of w region s)) SESSIONS_PER_REGION all session h)))
    (cases_lt (pending_count w region) SESSIONS_PER_REGION)

-- fewer candidates wait than there are sessions
pub waiting-short : (w : World) (region session : ℕ) → IsSound w → region < length w.regions → session < SESSIONS_PER_REGION →
    session_of w region session ≡ Idle → length (region_of w region).waiting < SESSIONS_PER_REGION
waiting-short w region session s h few idle =
    short_of (sum_by (λ b. length b.items) (log_of w.journal region)) (length (region_of w region).waiting) (pending_count w region) SESSIONS_PER_REGION
    (s.regions region h).counted (pending-short w region session few idle)

fits_bytes : (n total : ℕ) → n < SESSIONS_PER_REGION → total ≤ (n + 1) * PUT_SIZE → 13 + total ≤ MAX_BATCH_BYTES
fits_bytes n total h k = omega arith

-- the open batch and one more put are no more bytes than a batch may have
pub batch-fits : (epoch : ℕ) (waiting : List Candidate) (c : Candidate) → All (IsOpen epoch) waiting → IsOpen epoch c →
    length waiting < SESSIONS_PER_REGION → batch_size (waiting ++ c ∷ []) ≤ MAX_BATCH_BYTES
batch-fits epoch waiting c all one few =
    fits_bytes (length waiting) (sum_by candidate_size (waiting ++ c ∷ [])) few
    (subst (λ (n : ℕ). sum_by candidate_size (waiting ++ c ∷ []) ≤ n * PUT_SIZE) (length_push waiting c)
    (sum_by-le candidate_size PUT_SIZE (waiting ++ c ∷ [])
    (All-weaker (IsOpen epoch) (λ x. candidate_size x ≤ PUT_SIZE) (λ x o. o.small) (waiting ++ c ∷ []) (All-push (IsOpen epoch) waiting c all one))))

few_candidates : (n : ℕ) → n < SESSIONS_PER_REGION → n < MAX_CANDIDATES
few_candidates n h = omega arith

pub not_full : (w : World) (region session : ℕ) (key value : ℤ) → IsSound w → region < length w.regions → session < SESSIONS_PER_REGION →
    session_of w region session ≡ Idle → is_full (region_of w region).waiting (put_candidate (region_of w region).published key value) ≡ false
not_full w region session key value s h few idle =
    or_from (nat_le MAX_CANDIDATES (length waiting)) (nat_lt MAX_BATCH_BYTES (batch_size (waiting ++ c ∷ [])))
    (lt-leb MAX_CANDIDATES (length waiting) (few_candidates (length waiting) short))
    (le-ltb MAX_BATCH_BYTES (batch_size (waiting ++ c ∷ []))
    (batch-fits (open_epoch w region) waiting c (s.regions region h).waiting (put-open w region key value s h) short))
  where
    waiting : List Candidate
    waiting = (region_of w region).waiting

    c : Candidate
    c = put_candidate (region_of w region).published key value

    short : length waiting < SESSIONS_PER_REGION
    short = waiting-short w region session s h few idle

-- so a submit takes the candidate
pub submit-takes : (w : World) (region session : ℕ) (key value : ℤ) → IsSound w → region < length w.regions → session < SESSIONS_PER_REGION →
    session_of w region session ≡ Idle →
    submit w region session (put_candidate (region_of w region).published key value)
    ≡ record { world = taken_world w region session key value; lines = changed_one region session (next_ticket w region) }
submit-takes w region session key value s h few idle =
    cond-false (nat_lt MAX_AGE (open_epoch w region - c.start)) (says w (too_old region session c.start (open_epoch w region)))
    (if is_full (region_of w region).waiting c then says w (batch_full region session) else taken)
    (not_too_old w region s h)
    ∙ cond-false (is_full (region_of w region).waiting c) (says w (batch_full region session)) taken (not_full w region session key value s h few idle)
  where
    c : Candidate
    c = put_candidate (region_of w region).published key value

    taken : Stepped
    taken = record { world = taken_world w region session key value; lines = changed_one region session (next_ticket w region) }

-- ---- packets far ahead

near_batch : (epoch of_sealed of_published last to_sealed to_published : ℕ) → epoch ≤ of_sealed → of_sealed ≤ of_published + MAX_AHEAD →
    of_published ≤ last → last ≤ to_sealed → to_sealed ≤ to_published + MAX_AHEAD → epoch ≤ to_published + MAX_AGE
near_batch epoch of_sealed of_published last to_sealed to_published a b c d e = omega arith

pub not_far : (w : World) (packet to region epoch : ℕ) → IsSound w → slice_get w.packets packet ≡ Some (BatchPacket to region epoch) →
    nat_lt ((region_of w to).published + MAX_AGE) epoch ≡ false
not_far w packet to region epoch s there =
    le-ltb ((region_of w to).published + MAX_AGE) epoch
    (near_batch epoch (sealed_by w region) (region_of w region).published (last_sealed w.journal) (sealed_by w to) (region_of w to).published
    p.1.sealed (s.regions region p.1.known).ahead (s.regions region p.1.known).published
    (last_sealed-le-log w.journal to (subst (λ (n : ℕ). to < n) (sym s.same) p.0))
    (s.regions to p.0).ahead)
  where
    p : IsSoundPacket w (BatchPacket to region epoch)
    p = sent_packet-sound w packet (BatchPacket to region epoch) s there

-- so a packet that was sent is known, or its batch arrives
pub arrive-takes : (w : World) (packet to region epoch : ℕ) → IsSound w → slice_get w.packets packet ≡ Some (BatchPacket to region epoch) →
    arrive w packet (BatchPacket to region epoch)
    ≡ (if nat_le epoch (region_of w to).published || holds w to region epoch
    then says w (packet_known packet)
    else record { world = arrived_world w to region epoch; lines = packet_new packet })
arrive-takes w packet to region epoch s there =
    ap (λ (t : Stepped). if nat_le epoch (region_of w to).published || holds w to region epoch then says w (packet_known packet) else t)
    (cond-false (nat_lt ((region_of w to).published + MAX_AGE) epoch) (says w (packet_far packet ((region_of w to).published + MAX_AGE)))
    (record { world = arrived_world w to region epoch; lines = packet_new packet })
    (not_far w packet to region epoch s there))
