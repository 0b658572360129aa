-- What holds of each change that an event makes holds of the event's step.
use Rattle.std.proofs.Common.{◌≡◌, ℕ, ℤ, zero, suc, ◌+◌, ◌-◌, ◌<◌, Bool, true, false, ◌||◌, not, if◌then◌else◌, List, ◌∷◌, ◌++◌, length, count_by, Option, None, Some, is_some, refl, nat_lt, nat_le, slice_get}
use Rattle.geo_base.specs.declared.outcome.Outcome.{Outcome}
use Rattle.write_set.specs.Journal.{epochs_of}
use Rattle.write_set.specs.Merge.{verdicts, is_committed}
use Rattle.geo_base.specs.declared.limits.TheConstants.{MAX_AGE, MAX_AHEAD, SESSIONS_PER_REGION}
use Rattle.write_set.specs.Snapshot.{snap_at}
use Rattle.write_set.specs.declared.candidate.Candidate.{Candidate}
use Rattle.world_script.specs.declared.event.Statement.{Statement}
use Rattle.world_script.specs.declared.event.Statement.TheVariants.{Insert, Select}
use Rattle.world_script.specs.declared.event.Event.{Event}
use Rattle.world_script.specs.declared.event.Event.TheVariants.{Sql, Seal, Deliver, Publish, Show}
use Rattle.world_script.specs.Script.{IsWithin}
use Rattle.geo_world.specs.World.{World, Session, Idle, Pending, Packet, BatchPacket, region_of, sealed_by, open_epoch, published_epochs, session_of, holds}
use Rattle.geo_world.specs.Step.{Stepped, says, step, sql, run_statement, submit, submitted, seal, sealed_world, deliver, deliver_one, arrive, publish, have, with_region, kv_row, put_candidate, next_ticket, is_full, others, sent_lines}
use Rattle.geo_world.specs.Lines.{changed_one, duplicate, too_old, batch_full, seal_ahead, seal_last, batch_sealed, packet_new, packet_known, packet_far, epoch_published, region_waits}

-- the world in which the region has taken a candidate that puts one row
abbrev pub taken_world : World → ℕ → ℕ → ℤ → ℤ → World
taken_world w region session key value =
    submitted region session (put_candidate (region_of w region).published key value) (next_ticket w region) w

-- the world in which the batch has arrived at the region
abbrev pub arrived_world : World → ℕ → ℕ → ℕ → World
arrived_world w to region epoch =
    with_region to (record (region_of w to) { arrived = (region, epoch) ∷ (region_of w to).arrived }) w

-- the world in which the region has published its next epoch
abbrev pub published_world : World → ℕ → World
published_world w region = with_region region (record (region_of w region) { published = (region_of w region).published + 1 }) w

-- the relation holds between a world and itself, along two steps, and across each change but a seal
pub record IsKeptBesidesSeals (R : World → World → Type 0) : Type 0 where
  pub stays : (w : World) → R w w
  pub joins : (u v w : World) → R u v → R v w → R u w
  pub takes : (w : World) (region session : ℕ) (key value : ℤ) → region < length w.regions → session < SESSIONS_PER_REGION →
      session_of w region session ≡ Idle → R w (taken_world w region session key value)
  pub arrives : (w : World) (packet to region epoch : ℕ) → slice_get w.packets packet ≡ Some (BatchPacket to region epoch) →
      R w (arrived_world w to region epoch)
  pub publishes : (w : World) (region : ℕ) → region < length w.regions →
      nat_lt (have w region ((region_of w region).published + 1)) (length w.regions) ≡ false → R w (published_world w region)

-- the relation holds across a seal
abbrev pub IsKeptBySeals : (World → World → Type 0) → Type 0
IsKeptBySeals R = (w : World) (region : ℕ) → region < length w.regions →
    nat_le MAX_AHEAD (sealed_by w region - (region_of w region).published) ≡ false → R w (sealed_world w region)

branch : (P : World → Type 0) (b : Bool) (s t : Stepped) → P s.world → (b ≡ false → P t.world) → P (if b then s else t).world
branch P true s t h k = h
branch P false s t h k = k refl

module _ (R : World → World → Type 0) (moves : IsKeptBesidesSeals R) where
  submit-moves : (w : World) (region session : ℕ) (key value : ℤ) → region < length w.regions → session < SESSIONS_PER_REGION →
      session_of w region session ≡ Idle →
      R w (submit w region session (put_candidate (region_of w region).published key value)).world
  submit-moves w region session key value h few idle =
      branch (R w) (nat_lt MAX_AGE (open_epoch w region - c.start)) (says w (too_old region session c.start (open_epoch w region)))
      (if is_full (region_of w region).waiting c then says w (batch_full region session) else taken)
      (moves.stays w)
      (λ young. branch (R w) (is_full (region_of w region).waiting c) (says w (batch_full region session)) taken
      (moves.stays w)
      (λ room. moves.takes w region session key value h few idle))
    where
      c : Candidate
      c = put_candidate (region_of w region).published key value

      taken : Stepped
      taken = record { world = taken_world w region session key value; lines = changed_one region session (next_ticket w region) }

  statement-moves : (w : World) (region session : ℕ) (statement : Statement) → region < length w.regions → session < SESSIONS_PER_REGION →
      session_of w region session ≡ Idle → R w (run_statement w region session statement).world
  statement-moves w region session (Insert key value) h few idle =
      branch (R w) (is_some (snap_at (published_epochs w region) (kv_row key))) (says w (duplicate region session (kv_row key)))
      (submit w region session (put_candidate (region_of w region).published key value))
      (moves.stays w)
      (λ new. submit-moves w region session key value h few idle)
  statement-moves w region session Select h few idle = moves.stays w

  sql-moves : (w : World) (region session : ℕ) (statement : Statement) (state : Session) → region < length w.regions → session < SESSIONS_PER_REGION →
      session_of w region session ≡ state → R w (sql w region session statement state).world
  sql-moves w region session statement Idle h few idle = statement-moves w region session statement h few idle
  sql-moves w region session statement (Pending ticket) h few is = moves.stays w

  arrive-moves : (w : World) (packet : ℕ) (p : Packet) → slice_get w.packets packet ≡ Some p → R w (arrive w packet p).world
  arrive-moves w packet (BatchPacket to region epoch) there =
      branch (R w) (nat_le epoch (region_of w to).published || holds w to region epoch) (says w (packet_known packet))
      (if nat_lt ((region_of w to).published + MAX_AGE) epoch then says w (packet_far packet ((region_of w to).published + MAX_AGE)) else arrived)
      (moves.stays w)
      (λ new. branch (R w) (nat_lt ((region_of w to).published + MAX_AGE) epoch) (says w (packet_far packet ((region_of w to).published + MAX_AGE))) arrived
      (moves.stays w)
      (λ near. moves.arrives w packet to region epoch there))
    where
      arrived : Stepped
      arrived = record { world = arrived_world w to region epoch; lines = packet_new packet }

  pub deliver_one-moves : (w : World) (packet : ℕ) (p : Option Packet) → slice_get w.packets packet ≡ p → R w (deliver_one w packet p).world
  deliver_one-moves w packet None absent = moves.stays w
  deliver_one-moves w packet (Some p) there = arrive-moves w packet p there

  deliver-moves : (count packet : ℕ) (w : World) → R w (deliver count packet w).world
  deliver-moves zero packet w = moves.stays w
  deliver-moves (suc count) packet w =
      moves.joins w _ _ (deliver_one-moves w packet (slice_get w.packets packet) refl)
      (deliver-moves count (packet + 1) (deliver_one w packet (slice_get w.packets packet)).world)

  publish-moves : (w : World) (region : ℕ) → region < length w.regions → R w (publish w region).world
  publish-moves w region h =
      branch (R w) (nat_lt (have w region ((region_of w region).published + 1)) (length w.regions))
      (says w (region_waits region ((region_of w region).published + 1) (have w region ((region_of w region).published + 1)) (length w.regions)))
      (record {
        world = published_world w region;
        lines = epoch_published region ((region_of w region).published + 1) (count_by is_committed outcomes) (count_by (λ o. not (is_committed o)) outcomes);
      })
      (moves.stays w)
      (λ whole. moves.publishes w region h whole)
    where
      outcomes : List Outcome
      outcomes = verdicts (epochs_of w.journal ((region_of w region).published + 1))

seal-moves : (P : World → Type 0) (w : World) (region : ℕ) → P w →
    (nat_le MAX_AHEAD (sealed_by w region - (region_of w region).published) ≡ false → P (sealed_world w region)) → P (seal w region).world
seal-moves P w region stays seals =
    branch P (nat_le w.last (open_epoch w region)) (says w (seal_last region))
    (if nat_le MAX_AHEAD (sealed_by w region - (region_of w region).published) then says w (seal_ahead region) else sealed)
    stays
    (λ more. branch P (nat_le MAX_AHEAD (sealed_by w region - (region_of w region).published)) (says w (seal_ahead region)) sealed stays seals)
  where
    sealed : Stepped
    sealed = record {
      world = sealed_world w region;
      lines =
          batch_sealed region (open_epoch w region) (length (region_of w region).waiting)
          ++ sent_lines (length w.packets) (others (length w.regions) region);
    }

-- a relation that one seal keeps, and that follows from one which all other changes keep, holds across each step
pub step-moves : (R S : World → World → Type 0) → IsKeptBesidesSeals R → ((w v : World) → R w v → S w v) → IsKeptBySeals S →
    (w : World) (event : Event) → IsWithin (length w.regions) event → S w (step w event).world
step-moves R S moves follows seals w (Sql region session statement) h =
    follows w _ (sql-moves R moves w region session statement (session_of w region session) h.0 h.1 refl)
step-moves R S moves follows seals w (Seal region) h = seal-moves (S w) w region (follows w w (moves.stays w)) (seals w region h)
step-moves R S moves follows seals w (Deliver first last) h = follows w _ (deliver-moves R moves (last + 1 - first) first w)
step-moves R S moves follows seals w (Publish region) h = follows w _ (publish-moves R moves w region h)
step-moves R S moves follows seals w (Show region) h = follows w w (moves.stays w)
