-- What sound worlds answer to events.
use Rattle.std.proofs.Common.{◌≡◌, ℕ, ℤ, zero, suc, ◌+◌, ◌-◌, ◌<◌, ◌≤◌, Bool, false, ◌||◌, if◌then◌else◌, ◌++◌, length, Option, None, Some, is_some, refl, sym, ap, subst, inl, inr, ⊎_elim, nat_lt, nat_le, slice_get, le_of_eq, le-ltb, ltb-false}
use Rattle.std.proofs.lemmas.Bool.{cond_both, cond-true, cond-false, ltb-true, lt-ltb, cases_lt, both_ways}
use Rattle.geo_base.specs.declared.limits.TheConstants.{MAX_AHEAD, SESSIONS_PER_REGION}
use Rattle.geo_base.specs.declared.row_image.RowImage.{RowImage}
use Rattle.write_set.specs.Snapshot.{snap_at}
use Rattle.world_script.specs.declared.event.Statement.{Statement}
use Rattle.world_script.specs.declared.event.Statement.TheVariants.{Insert, Select}
use Rattle.world_script.specs.declared.event.Event.{Event}
use Rattle.world_script.specs.declared.event.Event.TheVariants.{Sql, Seal, Deliver, Publish, Show}
use Rattle.world_script.specs.Script.{IsWithin}
use Rattle.geo_world.specs.World.{World, Session, Idle, Pending, Packet, BatchPacket, region_of, sealed_by, open_epoch, published_epochs, session_of, holds}
use Rattle.geo_world.specs.Step.{Stepped, says, step, sql, run_statement, submit, seal, sealed_world, deliver, deliver_one, arrive, publish, have, kv_row, put_candidate, others, sent_lines}
use Rattle.geo_world.specs.Lines.{duplicate, seal_ahead, seal_last, batch_sealed, packet_new, packet_known}
use Rattle.geo_world.specs.inner.Sound.{IsSound}
use Rattle.geo_world.specs.Answers.{IsInserted, IsRun, IsReply, IsSealing, IsDelivery, AreDeliveries, HasAll, next_epoch, published_lines, waiting_lines, IsPublishing, IsAnswer}
use Rattle.geo_world.proofs.Counting.{count-all, all-counted}
use Rattle.geo_world.proofs.Moves.{arrived_world, published_world}
use Rattle.geo_world.proofs.SoundSteps.{delivery-sound}
use Rattle.geo_world.proofs.Spared.{submit-takes, arrive-takes}

-- ---- statements

insert-answers : (w : World) (region session : ℕ) (key value : ℤ) (image : Option RowImage) → IsSound w → region < length w.regions →
    session < SESSIONS_PER_REGION → session_of w region session ≡ Idle →
    IsInserted w region session key image
    (if is_some image
    then says w (duplicate region session (kv_row key))
    else submit w region session (put_candidate (region_of w region).published key value)).lines
insert-answers w region session key value None s h few idle =
    ap (λ (t : Stepped). t.lines) (submit-takes w region session key value s h few idle)
insert-answers w region session key value (Some image) s h few idle = refl

statement-answers : (w : World) (region session : ℕ) (statement : Statement) → IsSound w → region < length w.regions → session < SESSIONS_PER_REGION →
    session_of w region session ≡ Idle → IsRun w region session statement (run_statement w region session statement).lines
statement-answers w region session (Insert key value) s h few idle =
    insert-answers w region session key value (snap_at (published_epochs w region) (kv_row key)) s h few idle
statement-answers w region session Select s h few idle = refl

sql-answers : (w : World) (region session : ℕ) (statement : Statement) (state : Session) → IsSound w → region < length w.regions →
    session < SESSIONS_PER_REGION → session_of w region session ≡ state →
    IsReply w region session statement state (sql w region session statement state).lines
sql-answers w region session statement Idle s h few idle = statement-answers w region session statement s h few idle
sql-answers w region session statement (Pending ticket) s h few is = refl

-- ---- seals

seal-answers : (w : World) (region : ℕ) → nat_le w.last (open_epoch w region) ≡ false → IsSealing w region (seal w region).lines
seal-answers w region more =
    subst (λ (t : Stepped). IsSealing w region t.lines)
    (sym (cond-false (nat_le w.last (open_epoch w region)) (says w (seal_last region)) unless_ahead more))
    (cond_both (nat_le MAX_AHEAD (sealed_by w region - (region_of w region).published)) (says w (seal_ahead region)) sealed
    (λ (t : Stepped). IsSealing w region t.lines) (λ ahead. inl refl) (λ near. inr refl))
  where
    sealed : Stepped
    sealed = record {
      world = sealed_world w region;
      lines =
          batch_sealed region (open_epoch w region) (length (region_of w region).waiting)
          ++ sent_lines (length w.packets) (others (length w.regions) region);
    }

    unless_ahead : Stepped
    unless_ahead = if nat_le MAX_AHEAD (sealed_by w region - (region_of w region).published) then says w (seal_ahead region) else sealed

-- ---- deliveries

arrive-answers : (w : World) (packet : ℕ) (p : Packet) → IsSound w → slice_get w.packets packet ≡ Some p → IsDelivery packet (arrive w packet p).lines
arrive-answers w packet (BatchPacket to region epoch) s there =
    subst (λ (t : Stepped). IsDelivery packet t.lines) (sym (arrive-takes w packet to region epoch s there))
    (cond_both (nat_le epoch (region_of w to).published || holds w to region epoch) (says w (packet_known packet))
    (record { world = arrived_world w to region epoch; lines = packet_new packet })
    (λ (t : Stepped). IsDelivery packet t.lines) (λ known. inr (inl refl)) (λ new. inl refl))

delivery-answers : (w : World) (packet : ℕ) (p : Option Packet) → IsSound w → slice_get w.packets packet ≡ p → IsDelivery packet (deliver_one w packet p).lines
delivery-answers w packet None s absent = inr (inr refl)
delivery-answers w packet (Some p) s there = arrive-answers w packet p s there

deliver-answers : (count packet : ℕ) (w : World) → IsSound w → AreDeliveries count packet (deliver count packet w).lines
deliver-answers zero packet w s = refl
deliver-answers (suc count) packet w s = (
  _,
  _,
  refl,
  delivery-answers w packet (slice_get w.packets packet) s refl,
  deliver-answers count (packet + 1) (deliver_one w packet (slice_get w.packets packet)).world (delivery-sound w packet s),
)

-- ---- publishes

-- the step in which the region publishes its next epoch
abbrev pub published_step : World → ℕ → Stepped
published_step w region = record { world = published_world w region; lines = published_lines w region }

-- some batch of the region's next epoch isn't there
abbrev lacks_some : World → ℕ → Bool
lacks_some w region = nat_lt (have w region (next_epoch w region)) (length w.regions)

publish-answers : (w : World) (region : ℕ) → IsPublishing w region (publish w region).lines
publish-answers w region =
    cond_both (lacks_some w region) (says w (waiting_lines w region)) (published_step w region)
    (λ (t : Stepped). IsPublishing w region t.lines)
    (λ waits. inr (ltb-true (have w region (next_epoch w region)) (length w.regions) waits, refl))
    (λ whole. inl (has_all w region whole, refl))
  where
    has_all : (w : World) (region : ℕ) → lacks_some w region ≡ false → HasAll w region
    has_all w region whole =
        count-all (λ q. holds w region q (next_epoch w region)) (length w.regions) (ltb-false (have w region (next_epoch w region)) (length w.regions) whole)

-- a region that has all batches publishes
pub publish-whole : (w : World) (region : ℕ) → HasAll w region →
    publish w region ≡ published_step w region
publish-whole w region all =
    cond-false (lacks_some w region) (says w (waiting_lines w region)) (published_step w region)
    (le-ltb (have w region (next_epoch w region)) (length w.regions)
    (le_of_eq (sym (all-counted (λ q. holds w region q (next_epoch w region)) (length w.regions) all))))

-- and one that lacks a batch doesn't
pub publish-waits : (w : World) (region q : ℕ) → q < length w.regions → holds w region q (next_epoch w region) ≡ false →
    publish w region ≡ says w (waiting_lines w region)
publish-waits w region q h lacks =
    cond-true (lacks_some w region) (says w (waiting_lines w region)) (published_step w region)
    (⊎_elim
    (λ (few : have w region (next_epoch w region) < length w.regions). lt-ltb (have w region (next_epoch w region)) (length w.regions) few)
    (λ (all : length w.regions ≤ have w region (next_epoch w region)).
    absurd (both_ways _ lacks (count-all (λ of. holds w region of (next_epoch w region)) (length w.regions) all q h)))
    (cases_lt (have w region (next_epoch w region)) (length w.regions)))

-- ---- all events

pub step-answers : (w : World) (event : Event) → IsSound w → IsWithin (length w.regions) event →
    ((region : ℕ) → nat_le w.last (open_epoch w region) ≡ false) → IsAnswer w event (step w event).lines
step-answers w (Sql region session statement) s h more = sql-answers w region session statement (session_of w region session) s h.0 h.1 refl
step-answers w (Seal region) s h more = seal-answers w region (more region)
step-answers w (Deliver first last) s h more = deliver-answers (last + 1 - first) first w s
step-answers w (Publish region) s h more = publish-answers w region
step-answers w (Show region) s h more = refl
