-- The program's first world stands for the world before the first event.
use Rattle.std.proofs.Common.{◌≡◌, ℕ, ◌+◌, ◌^◌, ◌<◌, ◌≤◌, max, List, [], map, length, All, replicate, vec_len, sym, ap, ◌∙◌, subst, arith}
use Rattle.std.proofs.lemmas.List.{length-replicate, get_or-replicate}
use Rattle.std.proofs.lemmas.List.Elements.{All-nil}
use Rattle.std.proofs.lemmas.Option.{slice_get_within, get_or_from_slice_get, unwrap_or-slice_get}
use Rattle.geo_base.specs.declared.limits.TheConstants.{SESSIONS_PER_REGION}
use Rattle.write_set.specs.Journal.{epochs_of, log_of}
use Rattle.write_set.specs.declared.batch.Batch.{Batch}
use Rattle.write_set.specs.Plain.{IsMergeOf}
use Rattle.geo_world.specs.declared.world.World.{World as Kept}
use Rattle.geo_world.specs.declared.region.Region.{Region}
use Rattle.geo_world.specs.declared.session.Session.{Session as KeptSession}
use Rattle.geo_world.specs.declared.session.Session.TheVariants as kept
use Rattle.geo_world.specs.World.{World, RegionState, new_region, first_world, region_of}
use Rattle.geo_world.specs.inner.Sessions.{session_at}
use Rattle.geo_world.specs.inner.Regions.{IsNew}
use Rattle.geo_world.specs.inner.Standing.{StandsFor, RegionStandsFor, HoldsArrived, IsAsSealed, session_state, packet_state}
use Rattle.geo_world.specs.Tables.{kv_tables}
use Rattle.geo_world.proofs.SoundSteps.{first_world-sound}

one_room : (first last : ℕ) → first ≡ 1 → first ≤ max 1 last
one_room first last e = omega arith

pub new-stands : (regions last number : ℕ) (r : Region) → number < regions → IsNew regions r → RegionStandsFor (first_world regions last) number r
new-stands regions last number r h n = record {
  log = n.log ∙ sym log;
  opens = n.opens ∙ ap (λ (l : List Batch). length l + 1) (sym log);
  room = one_room r.open last n.opens;
  waiting = n.waiting ∙ ap (λ (s : RegionState). s.waiting) (sym same);
  published = n.published ∙ ap (λ (s : RegionState). s.published) (sym same);
  merges = n.merges ∙ sym (length-replicate regions new_region);
  merged = subst (λ (s : RegionState). IsMergeOf (epochs_of w.journal s.published) r.plain) (sym same) n.merged;
  holds = subst (λ (s : RegionState). HoldsArrived w.journal s r.inbox) (sym same) (λ of epoch later. n.inbox of epoch);
  cleared = λ of epoch early. n.inbox of epoch;
  numbers = r.sessions.ok.0 ∙ (ap (λ (ss : List KeptSession). length ss) n.sessions ∙ length-replicate SESSIONS_PER_REGION kept.Idle);
  sessions = λ q few. ap session_state (ap (λ (ss : List KeptSession). session_at ss q) n.sessions
      ∙ (unwrap_or-slice_get (replicate SESSIONS_PER_REGION kept.Idle) q kept.Idle ∙ get_or-replicate SESSIONS_PER_REGION q kept.Idle kept.Idle few));
}
  where
    w : World
    w = first_world regions last

    same : region_of w number ≡ new_region
    same = get_or-replicate regions number new_region new_region h

    log : log_of w.journal number ≡ []
    log = get_or-replicate regions number [] [] h

pub opened-stands : (regions last : ℕ) (k : Kept) → 1 ≤ regions → regions ≤ 8 → last < 2 ^ 32 → k.schema ≡ kv_tables → k.last ≡ last → vec_len k.regions ≡ regions →
    All (IsNew regions) k.regions.items → k.packets.items ≡ [] → StandsFor (first_world regions last) k
opened-stands regions last k some few short tables is count new none = record {
  sound = first_world-sound regions last some few;
  schema = tables;
  last = is;
  short = short;
  count = count ∙ sym (length-replicate regions new_region);
  regions = λ number r at. new-stands regions last number r
      (within number (length k.regions.items) regions (slice_get_within k.regions.items number r at) (sym k.regions.ok.0 ∙ count))
      (subst (IsNew regions) (get_or_from_slice_get k.regions.items number r r at) (new number r (slice_get_within k.regions.items number r at)));
  packets = ap (map packet_state) none;
  carried = subst (All (IsAsSealed (first_world regions last).journal)) (sym none) (All-nil (IsAsSealed (first_world regions last).journal));
}
  where
    within : (a b c : ℕ) → a < b → b ≡ c → a < c
    within a b c h e = omega arith
