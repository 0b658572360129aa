-- The first world is sound, and each step leaves a sound world sound.
use Rattle.std.proofs.Common.{◌≡◌, ℕ, ℤ, zero, suc, ◌+◌, ◌<◌, ◌≤◌, true, Some, List, [], length, replicate, All, sum_by, refl, sym, ap, ◌∙◌, subst, arith, length-set, slice_get}
use Rattle.std.proofs.lemmas.Bool.{false≢true}
use Rattle.std.proofs.lemmas.List.{length-replicate, get_or-replicate}
use Rattle.std.proofs.lemmas.List.Elements.{All-nil}
use Rattle.std.proofs.lemmas.Option.{none-some, slice_get_within, get_or_from_slice_get}
use Rattle.geo_base.specs.declared.limits.TheConstants.{MAX_REGIONS, MAX_AGE, MAX_AHEAD}
use Rattle.write_set.specs.declared.batch.Batch.{Batch}
use Rattle.write_set.specs.Journal.{log_of, last_sealed}
use Rattle.write_set.specs.laws.Rising.{one_change}
use Rattle.world_script.specs.declared.event.Event.{Event}
use Rattle.world_script.specs.Script.{IsWithin}
use Rattle.geo_world.specs.World.{World, RegionState, Packet, BatchPacket, new_region, first_world, region_of, sealed_by, open_epoch, has_arrived}
use Rattle.geo_world.specs.Step.{step, deliver_one, put_candidate, next_ticket}
use Rattle.geo_world.specs.inner.Sound.{IsSound, IsSoundRegion, IsSoundPacket, IsOpen, pending_count, candidate_count}
use Rattle.geo_world.proofs.LastSealed.{last_sealed-le-log}
use Rattle.geo_world.proofs.SoundSubmit.{submitted-sound}
use Rattle.geo_world.proofs.SoundSeal.{sealed_world-sound}
use Rattle.geo_world.proofs.SoundMoves.{arrived-sound, published-sound}
use Rattle.geo_world.proofs.Moves.{IsKeptBesidesSeals, deliver_one-moves, step-moves}

-- ---- the first world

new_region-at : (regions region : ℕ) (last : ℕ) → region < regions → region_of (first_world regions last) region ≡ new_region
new_region-at regions region last h = get_or-replicate regions region new_region new_region h

-- the first journal's lists are empty
pub log_empty : (regions region : ℕ) → log_of (replicate regions []) region ≡ []
log_empty zero region = refl
log_empty (suc regions) zero = refl
log_empty (suc regions) (suc region) = log_empty regions region

first_region-sound : (regions last region : ℕ) → region < regions → IsSoundRegion (first_world regions last) region
first_region-sound regions last region h = record {
  published = subst (λ (st : RegionState). st.published ≤ last_sealed w.journal) (sym new) (omega arith);
  ahead = subst (λ (log : List Batch). length log ≤ (region_of w region).published + MAX_AHEAD) (sym log) (omega arith);
  arrived = λ of epoch a. absurd (false≢true (subst (λ (st : RegionState). has_arrived st of epoch ≡ true) new a));
  waiting = subst (λ (st : RegionState). All (IsOpen (open_epoch w region)) st.waiting) (sym new) (All-nil (IsOpen (open_epoch w region)));
  counted = subst (λ (n : ℕ). n ≤ pending_count w region) (sym none) (omega arith);
}
  where
    w : World
    w = first_world regions last

    new : region_of w region ≡ new_region
    new = new_region-at regions region last h

    log : log_of w.journal region ≡ []
    log = log_empty regions region

    none : candidate_count w region ≡ 0
    none =
        ap (λ (l : List Batch). sum_by (λ b. length b.items) l + length (region_of w region).waiting) log
        ∙ ap (λ (st : RegionState). zero + length st.waiting) new

pub first_world-sound : (regions last : ℕ) → 1 ≤ regions → regions ≤ 8 → IsSound (first_world regions last)
first_world-sound regions last some few = record {
  some = subst (λ (n : ℕ). 1 ≤ n) (sym count) some;
  few = subst (λ (n : ℕ). n ≤ MAX_REGIONS) (sym count) few;
  same = logs ∙ sym count;
  lawful = record {
    some = subst (λ (n : ℕ). 1 ≤ n) (sym logs) some;
    few = subst (λ (n : ℕ). n ≤ MAX_REGIONS) (sym logs) few;
    lawful = λ region place batch at. absurd (none-some batch (subst (λ (l : List Batch). slice_get l place ≡ Some batch) (log_empty regions region) at));
  };
  regions = λ region h. first_region-sound regions last region (subst (λ (n : ℕ). region < n) count h);
  packets = All-nil (IsSoundPacket (first_world regions last));
}
  where
    count : length (first_world regions last).regions ≡ regions
    count = length-replicate regions new_region

    logs : length (first_world regions last).journal ≡ regions
    logs = length-replicate regions []

-- ---- steps

young_put : (sealed published : ℕ) → sealed ≤ published + MAX_AHEAD → sealed + 1 ≤ published + MAX_AGE
young_put sealed published h = omega arith

earlier_put : (sealed published last : ℕ) → published ≤ last → last ≤ sealed → published < sealed + 1
earlier_put sealed published last h k = omega arith

-- a region has published no more than it has sealed
pub published-le-sealed : (w : World) (region : ℕ) → IsSound w → region < length w.regions → (region_of w region).published ≤ sealed_by w region
published-le-sealed w region s h =
    omega (arith, (s.regions region h).published, last_sealed-le-log w.journal region (subst (λ (n : ℕ). region < n) (sym s.same) h))

-- the candidate of a statement alone may be sealed in the open epoch
pub put-open : (w : World) (region : ℕ) (key value : ℤ) → IsSound w → region < length w.regions →
    IsOpen (open_epoch w region) (put_candidate (region_of w region).published key value)
put-open w region key value s h = record {
  earlier = earlier_put (sealed_by w region) (region_of w region).published (sealed_by w region) (published-le-sealed w region s h) (omega arith);
  young = young_put (sealed_by w region) (region_of w region).published (s.regions region h).ahead;
  one = refl;
  lawful = one_change _;
  small = omega arith;
}

-- a packet that was sent is sound
pub sent_packet-sound : (w : World) (packet : ℕ) (p : Packet) → IsSound w → slice_get w.packets packet ≡ Some p → IsSoundPacket w p
sent_packet-sound w packet p s there =
    subst (IsSoundPacket w) (get_or_from_slice_get w.packets packet p p there) (s.packets packet p (slice_get_within w.packets packet p there))

abbrev StaysSound : World → World → Type 0
StaysSound w v = IsSound w → IsSound v

sound-moves : IsKeptBesidesSeals StaysSound
sound-moves = record {
  stays = λ w s. s;
  joins = λ u v w first second s. second (first s);
  takes = λ w region session key value h few idle s.
      submitted-sound w region session (put_candidate (region_of w region).published key value) (next_ticket w region) h few idle
      (put-open w region key value s h) s;
  arrives = λ w packet to region epoch there s. arrived-sound w to region epoch (sent_packet-sound w packet (BatchPacket to region epoch) s there) s;
  publishes = λ w region h whole s. published-sound w region h whole s;
}

pub step-sound : (w : World) (event : Event) → IsSound w → IsWithin (length w.regions) event → IsSound (step w event).world
step-sound w event s h = step-moves StaysSound StaysSound sound-moves (λ w v r. r) (λ w region h near s. sealed_world-sound w region h near s) w event h s

-- one packet's arrival alone
pub delivery-sound : (w : World) (packet : ℕ) → IsSound w → IsSound (deliver_one w packet (slice_get w.packets packet)).world
delivery-sound w packet s = deliver_one-moves StaysSound sound-moves w packet (slice_get w.packets packet) refl s

-- ---- what never changes

abbrev KeepsCount : World → World → Type 0
KeepsCount w v = length v.regions ≡ length w.regions

count-moves : IsKeptBesidesSeals KeepsCount
count-moves = record {
  stays = λ w. refl;
  joins = λ u v w first second. second ∙ first;
  takes = λ w region session key value h few idle. length-set w.regions region _;
  arrives = λ w packet to region epoch there. length-set w.regions to _;
  publishes = λ w region h whole. length-set w.regions region _;
}

-- no step changes how many regions there are
pub step-count : (w : World) (event : Event) → IsWithin (length w.regions) event → length (step w event).world.regions ≡ length w.regions
step-count w event h = step-moves KeepsCount KeepsCount count-moves (λ w v r. r) (λ w region h near. length-set w.regions region _) w event h

abbrev KeepsLast : World → World → Type 0
KeepsLast w v = v.last ≡ w.last

last-moves : IsKeptBesidesSeals KeepsLast
last-moves = record {
  stays = λ w. refl;
  joins = λ u v w first second. second ∙ first;
  takes = λ w region session key value h few idle. refl;
  arrives = λ w packet to region epoch there. refl;
  publishes = λ w region h whole. refl;
}

-- no step changes the last epoch
pub step-last : (w : World) (event : Event) → IsWithin (length w.regions) event → (step w event).world.last ≡ w.last
step-last w event h = step-moves KeepsLast KeepsLast last-moves (λ w v r. r) (λ w region h near. refl) w event h
