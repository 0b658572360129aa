-- What a region stands for while others change, and the whole world where one region changes.
use Rattle.std.proofs.Common.{◌≡◌, ℕ, zero, suc, ◌+◌, ◌-◌, ◌^◌, ◌<◌, ◌≤◌, max, Bool, true, false, cond, None, Some, List, [], ◌∷◌, map, length, All, set, slice_get, vec_len, refl, sym, ap, ◌∙◌, subst, arith, ⊎_elim, length-set, get_or-set_same}
use Rattle.std.proofs.lemmas.Bool.{cases_eq}
use Rattle.std.proofs.lemmas.Option.{slice_get_within, slice_get-get_or, same_Some}
use Rattle.geo_base.specs.declared.limits.TheConstants.{MAX_REGIONS}
use Rattle.write_set.specs.declared.batch.Batch.{Batch}
use Rattle.write_set.specs.Journal.{Epochs, batch_at}
use Rattle.write_set.specs.Plain.{IsMergeOf}
use Rattle.geo_world.specs.declared.world.World.{World as Kept}
use Rattle.geo_world.specs.declared.region.Region.{Region}
use Rattle.geo_world.specs.World.{World, RegionState, region_of, published_epochs, has_arrived}
use Rattle.geo_world.specs.inner.Standing.{StandsFor, IsSomeWorld, RegionStandsFor, HoldsArrived, IsCleared, IsAsSealed, packet_state}
use Rattle.geo_world.specs.inner.Sound.{IsSound}
use Rattle.geo_world.proofs.SoundRegions.{IsKept}

pub slice_get-set_same : {A : Type 0} → (xs : List A) (i : ℕ) (a : A) → i < length xs → slice_get (set xs i a) i ≡ Some a
slice_get-set_same xs i a h =
    slice_get-get_or (set xs i a) i a (omega (arith, length-set xs i a)) ∙ ap Some (get_or-set_same xs i a a h)

pub slice_get-set_other : {A : Type 0} → (xs : List A) (i j : ℕ) (a : A) → (j ≡ i → ⊥) → slice_get (set xs i a) j ≡ slice_get xs j
slice_get-set_other [] i j a other = refl
slice_get-set_other (x ∷ xs) zero zero a other = absurd (other refl)
slice_get-set_other (x ∷ xs) zero (suc j) a other = refl
slice_get-set_other (x ∷ xs) (suc i) zero a other = refl
slice_get-set_other (x ∷ xs) (suc i) (suc j) a other = slice_get-set_other xs i j a (λ e. other (ap suc e))

pub same_then : {A : Type 0} → (b : Bool) (x y z : A) → (b ≡ true → x ≡ y) → cond b x z ≡ cond b y z
same_then true x y z same = same refl
same_then false x y z same = refl

-- the later world has what the region has published and what has come to it as they were
pub record IsHeld (w v : World) (number : ℕ) : Type 0 where
  pub kept : IsKept w v number
  pub last : v.last ≡ w.last
  pub epochs : published_epochs v number ≡ published_epochs w number
  pub batches : (of epoch : ℕ) → has_arrived (region_of w number) of epoch ≡ true → batch_at v.journal of (epoch - 1) ≡ batch_at w.journal of (epoch - 1)

held_arrived : (w v : World) (number : ℕ) (region : Region) → IsHeld w v number → RegionStandsFor w number region →
    HoldsArrived v.journal (region_of v number) region.inbox
held_arrived w v number region h r of epoch later =
    r.holds of epoch (subst (λ (s : RegionState). s.published < epoch) h.kept.state later)
    ∙ (same_then (has_arrived (region_of w number) of epoch) (batch_at w.journal of (epoch - 1)) (batch_at v.journal of (epoch - 1)) None
    (λ t. sym (h.batches of epoch t))
    ∙ ap (λ (s : RegionState). cond (has_arrived s of epoch) (batch_at v.journal of (epoch - 1)) None) (sym h.kept.state))

-- a region stands for itself in the later world too
held-stands : (w v : World) (number : ℕ) (region : Region) → IsHeld w v number → RegionStandsFor w number region → RegionStandsFor v number region
held-stands w v number region h r = record {
  log = r.log ∙ sym h.kept.log;
  opens = r.opens ∙ ap (λ (log : List Batch). length log + 1) (sym h.kept.log);
  room = subst (λ (n : ℕ). region.open ≤ max 1 n) (sym h.last) r.room;
  waiting = r.waiting ∙ ap (λ (s : RegionState). s.waiting) (sym h.kept.state);
  published = r.published ∙ ap (λ (s : RegionState). s.published) (sym h.kept.state);
  merges = r.merges ∙ sym h.kept.count;
  merged = subst (λ (es : Epochs). IsMergeOf es region.plain) (sym h.epochs) r.merged;
  holds = held_arrived w v number region h r;
  cleared = subst (λ (s : RegionState). IsCleared s region.inbox) (sym h.kept.state) r.cleared;
  numbers = r.numbers;
  sessions = λ session few. r.sessions session few ∙ sym (h.kept.sessions session);
}

-- the program's later world is the earlier one with one region changed
pub record ChangesOne (number : ℕ) (region : Region) (old new : Kept) : Type 0 where
  pub schema : new.schema ≡ old.schema
  pub last : new.last ≡ old.last
  pub regions : new.regions.items ≡ set old.regions.items number region
  pub within : number < length old.regions.items

same_count : (w v : World) (k n : Kept) (number : ℕ) (region : Region) → StandsFor w k → ChangesOne number region k n →
    length n.regions.items ≡ length w.regions
same_count w v k n number region s c =
    ap (λ (xs : List Region). length xs) c.regions ∙ (length-set k.regions.items number region ∙ (sym k.regions.ok.0 ∙ s.count))

changed_region : (w v : World) (k n : Kept) (number : ℕ) (region : Region) → StandsFor w k → ChangesOne number region k n →
    RegionStandsFor v number region → ((q : ℕ) → (q ≡ number → ⊥) → q < length w.regions → IsHeld w v q) →
    (q : ℕ) (r : Region) → slice_get n.regions.items q ≡ Some r → RegionStandsFor v q r
changed_region w v k n number region s c here others q r at =
    ⊎_elim
    (λ (e : q ≡ number).
    let same : region ≡ r = same_Some region r (sym (slice_get-set_same k.regions.items number region c.within)
    ∙ (ap (λ (xs : List Region). slice_get xs number) (sym c.regions) ∙ subst (λ (i : ℕ). slice_get n.regions.items i ≡ Some r) e at)) in
    subst (λ (i : ℕ). RegionStandsFor v i r) (sym e) (subst (λ (x : Region). RegionStandsFor v number x) same here))
    (λ (other : q ≡ number → ⊥).
    held-stands w v q r (others q other (subst (λ (m : ℕ). q < m) (same_count w v k n number region s c) (slice_get_within n.regions.items q r at)))
    (s.regions q r (sym (slice_get-set_other k.regions.items number q region other) ∙ (ap (λ (xs : List Region). slice_get xs q) (sym c.regions) ∙ at))))
    (cases_eq q number)

-- the whole world stands, where the region that changed does and the others are held
pub changed-stands : (w v : World) (k n : Kept) (number : ℕ) (region : Region) → StandsFor w k → ChangesOne number region k n →
    RegionStandsFor v number region → ((q : ℕ) → (q ≡ number → ⊥) → q < length w.regions → IsHeld w v q) →
    IsSound v → v.last ≡ w.last → length v.regions ≡ length w.regions →
    map packet_state n.packets.items ≡ v.packets → All (IsAsSealed v.journal) n.packets.items → StandsFor v n
changed-stands w v k n number region s c here others sound last count packets carried = record {
  sound = sound;
  schema = c.schema ∙ s.schema;
  last = c.last ∙ (s.last ∙ sym last);
  short = subst (λ (n : ℕ). n < 2 ^ 32) (sym last) s.short;
  count = n.regions.ok.0 ∙ (same_count w v k n number region s c ∙ sym count);
  regions = changed_region w v k n number region s c here others;
  packets = packets;
  carried = carried;
}

count_fits : (n m : ℕ) → n ≡ m → m ≤ MAX_REGIONS → n < 2 ^ 8
count_fits n m a b = omega arith

-- so few regions are there that 8 bits count them
pub regions-fit : (k : Kept) → IsSomeWorld k → vec_len k.regions < 2 ^ 8
regions-fit k some = count_fits (vec_len k.regions) (length some.0.regions) some.1.count some.1.sound.few
