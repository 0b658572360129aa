-- A region of the program that publishes an epoch stands for the region that published it.
use Rattle.std.proofs.Common.{◌≡◌, ℕ, zero, suc, ◌+◌, ◌-◌, ◌*◌, ◌^◌, ◌<◌, ◌≤◌, max, Bool, true, false, not, cond, ◌&&◌, ◌||◌, ◌==◌, nat_le, nat_lt, Option, None, Some, is_some, List, [], ◌∷◌, ◌++◌, map, filter_map, length, take, All, get_or, slice_get, count_by, vec_len, if◌then◌else◌, refl, sym, ap, ap₂, ◌∙◌, subst, subst₂, arith, ⊎_elim, length-set, length-append, add-one, eq-eqb, ne_eqb, le_refl}
use Rattle.std.proofs.lemmas.Bool.{cases_eq, cases_lt, cond-true, cond-false, ltb-false, lt-ltb, le-ltb}
use Rattle.std.specs.List.{cons_option}
use Rattle.std.proofs.lemmas.Bool.Decides.{nat_tests}
use Rattle.std.proofs.lemmas.List.{length-map, take_more}
use Rattle.std.proofs.lemmas.List.Sums.{count_by-le-length}
use Rattle.std.proofs.lemmas.List.Elements.{filter_map-append}
use Rattle.std.proofs.lemmas.Option.{slice_get-get_or}
use Rattle.std.proofs.Math.Seq.{take-length}
use Rattle.geo_base.specs.declared.limits.TheConstants.{MAX_REGIONS, MAX_CANDIDATES}
use Rattle.geo_base.specs.declared.outcome.Outcome.{Outcome}
use Rattle.write_set.specs.declared.batch.Batch.{Batch}
use Rattle.write_set.specs.declared.candidate.Candidate.{Candidate}
use Rattle.write_set.specs.Journal.{Journal, Epochs, AreBatches, epochs_of, log_of, batch_at, batches_at, candidates_of, placed_from, last_sealed}
use Rattle.write_set.specs.Merge.{verdicts, is_committed}
use Rattle.write_set.specs.Plain.{IsMergeOf}
use Rattle.write_set.specs.laws.Sealing.{batches_length, batches_lawful}
use Rattle.write_set.specs.laws.Placing.{length_epochs}
use Rattle.geo_world.specs.declared.world.World.{World as Kept}
use Rattle.geo_world.specs.declared.region.Region.{Region}
use Rattle.geo_world.specs.declared.session.Session.{Session as KeptSession}
use Rattle.geo_world.specs.World.{World, RegionState, region_of, sealed_by, published_epochs, has_arrived, holds}
use Rattle.geo_world.specs.Step.{Stepped, says, publish, have, numbers_below}
use Rattle.geo_world.specs.Lines as lines
use Rattle.geo_world.specs.inner.Sessions.{session_at}
use Rattle.geo_world.specs.inner.Arrivals.{batch_in}
use Rattle.geo_world.specs.inner.Regions.{Publishes, IsReady, is_gathered, has_next, next_batch_of, next_batches}
use Rattle.geo_world.specs.inner.Standing.{StandsFor, IsSomeWorld, RegionStandsFor, HoldsArrived, IsCleared, IsAsSealed, Makes, session_state, packet_state}
use Rattle.geo_world.specs.inner.Sound.{IsSound, IsSoundRegion, IsSealed}
use Rattle.geo_world.proofs.LastSealed.{last_sealed-le-log}
use Rattle.geo_world.proofs.Counting.{count-agree, count-all}
use Rattle.geo_world.proofs.SoundRegions.{state-set_same}
use Rattle.geo_world.proofs.SoundMoves.{published-sound, whole-sealed}
use Rattle.geo_world.proofs.SoundSteps.{published-le-sealed}
use Rattle.geo_world.proofs.Moves.{published_world}
use Rattle.geo_world.proofs.Standings.{ChangesOne, changed-stands}
use Rattle.geo_world.proofs.Asking.{says-makes, region-stands, read-same}
use Rattle.geo_world.proofs.Delivering.{state-held}

-- ---- the region

later_epoch : (p e : ℕ) → p + 1 < e → p < e
later_epoch p e h = omega arith

other_epoch : (p e : ℕ) → p + 1 < e → p + 1 ≡ e → ⊥
other_epoch p e h q = omega arith

next_one : (p e : ℕ) → p < e → e ≤ p + 1 → p + 1 ≡ e
next_one p e a b = omega arith

none_either : (b : Bool) (x : Option Batch) → x ≡ None → cond b None x ≡ None
none_either true x e = refl
none_either false x e = e

-- batches of other epochs stay
stays : (regions number gathered of epoch : ℕ) (x : Option Batch) → (gathered ≡ epoch → ⊥) → cond (is_gathered regions number gathered of epoch) None x ≡ x
stays regions number gathered of epoch x other =
    ap (λ (b : Bool). cond (b && (nat_lt of regions && not (of == number))) None x) (ne_eqb gathered epoch other)

is_gathered_is : (regions number gathered of epoch : ℕ) → gathered ≡ epoch → of < regions → (of ≡ number → ⊥) → is_gathered regions number gathered of epoch ≡ true
is_gathered_is regions number gathered of epoch same within other = grind (arith, nat_tests)

-- no batch of a published epoch is left
cleared_out : (w : World) (number of epoch : ℕ) (old : Region) → IsSound w → number < length w.regions → RegionStandsFor w number old →
    epoch ≤ (region_of w number).published + 1 →
    cond (is_gathered (length w.regions) number ((region_of w number).published + 1) of epoch) None (batch_in old.inbox of epoch) ≡ None
cleared_out w number of epoch old s h r early =
    ⊎_elim
    (λ (late : p < epoch). by (has_arrived (region_of w number) of epoch) refl late)
    (λ (le : epoch ≤ p). none_either gathered (batch_in old.inbox of epoch) (r.cleared of epoch le))
    (cases_lt p epoch)
  where
    p : ℕ
    p = (region_of w number).published

    gathered : Bool
    gathered = is_gathered (length w.regions) number (p + 1) of epoch

    by : (had : Bool) → has_arrived (region_of w number) of epoch ≡ had → p < epoch → cond gathered None (batch_in old.inbox of epoch) ≡ None
    by true is late =
        let sealed = (s.regions number h).arrived of epoch is in
        cond-true gathered None (batch_in old.inbox of epoch) (is_gathered_is (length w.regions) number (p + 1) of epoch (next_one p epoch late early) sealed.known sealed.other)
    by false is late =
        none_either gathered (batch_in old.inbox of epoch)
        (r.holds of epoch late ∙ cond-false (has_arrived (region_of w number) of epoch) (batch_at w.journal of (epoch - 1)) None is)

pub published-stands : (w : World) (number : ℕ) (old new : Region) → IsSound w → number < length w.regions →
    Publishes (length w.regions) number (epochs_of w.journal ((region_of w number).published + 1)) ((region_of w number).published + 1) old new →
    RegionStandsFor w number old → RegionStandsFor (published_world w number) number new
published-stands w number old new s h t r = record {
  log = t.log ∙ r.log;
  opens = t.opens ∙ r.opens;
  room = subst (λ (n : ℕ). n ≤ max 1 w.last) (sym t.opens) r.room;
  waiting = t.waiting ∙ (r.waiting ∙ ap (λ (s : RegionState). s.waiting) (sym same));
  published = t.merged.count ∙ (length_epochs w.journal (p + 1) ∙ ap (λ (s : RegionState). s.published) (sym same));
  merges = t.merges ∙ (r.merges ∙ sym (length-set w.regions number state));
  merged = subst (λ (s : RegionState). IsMergeOf (epochs_of w.journal s.published) new.plain) (sym same) t.merged;
  holds = subst (λ (s : RegionState). HoldsArrived w.journal s new.inbox) (sym same)
      (λ of epoch later. t.inbox of epoch
      ∙ stays (length w.regions) number (p + 1) of epoch (batch_in old.inbox of epoch) (other_epoch p epoch later)
      ∙ r.holds of epoch (later_epoch p epoch later));
  cleared = subst (λ (s : RegionState). IsCleared s new.inbox) (sym same)
      (λ of epoch early. t.inbox of epoch ∙ cleared_out w number of epoch old s h r early);
  numbers = new.sessions.ok.0 ∙ (ap (λ (ss : List KeptSession). length ss) t.sessions ∙ (sym old.sessions.ok.0 ∙ r.numbers));
  sessions = λ q l. ap (λ (ss : List KeptSession). session_state (session_at ss q)) t.sessions ∙ r.sessions q l;
}
  where
    p : ℕ
    p = (region_of w number).published

    state : RegionState
    state = record (region_of w number) { published = (region_of w number).published + 1 }

    v : World
    v = published_world w number

    same : region_of v number ≡ state
    same = state-set_same w.regions number state h

-- ---- which batches the region has

never_own : (b : Bool) → (b ≡ true → ⊥) → b ≡ false
never_own true h = absurd (h refl)
never_own false h = refl

held_is : (had : Bool) (x b : Option Batch) → b ≡ cond had x None → (had ≡ true → is_some x ≡ true) → is_some b ≡ had
held_is true x b is there = ap is_some is ∙ there refl
held_is false x b is there = ap is_some is

sealed_there : (w : World) (number of epoch : ℕ) (s : IsSoundRegion w number) (d : Batch) → has_arrived (region_of w number) of epoch ≡ true →
    is_some (batch_at w.journal of (epoch - 1)) ≡ true
sealed_there w number of epoch s d t =
    ap is_some (slice_get-get_or (log_of w.journal of) (epoch - 1) d (below_sealed epoch (sealed_by w of) sealed.some sealed.sealed))
  where
    sealed : IsSealed w number of epoch
    sealed = s.arrived of epoch t

    below_sealed : (e n : ℕ) → 1 ≤ e → e ≤ n → e - 1 < n
    below_sealed e n a b = omega arith

own_next : (epoch next sealed : ℕ) → 1 ≤ epoch → next ≡ sealed + 1 → nat_lt epoch next ≡ (nat_le 1 epoch && nat_le epoch sealed)
own_next epoch next sealed a b = grind (arith, nat_tests)

own_or : (x y had : Bool) → y ≡ true → had ≡ false → x ≡ ((y && x) || had)
own_or true y had a b = sym (ap₂ (λ (s t : Bool). (s && true) || t) a b)
own_or false y had a b = sym (ap₂ (λ (s t : Bool). (s && false) || t) a b)

other_or : (x y had : Bool) → y ≡ false → had ≡ ((y && x) || had)
other_or x y had a = sym (ap (λ (s : Bool). (s && x) || had) a)

pub next-is : (w : World) (number epoch : ℕ) (r : Region) (d : Batch) → IsSound w → number < length w.regions → RegionStandsFor w number r →
    epoch ≡ (region_of w number).published + 1 → (of : ℕ) → has_next r number epoch of ≡ holds w number of epoch
next-is w number epoch r d s h here is of =
    ⊎_elim
    (λ (e : of ≡ number).
    cond-true (of == number) (nat_lt epoch r.open) (is_some (batch_in r.inbox of epoch)) (eq-eqb of number e)
    ∙ (own_next epoch r.open (sealed_by w number) (some_epoch epoch (region_of w number).published is) here.opens
    ∙ own_or (nat_le 1 epoch && nat_le epoch (sealed_by w number)) (of == number) (has_arrived (region_of w number) of epoch) (eq-eqb of number e)
    (never_own (has_arrived (region_of w number) of epoch) (λ t. ((s.regions number h).arrived of epoch t).other e))))
    (λ (n : of ≡ number → ⊥).
    cond-false (of == number) (nat_lt epoch r.open) (is_some (batch_in r.inbox of epoch)) (ne_eqb of number n)
    ∙ (held_is (has_arrived (region_of w number) of epoch) (batch_at w.journal of (epoch - 1)) (batch_in r.inbox of epoch)
    (here.holds of epoch (after_published epoch (region_of w number).published is))
    (sealed_there w number of epoch (s.regions number h) d)
    ∙ other_or (nat_le 1 epoch && nat_le epoch (sealed_by w number)) (of == number) (has_arrived (region_of w number) of epoch) (ne_eqb of number n)))
    (cases_eq of number)
  where
    some_epoch : (e p : ℕ) → e ≡ p + 1 → 1 ≤ e
    some_epoch e p q = omega arith

    after_published : (e p : ℕ) → e ≡ p + 1 → p < e
    after_published e p q = omega arith

-- as many of them as the world says
pub have-is : (w : World) (number epoch regions : ℕ) (r : Region) (d : Batch) → IsSound w → number < length w.regions → RegionStandsFor w number r →
    epoch ≡ (region_of w number).published + 1 → regions ≡ length w.regions →
    count_by (has_next r number epoch) (numbers_below regions) ≡ have w number epoch
have-is w number epoch regions r d s h here is all =
    ap (λ (n : ℕ). count_by (has_next r number epoch) (numbers_below n)) all
    ∙ count-agree (has_next r number epoch) (λ q. holds w number q epoch) (length w.regions) (λ q l. next-is w number epoch r d s h here is q)

-- ---- the batches that are gathered

mapped_places : (f : ℕ → Option Batch) (g : List Batch → Option Batch) (journal : Journal) (n : ℕ) → n ≤ length journal →
    ((q : ℕ) → q < n → f q ≡ g (get_or journal q [])) → filter_map f (numbers_below n) ≡ filter_map g (take n journal)
mapped_places f g journal zero h same = refl
mapped_places f g journal (suc n) h same =
    filter_map-append f (numbers_below n) (n ∷ [])
    ∙ (ap₂ (λ (xs : List Batch) (o : Option Batch). xs ++ cons_option o [])
    (mapped_places f g journal n (omega arith) (λ q l. same q (omega arith))) (same n (omega arith))
    ∙ (sym (filter_map-append g (take n journal) (get_or journal n [] ∷ []))
    ∙ ap (filter_map g) (sym (take_more journal n [] (omega arith)) ∙ ap (λ (m : ℕ). take m journal) (add-one n))))

next_place : (epoch p : ℕ) → epoch ≡ p + 1 → epoch - 1 ≡ p
next_place epoch p e = omega arith

gathered_is : (w : World) (number epoch p of : ℕ) (r : Region) → RegionStandsFor w number r → epoch ≡ p + 1 → (region_of w number).published ≡ p →
    holds w number of epoch ≡ true → next_batch_of r number epoch of ≡ batch_at w.journal of p
gathered_is w number epoch p of r here is at held =
    ⊎_elim
    (λ (e : of ≡ number).
    cond-true (of == number) (slice_get r.log.items (epoch - 1)) (batch_in r.inbox of epoch) (eq-eqb of number e)
    ∙ (ap₂ (λ (log : List Batch) (i : ℕ). slice_get log i) here.log (next_place epoch p is)
    ∙ ap (λ (q : ℕ). batch_at w.journal q p) (sym e)))
    (λ (n : of ≡ number → ⊥).
    cond-false (of == number) (slice_get r.log.items (epoch - 1)) (batch_in r.inbox of epoch) (ne_eqb of number n)
    ∙ (here.holds of epoch (after epoch p (region_of w number).published is at)
    ∙ (cond-true (has_arrived (region_of w number) of epoch) (batch_at w.journal of (epoch - 1)) None
    (came (of == number) (nat_le 1 epoch && nat_le epoch (sealed_by w number)) (has_arrived (region_of w number) of epoch) (ne_eqb of number n) held)
    ∙ ap (batch_at w.journal of) (next_place epoch p is))))
    (cases_eq of number)
  where
    after : (e q m : ℕ) → e ≡ q + 1 → m ≡ q → m < e
    after e q m a b = omega arith

    came : (own x had : Bool) → own ≡ false → ((own && x) || had) ≡ true → had ≡ true
    came own x had a b = sym (ap (λ (t : Bool). (t && x) || had) a) ∙ b

pub gathered-are : (w : World) (number epoch regions p : ℕ) (r : Region) → IsSound w → number < length w.regions → RegionStandsFor w number r →
    epoch ≡ p + 1 → (region_of w number).published ≡ p → regions ≡ length w.regions → nat_lt (have w number epoch) (length w.regions) ≡ false →
    next_batches r regions number epoch ≡ batches_at w.journal p
gathered-are w number epoch regions p r s h here is at all whole =
    ap (λ (n : ℕ). filter_map (next_batch_of r number epoch) (numbers_below n)) (all ∙ sym s.same)
    ∙ (mapped_places (next_batch_of r number epoch) (λ log. slice_get log p) w.journal (length w.journal) (le_refl (length w.journal))
    (λ q l. gathered_is w number epoch p q r here is at
    (count-all (λ of. holds w number of epoch) (length w.regions) (ltb-false (have w number epoch) (length w.regions) whole) q
    (subst (λ (n : ℕ). q < n) s.same l)))
    ∙ ap (filter_map (λ log. slice_get log p)) (take-length w.journal))

no_batch : Batch
no_batch = record { region = 0; epoch = 0; items = [] }

last_place : (p n : ℕ) → p + 1 ≤ n → p < n
last_place p n h = omega arith

pub is-ready : (w : World) (number epoch regions : ℕ) (r : Region) → IsSound w → w.last < 2 ^ 32 → number < length w.regions → RegionStandsFor w number r →
    epoch ≡ (region_of w number).published + 1 → regions ≡ length w.regions → nat_lt (have w number epoch) (length w.regions) ≡ false →
    IsReady regions number epoch r
is-ready w number epoch regions r s short h here is count whole = record {
  next = is ∙ ap (λ (n : ℕ). n + 1) (sym here.published);
  room = fits epoch p (sealed_by w number) r.open w.last is (published-le-sealed w number s h) here.opens here.room short;
  all = ap (λ (bs : List Batch). length bs) same ∙ (batches_length w.journal p below ∙ (s.same ∙ sym here.merges));
  each = λ of l. there of (subst (λ (n : ℕ). of < n) count l);
  lawful = subst₂ (λ (e : ℕ) (bs : List Batch). AreBatches 0 e bs) (sym is) (sym same) (batches_lawful w.journal p s.lawful below);
}
  where
    p : ℕ
    p = (region_of w number).published

    below : p < last_sealed w.journal
    below = last_place p (last_sealed w.journal) (subst (λ (e : ℕ). e ≤ last_sealed w.journal) is (whole-sealed w number epoch s h whole))

    same : next_batches r regions number epoch ≡ batches_at w.journal p
    same = gathered-are w number epoch regions p r s h here is refl count whole

    -- the batch of each region is there, as it was sealed
    there : (of : ℕ) → of < length w.regions → is_some (next_batch_of r number epoch of) ≡ true
    there of l =
        ap is_some (gathered_is w number epoch p of r here is refl
        (count-all (λ q. holds w number q epoch) (length w.regions) (ltb-false (have w number epoch) (length w.regions) whole) of l)
        ∙ slice_get-get_or (log_of w.journal of) p no_batch (omega (arith, below, last_sealed-le-log w.journal of (subst (λ (n : ℕ). of < n) (sym s.same) l))))

    fits : (e q n o l : ℕ) → e ≡ q + 1 → q ≤ n → o ≡ n + 1 → o ≤ max 1 l → l < 2 ^ 32 → e < 2 ^ 32
    fits e q n o l a b c d f = omega arith

-- ---- what is printed

one_more_fits : (m p n o l : ℕ) → m ≡ p → p ≤ n → o ≡ n + 1 → o ≤ max 1 l → l < 2 ^ 32 → m + 1 < 2 ^ 32
one_more_fits m p n o l a b c d f = omega arith

-- the epoch after the last that is published has 32 bits
pub next-fits : (w : World) (k : Kept) (number : ℕ) (r : Region) → StandsFor w k → number < vec_len k.regions → RegionStandsFor w number r →
    r.plain.epoch + 1 < 2 ^ 32
next-fits w k number r s h here =
    one_more_fits r.plain.epoch (region_of w number).published (sealed_by w number) r.open w.last here.published
    (published-le-sealed w number s.sound (subst (λ (m : ℕ). number < m) s.count h)) here.opens here.room s.short

-- the epoch that the program publishes next
pub next-epoch-is : (w : World) (number epoch : ℕ) (r : Region) → RegionStandsFor w number r →
    epoch ≡ r.plain.epoch + 1 → epoch ≡ (region_of w number).published + 1
next-epoch-is w number epoch r here is = is ∙ ap (λ (n : ℕ). n + 1) here.published

abbrev published_outcomes : World → ℕ → List Outcome
published_outcomes w number = verdicts (epochs_of w.journal ((region_of w number).published + 1))

abbrev published_step : World → ℕ → Stepped
published_step w number = record {
  world = published_world w number;
  lines =
      lines.epoch_published number ((region_of w number).published + 1) (count_by is_committed (published_outcomes w number))
      (count_by (λ o. not (is_committed o)) (published_outcomes w number));
}

abbrev waits_step : World → ℕ → ℕ → Stepped
waits_step w number epoch = says w (lines.region_waits number epoch (have w number epoch) (length w.regions))

pub region-waits-makes : (w : World) (k : Kept) (number epoch found regions : ℕ) (r : Region) (before after : List ℕ) → StandsFor w k →
    number < vec_len k.regions → RegionStandsFor w number r → epoch ≡ r.plain.epoch + 1 →
    found ≡ count_by (has_next r number epoch) (numbers_below regions) → regions ≡ vec_len k.regions → found < regions →
    after ≡ before ++ lines.region_waits number epoch found regions → Makes (publish w number) before after k
region-waits-makes w k number epoch found regions r before after s h here is count all few printed =
    says-makes w k (lines.region_waits number epoch (have w number epoch) (length w.regions)) before after (publish w number) s
    (ap (λ (e : ℕ). if nat_lt (have w number e) (length w.regions) then waits_step w number e else published_step w number) (sym next)
    ∙ cond-true (nat_lt (have w number epoch) (length w.regions)) (waits_step w number epoch) (published_step w number)
    (lt-ltb (have w number epoch) (length w.regions) (subst₂ (λ (a b : ℕ). a < b) found_is regions_are few)))
    (printed ∙ ap₂ (λ (a b : ℕ). before ++ lines.region_waits number epoch a b) found_is regions_are)
  where
    within : number < length w.regions
    within = subst (λ (m : ℕ). number < m) s.count h

    next : epoch ≡ (region_of w number).published + 1
    next = next-epoch-is w number epoch r here is

    regions_are : regions ≡ length w.regions
    regions_are = all ∙ s.count

    found_is : found ≡ have w number epoch
    found_is = count ∙ have-is w number epoch regions r no_batch s.sound within here next regions_are

-- ---- counts

placed_count : (region csn : ℕ) (items : List Candidate) → length (placed_from region csn items) ≡ length items
placed_count region csn [] = refl
placed_count region csn (c ∷ items) = ap suc (placed_count region (csn + 1) items)

few_more : (a b c n : ℕ) → c ≡ a + b → a ≤ MAX_CANDIDATES → b ≤ MAX_CANDIDATES * n → c ≤ MAX_CANDIDATES * suc n
few_more a b c n e h k = omega arith

candidates_few : (region epoch : ℕ) (bs : List Batch) → AreBatches region epoch bs → length (candidates_of bs) ≤ MAX_CANDIDATES * length bs
candidates_few region epoch [] all = omega arith
candidates_few region epoch (b ∷ bs) all =
    few_more (length (placed_from b.region 0 b.items)) (length (candidates_of bs)) (length (placed_from b.region 0 b.items ++ candidates_of bs)) (length bs)
    (length-append (placed_from b.region 0 b.items) (candidates_of bs))
    (subst (λ (n : ℕ). n ≤ MAX_CANDIDATES) (sym (placed_count b.region 0 b.items)) all.0.few)
    (candidates_few (region + 1) epoch bs all.1)

count_fits : (count n m regions : ℕ) → count ≤ n → n ≡ m → m ≤ MAX_CANDIDATES * regions → regions ≤ MAX_REGIONS → count < 2 ^ 32
count_fits count n m regions a b c d = omega arith

-- a count of verdicts fits 32 bits
verdicts_fit : (test : Outcome → Bool) (epoch : ℕ) (bs : List Batch) (older : Epochs) (regions : ℕ) → AreBatches 0 epoch bs → length bs ≡ regions →
    regions ≤ MAX_REGIONS → count_by test (verdicts (candidates_of bs ∷ older)) < 2 ^ 32
verdicts_fit test epoch bs older regions all count few =
    count_fits (count_by test (verdicts (candidates_of bs ∷ older))) (length (verdicts (candidates_of bs ∷ older))) (length (candidates_of bs)) regions
    (count_by-le-length test (verdicts (candidates_of bs ∷ older)))
    (length-map (candidates_of bs) _)
    (subst (λ (n : ℕ). length (candidates_of bs) ≤ MAX_CANDIDATES * n) count (candidates_few 0 epoch bs all))
    few

whole_is : (found regions a b : ℕ) → regions ≤ found → found ≡ a → regions ≡ b → b ≤ a
whole_is found regions a b h p q = omega arith

-- where the batch of every region is here, the region may publish
pub all-ready : (w : World) (k : Kept) (number epoch found regions : ℕ) (r : Region) → StandsFor w k → number < vec_len k.regions → RegionStandsFor w number r →
    epoch ≡ r.plain.epoch + 1 → found ≡ count_by (has_next r number epoch) (numbers_below regions) → regions ≡ vec_len k.regions → regions ≤ found →
    (nat_lt (have w number epoch) (length w.regions) ≡ false) × IsReady regions number epoch r
all-ready w k number epoch found regions r s h here is count all enough = (whole, is-ready w number epoch regions r s.sound s.short within here next (all ∙ s.count) whole)
  where
    within : number < length w.regions
    within = subst (λ (m : ℕ). number < m) s.count h

    next : epoch ≡ (region_of w number).published + 1
    next = next-epoch-is w number epoch r here is

    whole : nat_lt (have w number epoch) (length w.regions) ≡ false
    whole = le-ltb (have w number epoch) (length w.regions)
        (whole_is found regions (have w number epoch) (length w.regions) enough
        (count ∙ have-is w number epoch regions r no_batch s.sound within here next (all ∙ s.count)) (all ∙ s.count))

-- so few verdicts are told that 32 bits count them
verdicts-fit : (test : Outcome → Bool) (w : World) (k : Kept) (number epoch regions : ℕ) (r : Region) (outcomes : List Outcome) → StandsFor w k →
    RegionStandsFor w number r → IsReady regions number epoch r →
    outcomes ≡ verdicts (candidates_of (next_batches r regions number epoch) ∷ published_epochs w number) → count_by test outcomes < 2 ^ 32
verdicts-fit test w k number epoch regions r outcomes s here ready told =
    subst (λ (os : List Outcome). count_by test os < 2 ^ 32) (sym told)
    (verdicts_fit test epoch (next_batches r regions number epoch) (published_epochs w number) (length w.regions) ready.lawful (ready.all ∙ here.merges) s.sound.few)

-- what one read of the region tells, the next does too
pub read-ready : (k : Kept) (number epoch found regions : ℕ) (r q : Region) → IsSomeWorld k → number < vec_len k.regions →
    r ≡ get_or k.regions.items number r → q ≡ get_or k.regions.items number q → epoch ≡ r.plain.epoch + 1 →
    found ≡ count_by (has_next r number epoch) (numbers_below regions) → regions ≡ vec_len k.regions → regions ≤ found → IsReady regions number epoch q
read-ready k number epoch found regions r q some h a b is count all enough =
    subst (λ (x : Region). IsReady regions number epoch x) (read-same k number r q h a b)
    (all-ready some.0 k number epoch found regions r some.1 h (region-stands some.0 k number r some.1 h a) is count all enough).1

pub read-fits : (test : Outcome → Bool) (k : Kept) (number epoch regions : ℕ) (r : Region) (outcomes : List Outcome) → IsSomeWorld k → number < vec_len k.regions →
    r ≡ get_or k.regions.items number r → IsReady regions number epoch r →
    ((epochs : Epochs) → IsMergeOf epochs r.plain → outcomes ≡ verdicts (candidates_of (next_batches r regions number epoch) ∷ epochs)) →
    count_by test outcomes < 2 ^ 32
read-fits test k number epoch regions r outcomes some h at ready told =
    verdicts-fit test some.0 k number epoch regions r outcomes some.1 here ready (told (published_epochs some.0 number) here.merged)
  where
    here : RegionStandsFor some.0 number r
    here = region-stands some.0 k number r some.1 h at

pub published-makes : (w : World) (k n : Kept) (number epoch found regions commits aborts : ℕ) (outcomes : List Outcome) (old new : Region) (before after : List ℕ) →
    StandsFor w k → number < vec_len k.regions → slice_get k.regions.items number ≡ Some old →
    epoch ≡ old.plain.epoch + 1 →
    found ≡ count_by (has_next old number epoch) (numbers_below regions) → regions ≡ vec_len k.regions → regions ≤ found →
    ((epochs : Epochs) → IsMergeOf epochs old.plain → outcomes ≡ verdicts (candidates_of (next_batches old regions number epoch) ∷ epochs)) →
    ((epochs : Epochs) → IsMergeOf epochs old.plain → Publishes regions number (candidates_of (next_batches old regions number epoch) ∷ epochs) epoch old new) →
    ChangesOne number new k n → n.packets.items ≡ k.packets.items →
    commits ≡ count_by is_committed outcomes → aborts ≡ count_by (λ o. not (is_committed o)) outcomes →
    after ≡ before ++ lines.epoch_published number epoch commits aborts → Makes (publish w number) before after n
published-makes w k n number epoch found regions commits aborts outcomes old new before after s h at is count all enough told published changes packets
    committed aborted printed =
    subst (λ (step : Stepped). Makes step before after n) (sym step_is)
    (record {
      lines = printed ∙ (ap₂ (λ (a b : ℕ). before ++ lines.epoch_published number epoch a b)
          (committed ∙ ap (count_by is_committed) outcomes_are)
          (aborted ∙ ap (count_by (λ o. not (is_committed o))) outcomes_are)
          ∙ ap (λ (e : ℕ). before ++ lines.epoch_published number e (count_by is_committed (published_outcomes w number))
          (count_by (λ o. not (is_committed o)) (published_outcomes w number))) next);
      world = changed-stands w (published_world w number) k n number new s changes
          (published-stands w number old new s.sound within
          (subst (λ (n : ℕ). Publishes n number (epochs_of w.journal ((region_of w number).published + 1)) ((region_of w number).published + 1) old new) (all ∙ s.count)
          (subst₂ (λ (es : Epochs) (e : ℕ). Publishes regions number es e old new) epochs_are next (published (published_epochs w number) here.merged))) here)
          (λ q other below. state-held w number state q other)
          (published-sound w number within (subst (λ (e : ℕ). nat_lt (have w number e) (length w.regions) ≡ false) next whole) s.sound)
          refl
          (length-set w.regions number state)
          (ap (map packet_state) packets ∙ s.packets)
          (subst (All (IsAsSealed w.journal)) (sym packets) s.carried);
    })
  where
    p : ℕ
    p = (region_of w number).published

    state : RegionState
    state = record (region_of w number) { published = (region_of w number).published + 1 }

    within : number < length w.regions
    within = subst (λ (m : ℕ). number < m) s.count h

    here : RegionStandsFor w number old
    here = s.regions number old at

    next : epoch ≡ (region_of w number).published + 1
    next = next-epoch-is w number epoch old here is

    whole : nat_lt (have w number epoch) (length w.regions) ≡ false
    whole = (all-ready w k number epoch found regions old s h here is count all enough).0

    epochs_are : candidates_of (next_batches old regions number epoch) ∷ published_epochs w number ≡ epochs_of w.journal ((region_of w number).published + 1)
    epochs_are = ap (λ (bs : List Batch). candidates_of bs ∷ published_epochs w number)
        (gathered-are w number epoch regions p old s.sound within here next refl (all ∙ s.count) whole)
        ∙ ap (epochs_of w.journal) (sym (add-one p))

    outcomes_are : outcomes ≡ published_outcomes w number
    outcomes_are = told (published_epochs w number) here.merged ∙ ap verdicts epochs_are

    step_is : publish w number ≡ published_step w number
    step_is = cond-false (nat_lt (have w number ((region_of w number).published + 1)) (length w.regions))
        (waits_step w number ((region_of w number).published + 1)) (published_step w number)
        (subst (λ (e : ℕ). nat_lt (have w number e) (length w.regions) ≡ false) next whole)
