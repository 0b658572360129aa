-- Laws: a region stands lawfully after each entry that it accepts.
use Rattle.std.proofs.Common.{◌≡◌, ℕ, zero, suc, ◌+◌, ◌-◌, ◌<◌, ◌≤◌, Bool, true, false, not, cond, ◌&&◌, ◌||◌, ◌==◌, Option, None, Some, List, [], ◌∷◌, ◌++◌, length, map, refl, sym, ap, ◌∙◌, subst, arith, length-append, true≢false, ◌⊎◌, inl, inr}
use Rattle.std.specs.Prelude.{All, nat_lt, nat_le, is_some}
use Rattle.std.specs.List.{AllByRecursion, filter, slice_get}
use Rattle.std.specs.List.Sorted.{IsStrictlySortedBy}
use Rattle.std.specs.Ordering.{nat_cmp, ordering_then}
use Rattle.std.specs.declared.cmp.Ordering.{Ordering}
use Rattle.std.specs.declared.cmp.Ordering.TheVariants.{Less}
use Rattle.std.proofs.lemmas.Bool.{and_from, cases_lt, eqb-true, eq-eqb}
use Rattle.std.proofs.lemmas.Bool.Decides.{nat_tests}
use Rattle.std.proofs.lemmas.List.Elements.{All-nil, All-push, All-weaker, All-filter, All-from_recursion, recursion_from_All, filter_passes}
use Rattle.geo_base.specs.declared.limits.TheConstants.{MAX_AGE, MAX_CANDIDATES, MAX_BATCH_BYTES}
use Rattle.geo_schema.specs.Schemas.{Tables}
use Rattle.write_set.specs.declared.batch.Batch.{Batch}
use Rattle.write_set.specs.declared.candidate.Candidate.{Candidate}
use Rattle.write_set.specs.Journal.{IsCandidate}
use Rattle.write_set.specs.BatchSizes.{batch_size}
use Rattle.write_set.specs.laws.Among.{and_true, or_false}
use Rattle.set_codec.specs.declared.format.Format.TheVariants.{Ggb2}
use Rattle.set_codec.specs.Fits.{FitsTable, FitsTables, FitsRegions, HaveCells}
use Rattle.set_codec.specs.laws.Lengths.{size_is_length}
use Rattle.own_log.specs.Logs.{IsOfLog, AreOfLog, AreOfLogFrom}
use Rattle.own_log.specs.laws.Logs.{of_log_more}
use Rattle.epoch_inbox.specs.declared.arrival.Arrival.TheVariants.{New, Known, Far}
use Rattle.epoch_inbox.specs.Inbox.{place_of, place_cmp, is_at, held_at, is_held, with_batch, arrival_of, IsWhole}
use Rattle.epoch_inbox.specs.laws.Held.{all_with, put_there, taken_gone, held_counted}
use Rattle.epoch_inbox.specs.laws.Rising.{lawful_with, lawful_without}
use Rattle.region_core.specs.Region.{Standing, open_epoch, next_epoch, inbox_of, batch_for, next_batches}
use Rattle.region_core.specs.Entries.{Txn, Seal, Arrive, Publish, Crash, next_batch, down_with, started, after}
use Rattle.region_core.specs.Refusals.{is_full, submit_refusal, seal_refusal}
use Rattle.region_core.specs.Lawful.{IsOpenIn, IsHeldIn, IsStanding, IsSubmittable, StandsAfterEntry, StandsAfterHistory}

pub up_not_down : (up : Bool) → up ≡ true → up ≡ false → ⊥
up_not_down true is not = cc
up_not_down false is not = cc

-- ---- tests that let pass

no_fault : {E : Type 0} → (e : E) → Some e ≡ None → ⊥
no_fault e is = cc

-- what isn't refused is up
pub is_up : {E : Type 0} → (down : E) (up : Bool) (rest : Option E) → cond up rest (Some down) ≡ None → (up ≡ true) × (rest ≡ None)
is_up down true rest none = (refl, none)
is_up down false rest none = absurd (no_fault down none)

-- a test that lets pass, and what comes behind it
pub passes : {E : Type 0} → (test : Bool) (fault : E) (rest : Option E) → cond test (Some fault) rest ≡ None → (test ≡ false) × (rest ≡ None)
passes true fault rest none = absurd (no_fault fault none)
passes false fault rest none = (refl, none)

-- a candidate that isn't refused may be one more
pub record HasRoom (r : Standing) (c : Candidate) : Type 0 where
  pub up : r.up ≡ true
  pub young : open_epoch r ≤ c.start + MAX_AGE
  pub count : length r.open_candidates < MAX_CANDIDATES
  pub size : batch_size (r.open_candidates ++ c ∷ []) ≤ MAX_BATCH_BYTES

pub has_room : (r : Standing) (c : Candidate) → submit_refusal c r ≡ None → HasRoom r c
has_room r c none =
    let up = is_up _ r.up _ none in
    let old = passes (nat_lt MAX_AGE (open_epoch r - c.start)) _ _ up.1 in
    let full = passes (is_full r.open_candidates c) _ _ old.1 in
    let tests = or_false (nat_le MAX_CANDIDATES (length r.open_candidates)) (nat_lt MAX_BATCH_BYTES (batch_size (r.open_candidates ++ c ∷ []))) full.0 in
    record {
      up = up.0;
      young = young (open_epoch r) c.start old.0;
      count = below (length r.open_candidates) tests.0;
      size = upto (batch_size (r.open_candidates ++ c ∷ [])) tests.1;
    }
  where
    young : (epoch start : ℕ) → nat_lt MAX_AGE (epoch - start) ≡ false → epoch ≤ start + MAX_AGE
    young epoch start e = let within : epoch - start ≤ MAX_AGE = grind (arith, nat_tests) in omega (arith, within)

    below : (n : ℕ) → nat_le MAX_CANDIDATES n ≡ false → n < MAX_CANDIDATES
    below n e = grind (arith, nat_tests)

    upto : (n : ℕ) → nat_lt MAX_BATCH_BYTES n ≡ false → n ≤ MAX_BATCH_BYTES
    upto n e = grind (arith, nat_tests)

-- a region that doesn't refuse to seal is up, and its epoch isn't the last
pub record CanSeal (r : Standing) : Type 0 where
  pub up : r.up ≡ true
  pub before : open_epoch r < r.last

pub can_seal : (r : Standing) → seal_refusal r ≡ None → CanSeal r
can_seal r none =
    let up = is_up _ r.up _ none in
    let last = passes (nat_le r.last (open_epoch r)) _ _ up.1 in
    record { up = up.0; before = below r.last (open_epoch r) last.0 }
  where
    below : (last epoch : ℕ) → nat_le last epoch ≡ false → epoch < last
    below last epoch e = grind (arith, nat_tests)

-- a batch that is new is of an epoch that may arrive, and none is held at its place
pub record IsNewIn (r : Standing) (batch : Batch) : Type 0 where
  pub later : r.published < batch.epoch
  pub near : batch.epoch ≤ r.published + MAX_AGE
  pub free : is_held r.held batch.epoch batch.region ≡ false

pub is_new : (r : Standing) (batch : Batch) → arrival_of r.held r.published batch ≡ New → IsNewIn r batch
is_new r batch new = by (nat_le batch.epoch r.published) (is_held r.held batch.epoch batch.region) (nat_lt (r.published + MAX_AGE) batch.epoch) refl refl refl new
  where
    above : (m n : ℕ) → nat_le m n ≡ false → n < m
    above m n e = grind (arith, nat_tests)

    upto : (m n : ℕ) → nat_lt m n ≡ false → n ≤ m
    upto m n e = grind (arith, nat_tests)

    by : (s t u : Bool) → nat_le batch.epoch r.published ≡ s → is_held r.held batch.epoch batch.region ≡ t → nat_lt (r.published + MAX_AGE) batch.epoch ≡ u →
        cond (s || t) Known (cond u (Far (r.published + MAX_AGE)) New) ≡ New → IsNewIn r batch
    by true t u old held far e = absurd (cc)
    by false true u old held far e = absurd (cc)
    by false false true old held far e = absurd (cc)
    by false false false old held far e = record { later = above batch.epoch r.published old; near = upto (r.published + MAX_AGE) batch.epoch far; free = held }

-- ---- places of a log

module _ {X : Type 0} where
  pub get_end : (xs : List X) (x : X) → slice_get (xs ++ x ∷ []) (length xs) ≡ Some x
  get_end [] x = refl
  get_end (y ∷ ys) x = get_end ys x

  pub get_before : (xs : List X) (x : X) (place : ℕ) → (place ≡ length xs → ⊥) → slice_get (xs ++ x ∷ []) place ≡ slice_get xs place
  get_before [] x zero not_end = absurd (not_end refl)
  get_before [] x (suc place) not_end = refl
  get_before (y ∷ ys) x zero not_end = refl
  get_before (y ∷ ys) x (suc place) not_end = get_before ys x place (λ e. not_end (ap suc e))

  pub get_some : (xs : List X) (place : ℕ) → is_some (slice_get xs place) ≡ true → place < length xs
  get_some [] place e = absurd (cc)
  get_some (y ∷ ys) zero e = omega arith
  get_some (y ∷ ys) (suc place) e = let rest : place < length ys = get_some ys place e in omega (arith, rest)

-- the batch of the epoch behind a log's
pub batch_last : (log : List Batch) (batch : Batch) (epoch : ℕ) → epoch ≡ length log + 1 → batch_for (log ++ batch ∷ []) epoch ≡ Some batch
batch_last log batch zero is = absurd (omega (arith, is))
batch_last log batch (suc place) is =
    let same : place ≡ length log = omega (arith, is) in
    ap (slice_get (log ++ batch ∷ [])) same ∙ get_end log batch

pub batch_before : (log : List Batch) (batch : Batch) (epoch : ℕ) → (epoch ≡ length log + 1 → ⊥) → batch_for (log ++ batch ∷ []) epoch ≡ batch_for log epoch
batch_before log batch zero apart = refl
batch_before log batch (suc place) apart = get_before log batch place (λ e. apart (omega (arith, e)))

pub batch_there : (log : List Batch) (epoch : ℕ) → is_some (batch_for log epoch) ≡ true → epoch ≤ length log
batch_there log zero e = omega arith
batch_there log (suc place) e = let within : place < length log = get_some log place e in omega (arith, within)

-- ---- a log is what a region that starts on it holds

module _ (tables : Tables) (regions region : ℕ) where
  log_before : (epoch place : ℕ) (log : List Batch) → epoch ≤ place → AreOfLogFrom tables regions region place log → AllByRecursion (λ p. place_cmp (epoch, region) p ≡ Less) (map place_of log)
  log_before epoch place [] upto h = tt
  log_before epoch place (b ∷ log) upto h =
      let later : epoch < b.epoch = omega (arith, upto, h.0.epoch) in
      let less : nat_cmp epoch b.epoch ≡ Less = grind (arith, nat_tests) in
      (ap (λ (o : Ordering). ordering_then o (nat_cmp region b.region)) less, log_before epoch (place + 1) log (omega (arith, upto)) h.1)

  log_rises : (place : ℕ) (log : List Batch) → AreOfLogFrom tables regions region place log → IsStrictlySortedBy place_cmp (map place_of log)
  unfolding IsStrictlySortedBy
  log_rises place [] h = tt
  log_rises place (b ∷ log) h =
      (subst (λ (p : ℕ × ℕ). AllByRecursion (λ q. place_cmp p q ≡ Less) (map place_of log)) (λ i. (sym h.0.epoch i, sym h.0.region i)) (log_before (place + 1) (place + 1) log (omega arith) h.1), log_rises (place + 1) log h.1)

  log_below : region < regions → (place : ℕ) (log : List Batch) → AreOfLogFrom tables regions region place log → AllByRecursion (λ b. b.region < regions) log
  log_below there place [] h = tt
  log_below there place (b ∷ log) h = (omega (arith, there, h.0.region), log_below there (place + 1) log h.1)

  log_held : (r : Standing) → r.tables ≡ tables → r.regions ≡ regions → r.number ≡ region → r.published ≡ 0 → (place : ℕ) (log : List Batch) → AreOfLogFrom tables regions region place log → AllByRecursion (IsHeldIn r) log
  log_held r t n m p place [] h = tt
  log_held r t n m p place (b ∷ log) h = (
    record {
      later = omega (arith, p, h.0.epoch);
      near = λ other. absurd (other (h.0.region ∙ sym m));
      fits = subst (λ (x : Tables). FitsRegions x r.regions b) (sym t) (subst (λ (x : ℕ). FitsRegions tables x b) (sym n) h.0.fits);
    },
    log_held r t n m p (place + 1) log h.1,
  )

  log_found : (place : ℕ) (log : List Batch) (at : ℕ) → AreOfLogFrom tables regions region place log → held_at log (place + at + 1) region ≡ slice_get log at
  log_found place [] at h = refl
  log_found place (b ∷ log) zero h =
      let same : (place + 0 + 1 == b.epoch) ≡ true = eq-eqb (place + 0 + 1) b.epoch (omega (arith, h.0.epoch)) in
      let own : (region == b.region) ≡ true = eq-eqb region b.region (sym h.0.region) in
      ap (λ (t : Bool). cond t (Some b) (held_at log (place + 0 + 1) region)) (and_from (place + 0 + 1 == b.epoch) (region == b.region) same own)
  log_found place (b ∷ log) (suc at) h =
      let next : place + suc at + 1 ≡ place + 1 + at + 1 = omega arith in
      let apart : (place + suc at + 1 == b.epoch) ≡ false = differ (place + suc at + 1) b.epoch (omega (arith, h.0.epoch)) in
      ap (λ (t : Bool). cond (t && (region == b.region)) (Some b) (held_at log (place + suc at + 1) region)) apart
      ∙ ap (λ (e : ℕ). held_at log e region) next
      ∙ log_found (place + 1) log at h.1
    where
      differ : (m n : ℕ) → n < m → (m == n) ≡ false
      differ m n less = grind (arith, nat_tests)

-- ---- entries

pub down_stands : (r : Standing) (life : ℕ) → IsStanding r → IsStanding (down_with r.number r.regions r.tables r.last life r.log)
unfolding IsStrictlySortedBy
down_stands r life h = record {
  few = h.few;
  there = h.there;
  schema = h.schema;
  last = h.last;
  log = h.log;
  sealed = omega arith;
  open_candidates = All-nil (IsOpenIn (down_with r.number r.regions r.tables r.last life r.log));
  count = omega arith;
  size = omega arith;
  places = record { rising = tt; below = tt };
  held = All-nil (IsHeldIn (down_with r.number r.regions r.tables r.last life r.log));
  own = λ up. absurd (cc);
  down = λ down. refl;
}

crashed_stands : (r : Standing) → IsStanding r → IsStanding (after (Crash None) r)
crashed_stands r h = by r.up
  where
    by : (b : Bool) → IsStanding (cond b (down_with r.number r.regions r.tables r.last (r.life + 1) r.log) r)
    by true = down_stands r (r.life + 1) h
    by false = h

pub started_stands : (log : List Batch) (r : Standing) → IsStanding r → AreOfLog r.tables r.regions r.number log → IsStanding (started log r)
started_stands log r h of_log = record {
  few = h.few;
  there = h.there;
  schema = h.schema;
  last = h.last;
  log = of_log;
  sealed = omega arith;
  open_candidates = All-nil (IsOpenIn (started log r));
  count = omega arith;
  size = omega arith;
  places = record { rising = log_rises r.tables r.regions r.number 0 log of_log; below = log_below r.tables r.regions r.number h.there 0 log of_log };
  held = All-from_recursion (IsHeldIn (started log r)) log (log_held r.tables r.regions r.number (started log r) refl refl refl refl 0 log of_log);
  own = λ up epoch later. found epoch later;
  down = λ down. absurd (cc);
}
  where
    found : (epoch : ℕ) → 0 < epoch → held_at log epoch r.number ≡ batch_for log epoch
    found zero later = absurd (omega (arith, later))
    found (suc at) later =
        let same : suc at ≡ 0 + at + 1 = omega arith in
        ap (λ (e : ℕ). held_at log e r.number) same ∙ log_found r.tables r.regions r.number 0 log at of_log

restarted_stands : (log : List Batch) (r : Standing) → IsStanding r → AreOfLog r.tables r.regions r.number log → IsStanding (after (Crash (Some log)) r)
restarted_stands log r h of_log = by r.up
  where
    by : (b : Bool) → IsStanding (started log (cond b (down_with r.number r.regions r.tables r.last (r.life + 1) r.log) r))
    by true = started_stands log (down_with r.number r.regions r.tables r.last (r.life + 1) r.log) (down_stands r (r.life + 1) h) of_log
    by false = started_stands log r h of_log

txn_stands : (r : Standing) (c : Candidate) → IsStanding r → IsSubmittable r c → HaveCells c → HasRoom r c → IsStanding (after (Txn c) r)
txn_stands r c h can cells room = record {
  few = h.few;
  there = h.there;
  schema = h.schema;
  last = h.last;
  log = h.log;
  sealed = h.sealed;
  open_candidates = All-push (IsOpenIn (after (Txn c) r)) r.open_candidates c
      (All-weaker (IsOpenIn r) (IsOpenIn (after (Txn c) r)) (λ d o. record { lawful = o.lawful; fits = o.fits; cells = o.cells }) r.open_candidates h.open_candidates)
      (record { lawful = record { earlier = omega (arith, can.started, h.sealed); young = room.young; some = can.some; lawful = can.lawful }; fits = can.fits; cells = cells });
  count = omega (arith, room.count, length-append r.open_candidates (c ∷ []));
  size = room.size;
  places = h.places;
  held = All-weaker (IsHeldIn r) (IsHeldIn (after (Txn c) r)) (λ b k. record { later = k.later; near = k.near; fits = k.fits }) r.held h.held;
  own = h.own;
  down = λ down. absurd (up_not_down r.up room.up down);
}

sealed_stands : (r : Standing) → IsStanding r → CanSeal r → IsStanding (after (Seal (next_batch r)) r)
sealed_stands r h can = record {
  few = h.few;
  there = h.there;
  schema = h.schema;
  last = h.last;
  log = of_log_more r.tables r.regions r.number 0 r.log (next_batch r) h.log (subst (λ (n : ℕ). IsOfLog r.tables r.regions r.number n (next_batch r)) (omega arith) of_log);
  sealed = omega (arith, h.sealed, length-append r.log (next_batch r ∷ []));
  open_candidates = All-nil (IsOpenIn (after (Seal (next_batch r)) r));
  count = omega arith;
  size = omega arith;
  places = lawful_with (inbox_of r) (next_batch r) h.places h.there;
  held = All-from_recursion (IsHeldIn (after (Seal (next_batch r)) r)) (with_batch r.held (next_batch r))
      (all_with (IsHeldIn (after (Seal (next_batch r)) r)) r.held (next_batch r)
      (recursion_from_All (IsHeldIn (after (Seal (next_batch r)) r)) r.held (All-weaker (IsHeldIn r) (IsHeldIn (after (Seal (next_batch r)) r)) (λ b k. record { later = k.later; near = k.near; fits = k.fits }) r.held h.held))
      (record { later = omega (arith, h.sealed); near = λ other. absurd (other refl); fits = of_log.fits }));
  own = λ up epoch later. put_there r.held (next_batch r) epoch r.number ∙ found epoch later (is_at epoch r.number (next_batch r)) refl;
  down = λ down. absurd (up_not_down r.up can.up down);
}
  where
    of_log : IsOfLog r.tables r.regions r.number (length r.log) (next_batch r)
    of_log = record {
      fits = record {
        here = h.there;
        fits = record {
          region = omega (arith, h.there, h.few);
          sealable = (omega arith, omega (arith, can.before, h.last));
          lawful = record { region = refl; epoch = refl; few = h.count; lawful = All-weaker (IsOpenIn r) (IsCandidate (open_epoch r)) (λ c o. o.lawful) r.open_candidates h.open_candidates };
          items = All-weaker (IsOpenIn r) (FitsTables r.tables) (λ c o. o.fits) r.open_candidates h.open_candidates;
          few = subst (λ (n : ℕ). n ≤ MAX_BATCH_BYTES)
              (sym (size_is_length Ggb2 r.tables (next_batch r) h.schema (All-weaker (IsOpenIn r) (λ c. All (FitsTable r.tables) c.set) (λ c o. o.fits.changes) r.open_candidates h.open_candidates))) h.size;
        };
        cells = All-weaker (IsOpenIn r) HaveCells (λ c o. o.cells) r.open_candidates h.open_candidates;
      };
      region = refl;
      epoch = refl;
    }

    found : (epoch : ℕ) → r.published < epoch → (t : Bool) → is_at epoch r.number (next_batch r) ≡ t →
        cond t (Some (next_batch r)) (held_at r.held epoch r.number) ≡ batch_for (r.log ++ next_batch r ∷ []) epoch
    found epoch later true is =
        let same : epoch ≡ open_epoch r = eqb-true epoch (open_epoch r) (and_true (epoch == open_epoch r) (r.number == r.number) is).0 in
        sym (batch_last r.log (next_batch r) epoch same)
    found epoch later false is =
        h.own can.up epoch later
        ∙ sym (batch_before r.log (next_batch r) epoch (λ same. true≢false (sym (and_from (epoch == open_epoch r) (r.number == r.number) (eq-eqb epoch (open_epoch r) same) (eq-eqb r.number r.number refl)) ∙ is)))

arrived_stands : (r : Standing) (batch : Batch) → IsStanding r → r.up ≡ true → FitsRegions r.tables r.regions batch → (batch.region ≡ r.number → ⊥) → IsNewIn r batch → IsStanding (after (Arrive batch) r)
arrived_stands r batch h up fits other new = record {
  few = h.few;
  there = h.there;
  schema = h.schema;
  last = h.last;
  log = h.log;
  sealed = h.sealed;
  open_candidates = All-weaker (IsOpenIn r) (IsOpenIn (after (Arrive batch) r)) (λ d o. record { lawful = o.lawful; fits = o.fits; cells = o.cells }) r.open_candidates h.open_candidates;
  count = h.count;
  size = h.size;
  places = lawful_with (inbox_of r) batch h.places fits.here;
  held = All-from_recursion (IsHeldIn (after (Arrive batch) r)) (with_batch r.held batch)
      (all_with (IsHeldIn (after (Arrive batch) r)) r.held batch
      (recursion_from_All (IsHeldIn (after (Arrive batch) r)) r.held (All-weaker (IsHeldIn r) (IsHeldIn (after (Arrive batch) r)) (λ b k. record { later = k.later; near = k.near; fits = k.fits }) r.held h.held))
      (record { later = new.later; near = λ _. new.near; fits = fits }));
  own = λ up epoch beyond. put_there r.held batch epoch r.number
      ∙ ap (λ (t : Bool). cond t (Some batch) (held_at r.held epoch r.number)) (elsewhere epoch)
      ∙ h.own up epoch beyond;
  down = λ down. absurd (up_not_down r.up up down);
}
  where
    elsewhere : (epoch : ℕ) → is_at epoch r.number batch ≡ false
    elsewhere epoch = by (epoch == batch.epoch) (r.number == batch.region) refl
      where
        by : (s t : Bool) → (r.number == batch.region) ≡ t → (s && t) ≡ false
        by false t is = refl
        by true false is = refl
        by true true is = absurd (other (sym (eqb-true r.number batch.region is)))

published_stands : (r : Standing) → IsStanding r → r.up ≡ true → length (next_batches r) ≡ r.regions → IsStanding (after (Publish (next_epoch r)) r)
published_stands r h up whole = record {
  few = h.few;
  there = h.there;
  schema = h.schema;
  last = h.last;
  log = h.log;
  sealed = batch_there r.log (next_epoch r) own_there;
  open_candidates = All-weaker (IsOpenIn r) (IsOpenIn (after (Publish (next_epoch r)) r)) (λ d o. record { lawful = o.lawful; fits = o.fits; cells = o.cells }) r.open_candidates h.open_candidates;
  count = h.count;
  size = h.size;
  places = lawful_without (inbox_of r) (next_epoch r) h.places;
  held = λ k d within. later_still _ (All-filter (λ b. not (next_epoch r == b.epoch)) (IsHeldIn r) r.held h.held k d within) (filter_passes (λ b. not (next_epoch r == b.epoch)) r.held k d within);
  own = λ is_up epoch later. taken_gone r.held (next_epoch r) epoch r.number
      ∙ ap (λ (t : Bool). cond t None (held_at r.held epoch r.number)) (apart epoch later)
      ∙ h.own up epoch (omega (arith, later));
  down = λ down. absurd (up_not_down r.up up down);
}
  where
    all_held : IsWhole (inbox_of r) (next_epoch r)
    all_held = (held_counted (inbox_of r) (next_epoch r) h.places).all.0 whole

    own_there : is_some (batch_for r.log (next_epoch r)) ≡ true
    own_there = ap is_some (sym (h.own up (next_epoch r) (omega arith))) ∙ all_held r.number h.there

    later_still : (b : Batch) → IsHeldIn r b → not (next_epoch r == b.epoch) ≡ true → IsHeldIn (after (Publish (next_epoch r)) r) b
    later_still b k other = record { later = by (next_epoch r == b.epoch) refl other; near = λ apart. omega (arith, k.near apart); fits = k.fits }
      where
        higher : (p e : ℕ) → p < e → (p + 1 ≡ e → ⊥) → p + 1 < e
        higher p e less apart = by_cases (cases_lt (p + 1) e)
          where
            by_cases : (p + 1 < e) ⊎ (e ≤ p + 1) → p + 1 < e
            by_cases (inl above) = above
            by_cases (inr upto) = absurd (apart (omega (arith, less, upto)))

        by : (t : Bool) → (next_epoch r == b.epoch) ≡ t → not t ≡ true → r.published + 1 < b.epoch
        by true is e = absurd (cc)
        by false is e = let apart : next_epoch r ≡ b.epoch → ⊥ = λ same. true≢false (sym (eq-eqb (next_epoch r) b.epoch same) ∙ is) in higher r.published b.epoch k.later apart

    apart : (epoch : ℕ) → r.published + 1 < epoch → (next_epoch r == epoch) ≡ false
    apart epoch later = grind (arith, nat_tests)

-- ---- all entries

pub stands_after : StandsAfterEntry
stands_after r (Txn c) h (can, cells, none) = txn_stands r c h can cells (has_room r c none)
stands_after r (Seal batch) h (none, is) = subst (λ (b : Batch). IsStanding (after (Seal b) r)) (sym is) (sealed_stands r h (can_seal r none))
stands_after r (Arrive batch) h (up, another, new) = arrived_stands r batch h up another.0 another.1 (is_new r batch new)
stands_after r (Publish epoch) h (up, is, whole) = subst (λ (e : ℕ). IsStanding (after (Publish e) r)) (sym is) (published_stands r h up whole)
stands_after r (Crash None) h accepted = crashed_stands r h
stands_after r (Crash (Some log)) h accepted = restarted_stands log r h accepted

pub stands_after_all : StandsAfterHistory
stands_after_all r [] h accepted = h
stands_after_all r (entry ∷ entries) h accepted = stands_after_all (after entry r) entries (stands_after r entry h accepted.0) accepted.1
