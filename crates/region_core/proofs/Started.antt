-- A region that starts on a log: what it holds, and what it is then.
use Rattle.std.proofs.Common.{◌≡◌, ℕ, zero, suc, ◌+◌, ◌<◌, ◌≤◌, true, false, None, Some, Result, Ok, Err, List, [], ◌∷◌, length, get_or, take, refl, sym, ap, ◌∙◌, subst, arith}
use Rattle.std.specs.Prelude.{OnOk, is_err}
use Rattle.std.specs.List.Sorted.{IsStrictlySortedBy}
use Rattle.std.specs.Ordering.{nat_cmp, ordering_then, match_ordering}
use Rattle.std.specs.declared.cmp.Ordering.{Ordering}
use Rattle.std.specs.declared.cmp.Ordering.TheVariants.{Greater}
use Rattle.std.proofs.lemmas.Bool.Decides.{nat_tests}
use Rattle.std.proofs.lemmas.List.Elements.{All-nil}
use Rattle.geo_base.specs.declared.limits.TheConstants.{MAX_REGIONS, LAST_EPOCH}
use Rattle.geo_base.specs.declared.outcome.Outcome.{Outcome}
use Rattle.geo_base.specs.declared.row_id.RowId.{RowId}
use Rattle.geo_schema.specs.Schemas.{Tables, IsSchema}
use Rattle.write_set.specs.declared.batch.Batch.{Batch}
use Rattle.write_set.specs.declared.candidate.Candidate.{Candidate}
use Rattle.write_set.specs.BatchSizes.{batch_size}
use Rattle.own_log.specs.Logs.{IsOfLog, AreOfLog, AreOfLogFrom}
use Rattle.epoch_inbox.specs.Inbox.{Holding, with_batch}
use Rattle.version_store.specs.Chains.{image_at}
use Rattle.version_store.specs.History.{Kept, chain_of}
use Rattle.index_store.specs.Kept.{KeptImages, IsKeptEpoch}
use Rattle.index_store.specs.Store.{Stored, IsStoreOf}
use Rattle.snap_view.specs.Snapshots.{images_of}
use Rattle.region_core.specs.declared.region.Region.TheInside.{Inside}
use Rattle.region_core.specs.Region.{Standing, RegionValue, no_versions, unpublished}
use Rattle.region_core.specs.Entries.{Crash, after, down_with, opened}
use Rattle.region_core.specs.Lawful.{IsOpenIn, IsHeldIn, IsStanding, IsRegion}
use Rattle.region_core.specs.inner.Fields.{seen, AreFields}
use Rattle.region_core.specs.laws.Standings.{started_stands}
use Rattle.region_core.specs.laws.Regions.{makes_region, nothing_published}
use Rattle.region_core.proofs.Insides.{holding, view_of, AreInside, seen_with}

-- ---- the batches of a log are held one behind another

module _ (tables : Tables) (regions region : ℕ) where
  of_log_got : (place n : ℕ) (log : List Batch) (d : Batch) → AreOfLogFrom tables regions region place log → n < length log → IsOfLog tables regions region (place + n) (get_or log n d)
  of_log_got place n [] d h within = absurd (omega arith)
  of_log_got place zero (b ∷ log) d h within = subst (λ (p : ℕ). IsOfLog tables regions region p b) (omega arith) h.0
  of_log_got place (suc n) (b ∷ log) d h within =
      subst (λ (p : ℕ). IsOfLog tables regions region p (get_or log n d)) (omega arith) (of_log_got (place + 1) n log d h.1 (omega arith))

  -- the batch at a place of the log
  pub of_log_item : (n : ℕ) (log : List Batch) (batch : Batch) → AreOfLog tables regions region log → n < length log → batch ≡ get_or log n batch → IsOfLog tables regions region n batch
  of_log_item n log batch h within is =
      subst (IsOfLog tables regions region n) (sym is) (subst (λ (p : ℕ). IsOfLog tables regions region p (get_or log n batch)) (omega arith) (of_log_got 0 n log batch h within))

  held_from : (place n : ℕ) (log : List Batch) (batch : Batch) → AreOfLogFrom tables regions region place log → n < length log → batch ≡ get_or log n batch →
      with_batch (take n log) batch ≡ take (suc n) log
  held_from place n [] batch h within is = absurd (omega arith)
  held_from place zero (b ∷ log) batch h within is = ap (λ (x : Batch). x ∷ []) is
  held_from place (suc n) (b ∷ log) batch h within is =
      let there : IsOfLog tables regions region (place + 1 + n) (get_or log n batch) = of_log_got (place + 1) n log batch h.1 (omega arith) in
      let later : b.epoch < batch.epoch = omega (arith, h.0.epoch, there.epoch, ap (λ (x : Batch). x.epoch) is) in
      let behind : nat_cmp batch.epoch b.epoch ≡ Greater = grind (arith, nat_tests) in
      ap (λ (o : Ordering). match_ordering (ordering_then o (nat_cmp batch.region b.region)) (batch ∷ b ∷ take n log) (batch ∷ take n log) (b ∷ with_batch (take n log) batch)) behind
      ∙ ap (λ (bs : List Batch). b ∷ bs) (held_from (place + 1) n log batch h.1 (omega arith) is)

  -- one batch of the log more is held
  pub held_more : (inbox next : Holding) (count n : ℕ) (log : List Batch) (item batch : Batch) → AreOfLog tables regions region log → n < length log → item ≡ get_or log n item → batch ≡ item →
      inbox ≡ holding count (take n log) → next ≡ holding inbox.regions (with_batch inbox.held batch) → next ≡ holding count (take (n + 1) log)
  held_more inbox next count n log item batch of_log within is copied was moved =
      let one_more : suc n ≡ n + 1 = omega arith in
      moved
      ∙ ap (λ (k : Holding). holding k.regions (with_batch k.held batch)) was
      ∙ ap (λ (x : Batch). holding count (with_batch (take n log) x)) copied
      ∙ ap (holding count) (held_from 0 n log item of_log within is)
      ∙ ap (λ (k : ℕ). holding count (take k log)) one_more

  -- an empty inbox may hold the log's batches
  pub may_hold : (inbox : Holding) (log list : List Batch) → region < regions → AreOfLog tables regions region log → inbox ≡ holding regions [] → list ≡ log →
      (of : Tables) × ((number : ℕ) × (number < inbox.regions) × AreOfLog of inbox.regions number list)
  may_hold inbox log list there of_log empty same = (
    tables,
    (
      region,
      subst (λ (k : Holding). region < k.regions) (sym empty) there,
      subst (λ (k : Holding). AreOfLog tables k.regions region list) (sym empty) (subst (AreOfLog tables regions region) (sym same) of_log),
    ),
  )

-- and has then done so
pub now_holds : (regions : ℕ) (inbox full : Holding) (log list : List Batch) → full ≡ holding inbox.regions list → inbox ≡ holding regions [] → list ≡ log → full ≡ holding regions log
now_holds regions inbox full log list put empty same = put ∙ ap (λ (k : Holding). holding k.regions list) empty ∙ ap (holding regions) same

pub went_well : {A E P : Type 0} (r : Result A E) → is_err r ≡ false → OnOk r P → P
went_well (Ok x) well h = h
went_well (Err e) well h = absurd (cc)

-- ---- a region that was down, on a log

-- the same region, up and with this log, whose batches it holds
abbrev begun : List Batch → RegionValue → RegionValue
begun log r =
    record {
      standing = record {
        number = r.standing.number;
        regions = r.standing.regions;
        tables = r.standing.tables;
        last = r.standing.last;
        up = true;
        life = r.standing.life;
        log = log;
        open_candidates = r.standing.open_candidates;
        held = log;
        published = r.standing.published;
      };
      versions = r.versions;
      outcomes = r.outcomes;
    }

module _ (a : Inside) (h : AreInside a) (r : RegionValue) (is : view_of a ≡ r) (down : r.standing.up ≡ false) (log : List Batch) where
  -- the log may be that of the fields
  pub log_inside : AreOfLog r.standing.tables r.standing.regions r.standing.number log → AreOfLog a.schema a.regions a.no log
  log_inside of_log = subst (λ (x : RegionValue). AreOfLog x.standing.tables x.standing.regions x.standing.number log) (sym is) of_log

  was_down : a.up ≡ false
  was_down = ap (λ (x : RegionValue). x.standing.up) is ∙ down

  nothing_else : view_of a ≡ unpublished (down_with a.no a.regions a.schema a.last a.life a.log.items)
  nothing_else = h.lawful.down was_down ∙ ap unpublished (h.lawful.stands.down was_down)

  started_view : seen_with a true log a.open_candidates.items log ≡ unpublished (after (Crash (Some log)) (view_of a).standing)
  started_view = ap (begun log) nothing_else ∙ sym (ap (λ (x : RegionValue). unpublished (after (Crash (Some log)) x.standing)) nothing_else)

  -- it is then the region that started on the log
  pub started_is : (inbox : Holding) → inbox ≡ holding a.regions log → seen_with a true log a.open_candidates.items inbox.held ≡ unpublished (after (Crash (Some log)) r.standing)
  started_is inbox holds =
      ap (λ (k : Holding). seen_with a true log a.open_candidates.items k.held) holds ∙ started_view ∙ ap (λ (x : RegionValue). unpublished (after (Crash (Some log)) x.standing)) is

  -- and its fields belong together
  pub started_inside : (inbox : Holding) → AreOfLog a.schema a.regions a.no log → inbox ≡ holding a.regions log → AreFields a.size inbox a.index (seen_with a true log a.open_candidates.items inbox.held)
  started_inside inbox of_log holds = record {
    lawful = subst (λ (k : Holding). IsRegion (seen_with a true log a.open_candidates.items k.held)) (sym holds)
        (makes_region (view_of a) (seen_with a true log a.open_candidates.items log) (Crash (Some log)) h.lawful of_log started_view);
    counted = h.counted;
    inbox_regions = ap (λ (k : Holding). k.regions) holds;
    follows = h.follows;
  }

-- ---- a region that is opened

module _ (number regions : ℕ) (tables : Tables) (last : ℕ) (few : regions ≤ MAX_REGIONS) (there : number < regions) (schema : IsSchema tables) (upto : last ≤ LAST_EPOCH) where
  -- one that is down and has sealed nothing
  abbrev fresh : Standing
  fresh = down_with number regions tables last 0 []

  fresh_stands : IsStanding fresh
  unfolding IsStrictlySortedBy
  fresh_stands = record {
    few = few;
    there = there;
    schema = schema;
    last = upto;
    log = tt;
    sealed = omega arith;
    open_candidates = All-nil (IsOpenIn fresh);
    count = omega arith;
    size = omega arith;
    places = record { rising = tt; below = tt };
    held = All-nil (IsHeldIn fresh);
    own = λ up. absurd (cc);
    down = λ down. refl;
  }

  opened_region : (log : List Batch) → AreOfLog tables regions number log → IsRegion (unpublished (opened number regions tables last log))
  opened_region log of_log = nothing_published (opened number regions tables last log) (started_stands log fresh fresh_stands of_log) refl

module _ (number regions : ℕ) (tables copy : Tables) (last : ℕ) (log : List Batch) (inbox : Holding) (open_candidates : List Candidate) (versions : Kept) (outcomes : List (List Outcome))
    (copied : copy ≡ tables) (holds : inbox ≡ holding regions log) (none_open : open_candidates ≡ []) (none_kept : versions ≡ no_versions) (none_told : outcomes ≡ []) where
  -- what is made of these fields is the region that was opened on the log
  pub opened_is : seen number regions copy last true 0 log open_candidates inbox.held versions outcomes ≡ unpublished (opened number regions tables last log)
  opened_is = λ i. seen number regions (copied i) last true 0 log (none_open i) (holds i).held (none_kept i) (none_told i)

  -- and they belong together
  pub opened_inside : regions ≤ MAX_REGIONS → number < regions → IsSchema tables → last ≤ LAST_EPOCH → AreOfLog tables regions number log →
      (index : Stored) → ((of : Tables) (kept : KeptImages) → ((row : RowId) (epoch : ℕ) → IsKeptEpoch kept epoch → kept.image row epoch ≡ None) → IsStoreOf of kept index) →
      AreFields 13 inbox index (seen number regions copy last true 0 log open_candidates inbox.held versions outcomes)
  opened_inside few there schema upto of_log index begins = record {
    lawful = subst IsRegion (sym opened_is) (opened_region number regions tables last few there schema upto log of_log);
    counted = ap batch_size (sym none_open);
    inbox_regions = ap (λ (k : Holding). k.regions) holds;
    follows = begins copy (images_of versions) (λ row epoch within. ap (λ (k : Kept). image_at (chain_of k row) epoch) none_kept);
  }
