-- Laws: a region stays one of its journal's at each entry, and when other regions seal; and it publishes by the journal's verdicts.
use Rattle.std.proofs.Common.{◌≡◌, ℕ, zero, suc, ◌+◌, ◌-◌, ◌<◌, ◌≤◌, Bool, true, false, cond, ◌==◌, Option, Some, None, List, [], ◌∷◌, ◌++◌, length, map, filter, slice_set, Contains, refl, sym, ap, ap₂, ◌∙◌, subst, arith, append-nil, append_assoc, not, ◌⊎◌, inl, inr}
use Rattle.std.specs.Prelude.{All, slice_index_or}
use Rattle.std.specs.List.{AllByRecursion, slice_get, cons_option}
use Rattle.std.proofs.lemmas.Bool.{cases_lt}
use Rattle.std.proofs.lemmas.List.Elements.{All-nil, All-weaker, All-from_recursion, All-filter, recursion_from_All}
use Rattle.geo_base.specs.declared.limits.TheConstants.{MAX_AGE}
use Rattle.geo_base.specs.declared.outcome.Outcome.{Outcome}
use Rattle.geo_base.specs.declared.row_id.RowId.{RowId}
use Rattle.write_set.specs.declared.batch.Batch.{Batch}
use Rattle.write_set.specs.Sets.{has_row}
use Rattle.write_set.specs.Journal.{Journal, Epochs, Placed, IsBatch, IsCandidate, IsJournal, IsFront, Extends, log_of, batch_at, batches_at, candidates_of, epochs_of, last_sealed}
use Rattle.write_set.specs.Merge.{committed, committed_among, last_change, verdict_of, verdicts}
use Rattle.write_set.specs.laws.Among.{filtered_among}
use Rattle.write_set.specs.laws.Committing.{verdicts_commit}
use Rattle.write_set.specs.laws.Placing.{IsPlaced, batches_rise, candidates_lawful, length_epochs}
use Rattle.write_set.specs.laws.Sealing.{batch_stays, epochs_stay, with_batch_extends, with_batch_lawful, with_batch_new}
use Rattle.epoch_inbox.specs.Inbox.{AreOfRegions, AreInOrder, with_batch}
use Rattle.epoch_inbox.specs.laws.Held.{all_with, all_mapped, held_counted, whole_ordered}
use Rattle.merge_round.specs.Rounds.{Serves}
use Rattle.merge_round.specs.laws.Judging.{map_same, judges_alike}
use Rattle.version_store.specs.History.{IsHistoryOf, IsApplied}
use Rattle.version_store.specs.laws.Growing.{begins, applied, trimmed, stays, change_after, change_upto}
use Rattle.region_core.specs.Region.{Standing, RegionValue, open_epoch, next_epoch, horizon_at, inbox_of, own_outcomes, next_batches, next_candidates, last_in, unpublished, with_standing}
use Rattle.region_core.specs.Entries as entry
use Rattle.region_core.specs.Entries.{Entry, next_batch, after, crashed, started}
use Rattle.region_core.specs.Publishing.{next_outcomes, next_own_outcomes, next_committed, Publishes, Becomes}
use Rattle.region_core.specs.Lawful.{IsOpenIn, IsRegion, Accepts}
use Rattle.region_core.specs.Journals.{own_verdicts, IsPublishedIn, IsAsSealed, IsRegionIn, sealed_by, IsOfJournal, PublishesAsSealed, OthersMaySeal, SealsStayJournals, PublishedStays, EntriesStay, StartsStay, NextOutcomesAreVerdicts}
use Rattle.region_core.specs.laws.Standings.{up_not_down, is_up}

-- ---- journals that grow

as_sealed_stays : (older newer : Journal) (b : Batch) → Extends older newer → IsAsSealed older b → IsAsSealed newer b
as_sealed_stays older newer b grows s = (s.0, s.1, batch_stays older newer b.region s.0 b grows s.2)

all_stay : (older newer : Journal) (held : List Batch) → Extends older newer → All (IsAsSealed older) held → All (IsAsSealed newer) held
all_stay older newer held grows h = All-from_recursion (IsAsSealed newer) held (all_mapped (IsAsSealed older) (IsAsSealed newer) (λ b. as_sealed_stays older newer b grows) held (recursion_from_All (IsAsSealed older) held h))

same_front : (front whole : List Batch) → whole ≡ front → IsFront front whole
same_front front whole same = ([], append-nil front ∙ sym same)

front_more : (front middle whole : List Batch) → IsFront front middle → IsFront middle whole → IsFront front whole
front_more front middle whole f g = (f.0 ++ g.0, sym (append_assoc front f.0 g.0) ∙ ap (λ (l : List Batch). l ++ g.0) f.1 ∙ g.1)

-- what is published stays so, where the region's log is still its list, or a front of it
published_grows : (older newer : Journal) (r : RegionValue) (s : Standing) → Extends older newer → IsPublishedIn older r →
    s.number ≡ r.standing.number → s.regions ≡ r.standing.regions → s.published ≡ r.standing.published →
    (s.up ≡ true → log_of newer r.standing.number ≡ s.log) → IsFront s.log (log_of newer r.standing.number) → IsPublishedIn newer (with_standing s r)
published_grows older newer r s grows h number regions published log front = record {
  there = omega (arith, number, h.there, grows.same);
  all = grows.same ∙ h.all ∙ sym regions;
  log = λ up. ap (log_of newer) number ∙ log up;
  front = subst (λ (n : ℕ). IsFront s.log (log_of newer n)) (sym number) front;
  history = stays older newer r.versions grows h.history;
  applied = h.applied ∙ sym published;
  outcomes = λ epoch upto.
      h.outcomes epoch (omega (arith, upto, published))
      ∙ ap (λ (e : Epochs). own_verdicts e r.standing.number) (sym (epochs_stay older newer epoch grows (omega (arith, upto, published, h.applied, h.history.sealed))))
      ∙ ap (own_verdicts (epochs_of newer epoch)) (sym number);
}

pub others_may_seal : OthersMaySeal
others_may_seal older newer r grows same = record {
  published = grown;
  region = λ h. record {
    published = grown h.published;
    held = all_stay older newer r.standing.held grows h.held;
  };
}
  where
    grown : IsPublishedIn older r → IsPublishedIn newer r
    grown h = published_grows older newer r r.standing grows h refl refl refl (λ up. same up ∙ h.log up)
        (front_more r.standing.log (log_of older r.standing.number) (log_of newer r.standing.number) h.front (grows.fronts r.standing.number))

itself : (journal : Journal) → Extends journal journal
itself journal = record { same = refl; fronts = λ region. ([], append-nil (log_of journal region)) }

-- ---- a region that has published nothing

none_published : (journal : Journal) (s : Standing) → s.number < length journal → length journal ≡ s.regions → (s.up ≡ true → log_of journal s.number ≡ s.log) → IsFront s.log (log_of journal s.number) →
    s.published ≡ 0 → IsPublishedIn journal (unpublished s)
none_published journal s there all log front none = record {
  there = there;
  all = all;
  log = log;
  front = front;
  history = begins journal;
  applied = sym none;
  outcomes = λ epoch upto. nothing epoch (omega (arith, upto, none));
}
  where
    nothing : (epoch : ℕ) → epoch ≤ 0 → own_outcomes (unpublished s) epoch ≡ own_verdicts (epochs_of journal epoch) s.number
    nothing zero upto = refl
    nothing (suc epoch) upto = absurd (omega (arith, upto))

-- the batches of a region's list are as they were sealed
log_sealed : (journal : Journal) (log : List Batch) → ((at : ℕ) (b : Batch) → slice_get log at ≡ Some b → IsAsSealed journal b) → AllByRecursion (IsAsSealed journal) log
log_sealed journal [] each = tt
log_sealed journal (b ∷ log) each = (each zero b refl, log_sealed journal log (λ at c. each (suc at) c))

pub starts_stay : StartsStay
starts_stay journal r lawful there all = record {
  published = none_published journal (started (log_of journal r.number) r) there all (λ up. refl) (same_front (log_of journal r.number) (log_of journal r.number) refl) refl;
  held = All-from_recursion (IsAsSealed journal) (log_of journal r.number) (log_sealed journal (log_of journal r.number) each);
}
  where
    each : (at : ℕ) (b : Batch) → slice_get (log_of journal r.number) at ≡ Some b → IsAsSealed journal b
    each at b found =
        let is : IsBatch r.number (at + 1) b = lawful.lawful r.number at b found in
        (at, is.epoch, ap (λ (n : ℕ). batch_at journal n at) is.region ∙ found)

-- ---- the batches of the next epoch

-- the batch at a place among those of an epoch, from a region on
of_regions_at : (region epoch : ℕ) (batches : List Batch) (at : ℕ) (b : Batch) → AreOfRegions region epoch batches → slice_get batches at ≡ Some b → (b.epoch ≡ epoch) × (b.region ≡ region + at)
of_regions_at region epoch [] at b of found = cc
of_regions_at region epoch (c ∷ batches) zero b of found =
    let same : c ≡ b = cc in
    (ap (λ (x : Batch). x.epoch) (sym same) ∙ of.0, ap (λ (x : Batch). x.region) (sym same) ∙ of.1 ∙ omega arith)
of_regions_at region epoch (c ∷ batches) (suc at) b of found =
    let rest = of_regions_at (region + 1) epoch batches at b of.2 found in
    (rest.0, rest.1 ∙ omega arith)

all_at : (P : Batch → Type 0) (batches : List Batch) (at : ℕ) (b : Batch) → AllByRecursion P batches → slice_get batches at ≡ Some b → P b
all_at P [] at b h found = cc
all_at P (c ∷ batches) zero b h found = let same : c ≡ b = cc in subst P same h.0
all_at P (c ∷ batches) (suc at) b h found = all_at P batches at b h.1 found

gathered : (journal : Journal) (place : ℕ) (batches : List Batch) → length batches ≡ length journal →
    ((at : ℕ) (b : Batch) → slice_get batches at ≡ Some b → batch_at journal at place ≡ Some b) → batches_at journal place ≡ batches
gathered [] place [] same each = refl
gathered [] place (b ∷ batches) same each = absurd (omega (arith, same))
gathered (log ∷ logs) place [] same each = absurd (omega (arith, same))
gathered (log ∷ logs) place (b ∷ batches) same each =
    ap (λ (o : Option Batch). cons_option o (batches_at logs place)) (each zero b refl)
    ∙ ap (λ (bs : List Batch). b ∷ bs) (gathered logs place batches (omega (arith, same)) (λ at c. each (suc at) c))

get_within : {X : Type 0} (xs : List X) (place : ℕ) (x : X) → slice_get xs place ≡ Some x → place < length xs
get_within [] place x found = cc
get_within (y ∷ ys) zero x found = omega arith
get_within (y ∷ ys) (suc place) x found = let rest : place < length ys = get_within ys place x found in omega (arith, rest)

get_there : {X : Type 0} (xs : List X) (place : ℕ) → place < length xs → (x : X) × (slice_get xs place ≡ Some x)
get_there [] place within = absurd (omega (arith, within))
get_there (x ∷ xs) zero within = (x, refl)
get_there (x ∷ xs) (suc place) within = get_there xs place (omega (arith, within))

-- a place that all lists have is below the last sealed epoch
sealed_past : (journal : Journal) (place : ℕ) → 1 ≤ length journal → ((region : ℕ) → region < length journal → place < length (log_of journal region)) → place < last_sealed journal
sealed_past [] place some each = absurd (omega (arith, some))
sealed_past (log ∷ []) place some each = each zero (omega arith)
sealed_past (log ∷ more ∷ logs) place some each =
    let here : place < length log = each zero (omega arith) in
    let rest : place < last_sealed (more ∷ logs) = sealed_past (more ∷ logs) place (omega arith) (λ region within. each (suc region) (omega (arith, within))) in
    omega (arith, here, rest)

-- the next epoch's batches, of which the region holds all and as they were sealed, are the journal's
pub record AreJournals (journal : Journal) (r : RegionValue) : Type 0 where
  pub batches : batches_at journal r.standing.published ≡ next_batches r.standing
  pub sealed : r.standing.published < last_sealed journal

next_are : (journal : Journal) (r : RegionValue) → IsJournal journal → IsRegion r → IsPublishedIn journal r → length (next_batches r.standing) ≡ r.standing.regions →
    All (IsAsSealed journal) (next_batches r.standing) → AreJournals journal r
next_are journal r lawful region h whole as_sealed = record {
  batches = gathered journal r.standing.published (next_batches r.standing) (whole ∙ sym h.all) each;
  sealed = sealed_past journal r.standing.published lawful.some (λ k within. past k within);
}
  where
    order : AreInOrder (inbox_of r.standing) (next_epoch r.standing) (next_batches r.standing)
    order = whole_ordered (inbox_of r.standing) (next_epoch r.standing) region.stands.places ((held_counted (inbox_of r.standing) (next_epoch r.standing) region.stands.places).all.0 whole)

    each : (at : ℕ) (b : Batch) → slice_get (next_batches r.standing) at ≡ Some b → batch_at journal at r.standing.published ≡ Some b
    each at b found =
        let of = of_regions_at 0 (next_epoch r.standing) (next_batches r.standing) at b order.order found in
        let sealed : IsAsSealed journal b = all_at (IsAsSealed journal) (next_batches r.standing) at b (recursion_from_All (IsAsSealed journal) (next_batches r.standing) as_sealed) found in
        let place : r.standing.published ≡ sealed.0 = omega (arith, of.0, sealed.1) in
        let of_region : at ≡ b.region = omega (arith, of.1) in
        ap₂ (λ (n p : ℕ). batch_at journal n p) of_region place ∙ sealed.2

    past : (k : ℕ) → k < length journal → r.standing.published < length (log_of journal k)
    past k within =
        let found = get_there (next_batches r.standing) k (omega (arith, within, whole, h.all)) in
        get_within (log_of journal k) r.standing.published found.0 (each k found.0 found.1)

-- ---- verdicts

-- what the region holds for last changes serves the candidates of the next epoch
next_serve : (journal : Journal) (r : RegionValue) → IsJournal journal → IsRegion r → IsPublishedIn journal r → batches_at journal r.standing.published ≡ next_batches r.standing →
    (c : Placed) (row : RowId) → Contains (next_candidates r.standing) c → has_row row c.set ≡ true →
    Serves c.start (last_change (epochs_of journal r.standing.published) row) (last_in r row)
next_serve journal r lawful region h batches c row among has = record {
  above = λ later. ap (λ (n : ℕ). n) (change_after journal r.versions row h.history (omega (arith, later, from, sym last_is))) ∙ last_is;
  below = λ earlier. by (cases_lt r.versions.horizon (last_change (epochs_of journal r.versions.applied) row)) earlier;
}
  where
    placed : IsPlaced (r.standing.published + 1) c
    placed = candidates_lawful 0 (r.standing.published + 1) (batches_at journal r.standing.published) c (batches_rise journal r.standing.published lawful)
        (subst (λ (bs : List Batch). Contains (candidates_of bs) c) (sym batches) among)

    from : r.versions.horizon ≤ c.start
    from = let young : r.standing.published + 1 ≤ c.start + MAX_AGE = placed.young in omega (arith, region.horizon, young)

    last_is : last_change (epochs_of journal r.versions.applied) row ≡ last_change (epochs_of journal r.standing.published) row
    last_is = ap (λ (n : ℕ). last_change (epochs_of journal n) row) h.applied

    by : (r.versions.horizon < last_change (epochs_of journal r.versions.applied) row) ⊎ (last_change (epochs_of journal r.versions.applied) row ≤ r.versions.horizon) →
        last_change (epochs_of journal r.standing.published) row ≤ c.start → last_in r row ≤ c.start
    by (inl later) earlier = let same = change_after journal r.versions row h.history later in omega (arith, same, last_is, earlier)
    by (inr upto) earlier = let low = change_upto journal r.versions row h.history upto in omega (arith, low, from)

-- verdicts by what the region holds are the journal's, of these candidates of the epoch
next_alike : (journal : Journal) (r : RegionValue) → IsJournal journal → IsRegion r → IsPublishedIn journal r → AreJournals journal r → (cs : List Placed) →
    ((c : Placed) → Contains cs c → Contains (next_candidates r.standing) c) →
    map (verdict_of (last_in r) (next_epoch r.standing) (next_candidates r.standing)) cs
    ≡ map (verdict_of (last_change (epochs_of journal r.standing.published)) (length (epochs_of journal r.standing.published) + 1) (candidates_of (batches_at journal r.standing.published))) cs
next_alike journal r lawful region h are cs among =
    map_same (verdict_of (last_in r) (next_epoch r.standing) all) (verdict_of older (next_epoch r.standing) all) cs
    (λ c hc. judges_alike all older (last_in r) (next_serve journal r lawful region h are.batches) (next_epoch r.standing) c (among c hc))
    ∙ ap (λ (n : ℕ). map (verdict_of older n all) cs) (ap (λ (n : ℕ). n + 1) (sym (length_epochs journal r.standing.published)))
    ∙ ap (λ (bs : List Batch). map (verdict_of older (length (epochs_of journal r.standing.published) + 1) (candidates_of bs)) cs) (sym are.batches)
  where
    all : List Placed
    all = next_candidates r.standing

    older : RowId → ℕ
    older = last_change (epochs_of journal r.standing.published)

next_verdicts : (journal : Journal) (r : RegionValue) → IsJournal journal → IsRegion r → IsPublishedIn journal r → AreJournals journal r →
    next_outcomes r ≡ verdicts (epochs_of journal (suc r.standing.published))
next_verdicts journal r lawful region h are =
    next_alike journal r lawful region h are (next_candidates r.standing) (λ c hc. hc)
    ∙ ap (λ (bs : List Batch). map (verdict_of (last_change (epochs_of journal r.standing.published)) (length (epochs_of journal r.standing.published) + 1) (candidates_of (batches_at journal r.standing.published))) (candidates_of bs)) (sym are.batches)

pub next_outcomes_are : NextOutcomesAreVerdicts
next_outcomes_are journal r lawful region h whole as_sealed =
    let next : suc r.standing.published ≡ r.standing.published + 1 = omega arith in
    next_verdicts journal r lawful region h (next_are journal r lawful region h whole as_sealed) ∙ ap (λ (n : ℕ). verdicts (epochs_of journal n)) next

-- ---- a publication

-- outcomes by place, with one epoch more
outcome_before : (outcomes : List (List Outcome)) (one : List Outcome) (place : ℕ) → place < length outcomes → slice_index_or (outcomes ++ one ∷ []) place [] ≡ slice_index_or outcomes place []
outcome_before [] one place within = absurd (omega (arith, within))
outcome_before (o ∷ outcomes) one zero within = refl
outcome_before (o ∷ outcomes) one (suc place) within = outcome_before outcomes one place (omega (arith, within))

outcome_last : (outcomes : List (List Outcome)) (one : List Outcome) → slice_index_or (outcomes ++ one ∷ []) (length outcomes) [] ≡ one
outcome_last [] one = refl
outcome_last (o ∷ outcomes) one = outcome_last outcomes one

publishes_in : (journal : Journal) (old new : RegionValue) → IsJournal journal → IsRegion old → IsPublishedIn journal old → AreJournals journal old → Publishes old new → IsPublishedIn journal new
publishes_in journal old new lawful region h are p = record {
  there = subst (λ (s : Standing). s.number < length journal) (sym p.standing) h.there;
  all = h.all ∙ ap (λ (s : Standing). s.regions) (sym p.standing);
  log = λ up. ap (λ (s : Standing). log_of journal s.number) p.standing ∙ h.log (sym (ap (λ (s : Standing). s.up) p.standing) ∙ up) ∙ ap (λ (s : Standing). s.log) (sym p.standing);
  front = subst (λ (s : Standing). IsFront s.log (log_of journal s.number)) (sym p.standing) h.front;
  history = trimmed journal (horizon_at (next_epoch old.standing)) p.grown new.versions grown_history from upto p.trimmed;
  applied = p.trimmed.applied ∙ p.applied.applied ∙ ap (λ (n : ℕ). n + 1) region.applied ∙ ap (λ (s : Standing). s.published) (sym p.standing);
  outcomes = λ epoch within. each epoch within;
}
  where
    committed_is : next_committed old ≡ committed (epochs_of journal (suc old.versions.applied))
    committed_is =
        ap (committed_among (next_candidates old.standing)) (next_verdicts journal old lawful region h are)
        ∙ ap (λ (bs : List Batch). committed_among (candidates_of bs) (verdicts (epochs_of journal (suc old.standing.published)))) (sym are.batches)
        ∙ verdicts_commit (candidates_of (batches_at journal old.standing.published)) (epochs_of journal old.standing.published)
        ∙ ap (λ (n : ℕ). committed (epochs_of journal (suc n))) (sym h.applied)

    grown_history : IsHistoryOf journal p.grown
    grown_history = applied journal old.versions p.grown h.history (omega (arith, h.applied, are.sealed)) (subst (λ (cs : List Placed). IsApplied cs old.versions p.grown) committed_is p.applied)

    from : p.grown.horizon ≤ horizon_at (next_epoch old.standing)
    from = omega (arith, p.applied.horizon, region.horizon)

    upto : horizon_at (next_epoch old.standing) ≤ p.grown.applied
    upto = omega (arith, p.applied.applied, region.applied)

    outcomes_at : (epoch : ℕ) → own_outcomes new epoch ≡ own_outcomes (record { standing = new.standing; versions = new.versions; outcomes = old.outcomes ++ next_own_outcomes old ∷ [] }) epoch
    outcomes_at zero = refl
    outcomes_at (suc place) = ap (λ (os : List (List Outcome)). slice_index_or os place []) p.outcomes

    own_next : next_own_outcomes old ≡ own_verdicts (epochs_of journal (suc old.standing.published)) old.standing.number
    own_next =
        next_alike journal old lawful region h are (filter (λ c. c.region == old.standing.number) (next_candidates old.standing))
        (λ c hc. (filtered_among (λ c. c.region == old.standing.number) (next_candidates old.standing) c hc).0)
        ∙ ap (λ (bs : List Batch). map (verdict_of (last_change (epochs_of journal old.standing.published)) (length (epochs_of journal old.standing.published) + 1) (candidates_of (batches_at journal old.standing.published))) (filter (λ c. c.region == old.standing.number) (candidates_of bs))) (sym are.batches)

    number_is : new.standing.number ≡ old.standing.number
    number_is = ap (λ (s : Standing). s.number) p.standing

    told : (epoch : ℕ) → epoch ≤ old.standing.published + 1 → own_outcomes (record { standing = new.standing; versions = new.versions; outcomes = old.outcomes ++ next_own_outcomes old ∷ [] }) epoch ≡ own_verdicts (epochs_of journal epoch) old.standing.number
    told zero within = refl
    told (suc place) within = by (cases_lt place old.standing.published)
      where
        by : (place < old.standing.published) ⊎ (old.standing.published ≤ place) → slice_index_or (old.outcomes ++ next_own_outcomes old ∷ []) place [] ≡ own_verdicts (epochs_of journal (suc place)) old.standing.number
        by (inl earlier) = outcome_before old.outcomes (next_own_outcomes old) place (omega (arith, earlier, region.outcomes)) ∙ h.outcomes (suc place) (omega (arith, earlier))
        by (inr last) =
            let same : place ≡ old.standing.published = omega (arith, within, last) in
            let end : place ≡ length old.outcomes = omega (arith, same, region.outcomes) in
            ap (λ (n : ℕ). slice_index_or (old.outcomes ++ next_own_outcomes old ∷ []) n []) end
            ∙ outcome_last old.outcomes (next_own_outcomes old)
            ∙ own_next
            ∙ ap (λ (n : ℕ). own_verdicts (epochs_of journal (suc n)) old.standing.number) (sym same)

    each : (epoch : ℕ) → epoch ≤ new.standing.published → own_outcomes new epoch ≡ own_verdicts (epochs_of journal epoch) new.standing.number
    each epoch within =
        outcomes_at epoch
        ∙ told epoch (omega (arith, within, ap (λ (s : Standing). s.published) p.standing))
        ∙ ap (own_verdicts (epochs_of journal epoch)) (sym number_is)

-- ---- all entries

-- the list of a region in the journal with its seal
log_set : (journal : Journal) (region : ℕ) (log : List Batch) → region < length journal → log_of (slice_set journal region log) region ≡ log
log_set [] region log within = absurd (omega (arith, within))
log_set (l ∷ journal) zero log within = refl
log_set (l ∷ journal) (suc region) log within = log_set journal region log (omega (arith, within))

sealed_log : (journal : Journal) (r : RegionValue) (batch : Batch) → IsPublishedIn journal r → r.standing.up ≡ true →
    log_of (slice_set journal r.standing.number (log_of journal r.standing.number ++ batch ∷ [])) r.standing.number ≡ r.standing.log ++ batch ∷ []
sealed_log journal r batch h up =
    log_set journal r.standing.number (log_of journal r.standing.number ++ batch ∷ []) h.there ∙ ap (λ (l : List Batch). l ++ batch ∷ []) (h.log up)

-- a crash keeps number, regions and log
pub record IsSameRegion (r s : Standing) : Type 0 where
  pub number : s.number ≡ r.number
  pub regions : s.regions ≡ r.regions
  pub log : s.log ≡ r.log

same_crashed : (r : Standing) → IsSameRegion r (crashed r)
same_crashed r = by r.up
  where
    by : (b : Bool) → IsSameRegion r (cond b (entry.down_with r.number r.regions r.tables r.last (r.life + 1) r.log) r)
    by true = record { number = refl; regions = refl; log = refl }
    by false = record { number = refl; regions = refl; log = refl }

crashed_down : (r : Standing) → (crashed r).up ≡ false
crashed_down r = by r.up refl
  where
    by : (b : Bool) → r.up ≡ b → (cond b (entry.down_with r.number r.regions r.tables r.last (r.life + 1) r.log) r).up ≡ false
    by true is = refl
    by false is = is

crashed_none : (r : RegionValue) → IsRegion r → (crashed r.standing).published ≡ 0
crashed_none r region = by r.standing.up refl
  where
    by : (b : Bool) → r.standing.up ≡ b → (cond b (entry.down_with r.standing.number r.standing.regions r.standing.tables r.standing.last (r.standing.life + 1) r.standing.log) r.standing).published ≡ 0
    by true is = refl
    by false is = ap (λ (s : Standing). s.published) (region.stands.down is)

pub published_stays : PublishedStays
published_stays journal old new (entry.Txn c) lawful region h accepts as_sealed of is =
    subst (IsPublishedIn journal) (sym is) (published_grows journal journal old (after (entry.Txn c) old.standing) (itself journal) h refl refl refl h.log h.front)
published_stays journal old new (entry.Arrive batch) lawful region h accepts as_sealed of is =
    subst (IsPublishedIn journal) (sym is) (published_grows journal journal old (after (entry.Arrive batch) old.standing) (itself journal) h refl refl refl h.log h.front)
published_stays journal old new (entry.Seal batch) lawful region h accepts as_sealed of is =
    let newer : Journal = slice_set journal old.standing.number (log_of journal old.standing.number ++ batch ∷ []) in
    let now : log_of newer old.standing.number ≡ old.standing.log ++ batch ∷ [] = sealed_log journal old batch h (is_up _ old.standing.up _ accepts.0).0 in
    subst (IsPublishedIn newer) (sym is)
    (published_grows journal newer old (after (entry.Seal batch) old.standing) (with_batch_extends journal old.standing.number batch) h refl refl refl
    (λ up. now) (same_front (old.standing.log ++ batch ∷ []) (log_of newer old.standing.number) now))
published_stays journal old new (entry.Publish epoch) lawful region h accepts as_sealed of is =
    publishes_in journal old new lawful region h (next_are journal old lawful region h accepts.2 as_sealed) is.1
published_stays journal old new (entry.Crash None) lawful region h accepts as_sealed of is =
    let same = same_crashed old.standing in
    subst (IsPublishedIn journal) (sym is)
    (none_published journal (crashed old.standing) (omega (arith, same.number, h.there)) (h.all ∙ sym same.regions) (λ up. absurd (up_not_down (crashed old.standing).up up (crashed_down old.standing)))
    (subst (λ (n : ℕ). IsFront (crashed old.standing).log (log_of journal n)) (sym same.number) (subst (λ (l : List Batch). IsFront l (log_of journal old.standing.number)) (sym same.log) h.front))
    (crashed_none old region))
published_stays journal old new (entry.Crash (Some log)) lawful region h accepts as_sealed of is =
    let same = same_crashed old.standing in
    subst (IsPublishedIn journal) (sym is)
    (none_published journal (started log (crashed old.standing)) (omega (arith, same.number, h.there)) (h.all ∙ sym same.regions) (λ up. ap (log_of journal) same.number ∙ sym of)
    (same_front log (log_of journal (crashed old.standing).number) (ap (log_of journal) same.number ∙ sym of)) refl)

held_with : (journal : Journal) (held : List Batch) (batch : Batch) → All (IsAsSealed journal) held → IsAsSealed journal batch → All (IsAsSealed journal) (with_batch held batch)
held_with journal held batch h s =
    All-from_recursion (IsAsSealed journal) (with_batch held batch) (all_with (IsAsSealed journal) held batch (recursion_from_All (IsAsSealed journal) held h) s)

held_in : (journal : Journal) (old new : RegionValue) (entry : Entry) → IsJournal journal → IsRegion old → IsRegionIn journal old → Accepts old.standing entry → IsOfJournal journal old.standing entry → Becomes entry old new →
    All (IsAsSealed (sealed_by old.standing entry journal)) new.standing.held
held_in journal old new (entry.Txn c) lawful region h accepts of is = subst (λ (r : RegionValue). All (IsAsSealed journal) r.standing.held) (sym is) h.held
held_in journal old new (entry.Arrive batch) lawful region h accepts of is =
    subst (λ (r : RegionValue). All (IsAsSealed journal) r.standing.held) (sym is) (held_with journal old.standing.held batch h.held of)
held_in journal old new (entry.Seal batch) lawful region h accepts of is =
    let newer : Journal = slice_set journal old.standing.number (log_of journal old.standing.number ++ batch ∷ []) in
    let sealed : IsAsSealed newer batch = (
      length (log_of journal old.standing.number),
      ap (λ (b : Batch). b.epoch) accepts.1 ∙ ap (λ (l : List Batch). length l + 1) (sym (h.published.log (is_up _ old.standing.up _ accepts.0).0)),
      ap (λ (n : ℕ). batch_at newer n (length (log_of journal old.standing.number))) (ap (λ (b : Batch). b.region) accepts.1) ∙ with_batch_new journal old.standing.number batch h.published.there,
    ) in
    subst (λ (r : RegionValue). All (IsAsSealed newer) r.standing.held) (sym is)
    (held_with newer old.standing.held batch (all_stay journal newer old.standing.held (with_batch_extends journal old.standing.number batch) h.held) sealed)
held_in journal old new (entry.Publish epoch) lawful region h accepts of is =
    subst (λ (s : Standing). All (IsAsSealed journal) s.held) (sym is.1.standing) (All-filter (λ b. not (next_epoch old.standing == b.epoch)) (IsAsSealed journal) old.standing.held h.held)
held_in journal old new (entry.Crash None) lawful region h accepts of is =
    subst (λ (r : RegionValue). All (IsAsSealed journal) r.standing.held) (sym is) (by old.standing.up refl)
  where
    by : (b : Bool) → old.standing.up ≡ b → All (IsAsSealed journal) (cond b (entry.down_with old.standing.number old.standing.regions old.standing.tables old.standing.last (old.standing.life + 1) old.standing.log) old.standing).held
    by true up = All-nil (IsAsSealed journal)
    by false down = h.held
held_in journal old new (entry.Crash (Some log)) lawful region h accepts of is =
    subst (λ (r : RegionValue). All (IsAsSealed journal) r.standing.held) (sym is)
    (subst (λ (l : List Batch). All (IsAsSealed journal) l) (sym of) (starts_stay journal old.standing lawful h.published.there h.published.all).held)

as_sealed_of : (journal : Journal) (r : Standing) (entry : Entry) → All (IsAsSealed journal) r.held → PublishesAsSealed journal r entry
as_sealed_of journal r (entry.Txn c) held = tt
as_sealed_of journal r (entry.Seal batch) held = tt
as_sealed_of journal r (entry.Arrive batch) held = tt
as_sealed_of journal r (entry.Publish epoch) held = All-filter (λ b. next_epoch r == b.epoch) (IsAsSealed journal) r.held held
as_sealed_of journal r (entry.Crash read) held = tt

pub entries_stay : EntriesStay
entries_stay journal old new entry lawful region h accepts of is = record {
  published = published_stays journal old new entry lawful region h.published accepts (as_sealed_of journal old.standing entry h.held) of is;
  held = held_in journal old new entry lawful region h accepts of is;
}

-- ---- what is sealed

pub seals_stay : SealsStayJournals
seals_stay journal r (entry.Txn c) lawful region h accepts = (lawful, itself journal)
seals_stay journal r (entry.Arrive batch) lawful region h accepts = (lawful, itself journal)
seals_stay journal r (entry.Publish epoch) lawful region h accepts = (lawful, itself journal)
seals_stay journal r (entry.Crash read) lawful region h accepts = (lawful, itself journal)
seals_stay journal r (entry.Seal batch) lawful region h accepts = (with_batch_lawful journal r.standing.number batch lawful is_batch, with_batch_extends journal r.standing.number batch)
  where
    sealed : IsBatch r.standing.number (open_epoch r.standing) (next_batch r.standing)
    sealed = record {
      region = refl;
      epoch = refl;
      few = region.stands.count;
      lawful = All-weaker (IsOpenIn r.standing) (IsCandidate (open_epoch r.standing)) (λ c o. o.lawful) r.standing.open_candidates region.stands.open_candidates;
    }

    is_batch : IsBatch r.standing.number (length (log_of journal r.standing.number) + 1) batch
    is_batch =
        subst (λ (l : List Batch). IsBatch r.standing.number (length l + 1) batch) (sym (h.log (is_up _ r.standing.up _ accepts.0).0))
        (subst (IsBatch r.standing.number (open_epoch r.standing)) (sym accepts.1) sealed)
