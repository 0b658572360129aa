-- Laws: a region's round gives the outcomes by which it publishes, and these stay such through its life.
use Rattle.std.proofs.Common.{◌≡◌, ℕ, zero, suc, ◌+◌, ◌≤◌, Bool, true, false, cond, ◌==◌, None, List, [], ◌∷◌, length, map, refl, sym, ap, ◌∙◌, subst, arith, ◌⊎◌, inl, inr}
use Rattle.std.specs.Prelude.{nat_lt, is_some}
use Rattle.std.specs.Ordering.{match_ordering}
use Rattle.std.specs.declared.cmp.Ordering.{Ordering}
use Rattle.std.specs.declared.cmp.Ordering.TheVariants.{Less, Equal, Greater}
use Rattle.std.proofs.lemmas.Bool.{eqb-true}
use Rattle.std.proofs.lemmas.Bool.Decides.{nat_tests}
use Rattle.geo_base.specs.declared.row_id.RowId.{RowId}
use Rattle.write_set.specs.declared.batch.Batch.{Batch}
use Rattle.write_set.specs.Journal.{candidates_of}
use Rattle.write_set.specs.Merge.{verdict_of}
use Rattle.epoch_inbox.specs.Inbox.{IsWhole, place_of, place_cmp, held_of, is_held, regions_held, with_batch}
use Rattle.epoch_inbox.specs.laws.Held.{exact_places, filter_no, held_counted}
use Rattle.merge_round.specs.Gathers.{Decided}
use Rattle.snap_view.specs.Snapshots.{Held, IsSnapshot, last_held}
use Rattle.snap_view.specs.laws.Histories.{tells_newest}
use Rattle.version_store.specs.Chains.{newest_epoch}
use Rattle.version_store.specs.History.{Kept, IsKept, chain_of}
use Rattle.region_core.specs.Region.{Standing, RegionValue, open_epoch, next_epoch, inbox_of, next_batches, next_candidates, last_in, with_standing}
use Rattle.region_core.specs.Entries as entry
use Rattle.region_core.specs.Entries.{Entry, next_batch, after}
use Rattle.region_core.specs.Publishing.{outcomes_by, next_outcomes, Becomes}
use Rattle.region_core.specs.Refusals.{round_refusal}
use Rattle.region_core.specs.Lawful.{IsStanding, IsRegion, Accepts}
use Rattle.region_core.specs.Calls.{IsOfEpoch, AreOutcomesFor}
use Rattle.region_core.specs.Rounds.{IsInEpoch, KeepsNext, RoundsGiveOutcomes, WholeEpochsStay, OutcomesStay}
use Rattle.region_core.specs.laws.Standings.{is_up, passes, batch_there, IsNewIn, is_new}

-- ---- rounds

pub few_held : (held : List Batch) (epoch regions : ℕ) → regions_held held epoch regions ≤ regions
few_held held epoch zero = omega arith
few_held held epoch (suc region) = by (is_held held epoch region) (few_held held epoch region)
  where
    by : (b : Bool) → regions_held held epoch region ≤ region → regions_held held epoch region + cond b 1 0 ≤ suc region
    by true rest = omega (arith, rest)
    by false rest = omega (arith, rest)

-- where a round isn't refused all batches of the next epoch are held
whole_next : (r : Standing) → IsStanding r → round_refusal r ≡ None → length (next_batches r) ≡ r.regions
whole_next r h none =
    let up = is_up _ r.up _ none in
    let enough = passes (nat_lt (length (next_batches r)) r.regions) _ _ up.1 in
    let all : r.regions ≤ length (next_batches r) = upto (length (next_batches r)) r.regions enough.0 in
    let few : regions_held r.held (next_epoch r) r.regions ≤ r.regions = few_held r.held (next_epoch r) r.regions in
    omega (arith, all, few, (held_counted (inbox_of r) (next_epoch r) h.places).counted)
  where
    upto : (n regions : ℕ) → nat_lt n regions ≡ false → regions ≤ n
    upto n regions e = grind (arith, nat_tests)

-- the last change of a row that the snapshot of the published epoch holds is the one that the region holds
last_same : (r : RegionValue) (before : Held) (row : RowId) → IsRegion r → IsOfEpoch r r.standing.published before → last_held before row ≡ last_in r row
last_same r before row region is = tells_newest before row snapshot last ∙ ap (λ (kept : Kept). newest_epoch (chain_of kept row)) is.versions
  where
    last : before.epoch ≡ before.versions.applied
    last = is.epoch ∙ sym region.applied ∙ ap (λ (kept : Kept). kept.applied) (sym is.versions)

    snapshot : IsSnapshot before
    snapshot = record {
      order = subst IsKept (sym is.versions) region.kept;
      from = omega (arith, is.epoch, region.horizon, ap (λ (kept : Kept). kept.horizon) is.versions);
      upto = omega (arith, last);
    }

pub rounds_give : RoundsGiveOutcomes
rounds_give r of batches before round region none is over = λ up. inr (epoch_is, whole_next r.standing region.stands none, λ i. map (verdict_of (last_is i) (epoch_is i) (all_is i)) (all_is i))
  where
    epoch_is : round.epoch ≡ next_epoch r.standing
    epoch_is = over.epoch ∙ is.epoch

    all_is : round.all ≡ next_candidates r.standing
    all_is = over.all ∙ ap candidates_of is.held

    last_is : round.last ≡ last_in r
    last_is = over.last ∙ (λ i row. last_same r before row region is.snapshot i)

-- ---- a whole epoch

-- a batch of another epoch makes no difference
held_beside : (held : List Batch) (batch : Batch) (epoch : ℕ) → (epoch == batch.epoch) ≡ false → held_of (with_batch held batch) epoch ≡ held_of held epoch
held_beside [] batch epoch apart = filter_no (λ b. epoch == b.epoch) batch [] apart
held_beside (x ∷ held) batch epoch apart = by (place_cmp (place_of batch) (place_of x)) refl (held_beside held batch epoch apart)
  where
    by : (o : Ordering) → place_cmp (place_of batch) (place_of x) ≡ o → held_of (with_batch held batch) epoch ≡ held_of held epoch →
        held_of (match_ordering o (batch ∷ x ∷ held) (batch ∷ held) (x ∷ with_batch held batch)) epoch ≡ held_of (x ∷ held) epoch
    by Less is rest = filter_no (λ b. epoch == b.epoch) batch (x ∷ held) apart
    by Equal is rest =
        let same : batch.epoch ≡ x.epoch = ap (λ (p : ℕ × ℕ). p.0) (exact_places (place_of batch) (place_of x) is) in
        filter_no (λ b. epoch == b.epoch) batch held apart ∙ sym (filter_no (λ b. epoch == b.epoch) x held (ap (λ (n : ℕ). epoch == n) (sym same) ∙ apart))
    by Greater is rest = ap (λ (l : List Batch). cond (epoch == x.epoch) (x ∷ l) l) rest

keeps_next : (old : RegionValue) (s : Standing) → s.published ≡ old.standing.published → held_of s.held (next_epoch old.standing) ≡ next_batches old.standing → KeepsNext old (with_standing s old)
keeps_next old s published held = record {
  epoch = epoch_is;
  batches = batches_are;
  outcomes = λ i. outcomes_by (last_in old) (epoch_is i) (candidates_of (batches_are i));
}
  where
    epoch_is : next_epoch s ≡ next_epoch old.standing
    epoch_is = ap (λ (n : ℕ). n + 1) published

    batches_are : next_batches s ≡ next_batches old.standing
    batches_are = ap (held_of s.held) epoch_is ∙ held

all_held : (r : Standing) → IsStanding r → length (next_batches r) ≡ r.regions → IsWhole (inbox_of r) (next_epoch r)
all_held r h whole = (held_counted (inbox_of r) (next_epoch r) h.places).all.0 whole

apart : (m n : ℕ) → (m ≡ n → ⊥) → (m == n) ≡ false
apart m n not_same = by (m == n) refl
  where
    by : (b : Bool) → (m == n) ≡ b → b ≡ false
    by true is = absurd (not_same (eqb-true m n is))
    by false is = refl

seal_beside : (r : Standing) → IsStanding r → r.up ≡ true → length (next_batches r) ≡ r.regions → held_of (with_batch r.held (next_batch r)) (next_epoch r) ≡ next_batches r
seal_beside r h up whole = held_beside r.held (next_batch r) (next_epoch r) (apart (next_epoch r) (open_epoch r) (λ same. omega (arith, same, sealed)))
  where
    sealed : next_epoch r ≤ length r.log
    sealed = batch_there r.log (next_epoch r) (ap is_some (sym (h.own up (next_epoch r) (omega arith))) ∙ all_held r h whole r.number h.there)

pub whole_stays : WholeEpochsStay
whole_stays old new (entry.Txn c) region accepts is within whole = subst (KeepsNext old) (sym is) (keeps_next old (after (entry.Txn c) old.standing) refl refl)
whole_stays old new (entry.Seal batch) region accepts is within whole =
    subst (KeepsNext old) (sym is)
    (keeps_next old (after (entry.Seal batch) old.standing) refl
    (ap (λ (b : Batch). held_of (with_batch old.standing.held b) (next_epoch old.standing)) accepts.1
    ∙ seal_beside old.standing region.stands (is_up _ old.standing.up _ accepts.0).0 whole))
whole_stays old new (entry.Arrive batch) region accepts is within whole =
    subst (KeepsNext old) (sym is)
    (keeps_next old (after (entry.Arrive batch) old.standing) refl
    (held_beside old.standing.held batch (next_epoch old.standing) (apart (next_epoch old.standing) batch.epoch taken)))
  where
    fresh : IsNewIn old.standing batch
    fresh = is_new old.standing batch accepts.2

    taken : next_epoch old.standing ≡ batch.epoch → ⊥
    taken same =
        let there : is_held old.standing.held batch.epoch batch.region ≡ true =
        ap (λ (n : ℕ). is_held old.standing.held n batch.region) (sym same) ∙ all_held old.standing region.stands whole batch.region accepts.1.0.here in
        absurd (differ (is_held old.standing.held batch.epoch batch.region) there fresh.free)
      where
        differ : (b : Bool) → b ≡ true → b ≡ false → ⊥
        differ true is not = cc
        differ false is not = cc
whole_stays old new (entry.Publish epoch) region accepts is within whole = absurd within
whole_stays old new (entry.Crash read) region accepts is within whole = absurd within

-- ---- outcomes

outcomes_kept : (old new : RegionValue) (judged : Decided) → KeepsNext old new → new.standing.published ≡ old.standing.published → new.standing.regions ≡ old.standing.regions →
    old.standing.up ≡ true → AreOutcomesFor old judged → AreOutcomesFor new judged
outcomes_kept old new judged keeps published regions up are = λ _. by (are up)
  where
    by : (judged.epoch ≤ old.standing.published) ⊎ ((judged.epoch ≡ next_epoch old.standing) × (length (next_batches old.standing) ≡ old.standing.regions) × (judged.outcomes ≡ next_outcomes old)) →
        (judged.epoch ≤ new.standing.published) ⊎ ((judged.epoch ≡ next_epoch new.standing) × (length (next_batches new.standing) ≡ new.standing.regions) × (judged.outcomes ≡ next_outcomes new))
    by (inl earlier) = inl (omega (arith, earlier, published))
    by (inr (epoch, whole, outcomes)) = inr (epoch ∙ sym keeps.epoch, ap length keeps.batches ∙ whole ∙ sym regions, outcomes ∙ sym keeps.outcomes)

-- outcomes of what is published serve whatever is held
outcomes_published : (old new : RegionValue) (judged : Decided) → next_epoch old.standing ≤ new.standing.published → old.standing.up ≡ true → AreOutcomesFor old judged → AreOutcomesFor new judged
outcomes_published old new judged upto up are = λ _. by (are up)
  where
    by : (judged.epoch ≤ old.standing.published) ⊎ ((judged.epoch ≡ next_epoch old.standing) × (length (next_batches old.standing) ≡ old.standing.regions) × (judged.outcomes ≡ next_outcomes old)) →
        (judged.epoch ≤ new.standing.published) ⊎ ((judged.epoch ≡ next_epoch new.standing) × (length (next_batches new.standing) ≡ new.standing.regions) × (judged.outcomes ≡ next_outcomes new))
    by (inl earlier) = inl (omega (arith, earlier, upto))
    by (inr (epoch, whole, outcomes)) = inl (omega (arith, epoch, upto))

-- an entry that stays in its epoch keeps the next one where it is whole; where it isn't, only outcomes of what is published are such
stay_in : (old new : RegionValue) (entry : Entry) (judged : Decided) → IsRegion old → Accepts old.standing entry → Becomes entry old new → IsInEpoch entry →
    new.standing.published ≡ old.standing.published → new.standing.regions ≡ old.standing.regions → old.standing.up ≡ true → AreOutcomesFor old judged → AreOutcomesFor new judged
stay_in old new entry judged region accepts is within published regions up are = by (are up)
  where
    by : (judged.epoch ≤ old.standing.published) ⊎ ((judged.epoch ≡ next_epoch old.standing) × (length (next_batches old.standing) ≡ old.standing.regions) × (judged.outcomes ≡ next_outcomes old)) → AreOutcomesFor new judged
    by (inl earlier) = λ _. inl (omega (arith, earlier, published))
    by (inr (epoch, whole, outcomes)) = outcomes_kept old new judged (whole_stays old new entry region accepts is within whole) published regions up are

pub outcomes_stay : OutcomesStay
outcomes_stay old new (entry.Txn c) judged region accepts is within up are =
    stay_in old new (entry.Txn c) judged region accepts is tt (ap (λ (r : RegionValue). r.standing.published) is) (ap (λ (r : RegionValue). r.standing.regions) is) up are
outcomes_stay old new (entry.Seal batch) judged region accepts is within up are =
    stay_in old new (entry.Seal batch) judged region accepts is tt (ap (λ (r : RegionValue). r.standing.published) is) (ap (λ (r : RegionValue). r.standing.regions) is) up are
outcomes_stay old new (entry.Arrive batch) judged region accepts is within up are =
    stay_in old new (entry.Arrive batch) judged region accepts is tt (ap (λ (r : RegionValue). r.standing.published) is) (ap (λ (r : RegionValue). r.standing.regions) is) up are
outcomes_stay old new (entry.Publish epoch) judged region accepts is within up are =
    outcomes_published old new judged (omega (arith, ap (λ (s : Standing). s.published) is.1.standing)) up are
outcomes_stay old new (entry.Crash read) judged region accepts is within up are = absurd within
