-- A store that follows the versions to a later horizon is that of what they keep.
use Rattle.std.proofs.Common.{◌≡◌, ◌⊎◌, inl, inr, ⊎_elim, ℕ, zero, suc, ◌+◌, ◌-◌, ◌<◌, ◌≤◌, true, nat_lt, List, filter, sym, ap, ◌∙◌, subst, arith}
use Rattle.std.specs.Map.{keys_of}
use Rattle.std.proofs.lemmas.Bool.{cases_lt}
use Rattle.std.proofs.lemmas.Bool.Decides.{nat_tests}
use Rattle.geo_schema.specs.Schemas.{Tables}
use Rattle.write_set.specs.laws.Among.{among_filtered, filtered_among}
use Rattle.index_store.specs.declared.pair.IndexPair.{IndexPair}
use Rattle.index_store.specs.Indexes.{IsIndexOf}
use Rattle.index_store.specs.Kept.{KeptImages, IsKeptEpoch, IsRestOf}
use Rattle.index_store.specs.Pairs.{row_of, IsPairIn, IsHadAt}
use Rattle.index_store.specs.Store.{Stored, IsStoreOf}
use Rattle.index_store.specs.inner.Dropping.{left_at}
use Rattle.index_store.specs.inner.GainsAndLosses.{Loss, IsLostAfter, IsGainedAfter, IsLastGain, AreGainsAndLosses}
use Rattle.index_store.proofs.Having.{either}
use Rattle.index_store.proofs.Dropped.{IsGotSince, found_left, left_found}
use Rattle.index_store.proofs.Found.{Entries, found_there, there_found}

-- ---- between two epochs of which a row has a pair after the one and not after the other

module _ (tables : Tables) (kept : KeptImages) (pair : IndexPair) where
  abbrev Had : ℕ → Type 0
  Had epoch = IsHadAt tables kept pair epoch

  had_or_not : (epoch : ℕ) → Had epoch ⊎ (Had epoch → ⊥)
  had_or_not epoch = either tables pair (kept.image (row_of pair) epoch)

  -- it lost it in an epoch between
  loses_between : (from count : ℕ) → Had from → (Had (from + count) → ⊥) →
      (epoch : ℕ) × (from ≤ epoch) × (epoch < from + count) × IsLostAfter tables kept pair epoch
  loses_between from zero had gone =
      let same : from ≡ from + 0 = omega arith in
      absurd (gone (subst Had same had))
  loses_between from (suc count) had gone =
      ⊎_elim
      (λ still.
      let same : from + count + 1 ≡ from + suc count = omega arith in
      (from + count, omega arith, omega arith, record { had = still; gone = λ has. gone (subst Had same has) }))
      (λ before.
      let (epoch, after, upto, loses) = loses_between from count had before in
      (epoch, after, omega (arith, upto), loses))
      (had_or_not (from + count))

  -- it got it in an epoch between
  gains_between : (from count : ℕ) → (Had from → ⊥) → Had (from + count) →
      (epoch : ℕ) × (from ≤ epoch) × (epoch < from + count) × IsGainedAfter tables kept pair epoch
  gains_between from zero absent has =
      let same : from + 0 ≡ from = omega arith in
      absurd (absent (subst Had same has))
  gains_between from (suc count) absent has =
      ⊎_elim
      (λ already.
      let (epoch, after, upto, gains) = gains_between from count absent already in
      (epoch, after, omega (arith, upto), gains))
      (λ not_yet.
      let same : from + suc count ≡ from + count + 1 = omega arith in
      (from + count, omega arith, omega arith, record { absent = not_yet; has = subst Had same has }))
      (had_or_not (from + count))

  pub loses : (from to : ℕ) → from ≤ to → Had from → (Had to → ⊥) →
      (epoch : ℕ) × (from ≤ epoch) × (epoch < to) × IsLostAfter tables kept pair epoch
  loses from to order had gone =
      let far : from + (to - from) ≡ to = omega (arith, order) in
      let (epoch, after, upto, is) = loses_between from (to - from) had (λ has. gone (subst Had far has)) in
      (epoch, after, omega (arith, upto, far), is)

  pub gains : (from to : ℕ) → from ≤ to → (Had from → ⊥) → Had to →
      (epoch : ℕ) × (from ≤ epoch) × (epoch < to) × IsGainedAfter tables kept pair epoch
  gains from to order absent has =
      let far : from + (to - from) ≡ to = omega (arith, order) in
      let (epoch, after, upto, is) = gains_between from (to - from) absent (subst Had (sym far) has) in
      (epoch, after, omega (arith, upto, far), is)

-- ---- the store

module _ (tables : Tables) (old new : KeptImages) (rest : IsRestOf old new) (entries : Entries) (losses : List Loss)
    (store : IsStoreOf tables old (record { entries = entries; losses = losses })) where
  abbrev entries_left : Entries
  entries_left = left_at new.first losses entries

  abbrev losses_left : List Loss
  losses_left = filter (λ loss. nat_lt new.first loss.epoch) losses

  kept_before : (epoch : ℕ) → IsKeptEpoch new epoch → IsKeptEpoch old epoch
  kept_before epoch kept = record { from = omega (arith, kept.from, rest.first); upto = omega (arith, kept.upto, rest.last) }

  had_before : (pair : IndexPair) (epoch : ℕ) → IsKeptEpoch new epoch → IsHadAt tables new pair epoch → IsHadAt tables old pair epoch
  had_before pair epoch kept had = subst (IsPairIn tables pair) (rest.same (row_of pair) epoch kept) had

  had_still : (pair : IndexPair) (epoch : ℕ) → IsKeptEpoch new epoch → IsHadAt tables old pair epoch → IsHadAt tables new pair epoch
  had_still pair epoch kept had = subst (IsPairIn tables pair) (sym (rest.same (row_of pair) epoch kept)) had

  -- a pair that a row has after an epoch that is kept still was got since
  got_since : (pair : IndexPair) (gain : ℕ) → IsLastGain tables old pair gain → (epoch : ℕ) → IsKeptEpoch new epoch → IsHadAt tables old pair epoch →
      IsGotSince new.first losses pair gain
  got_since pair gain its epoch kept had lost noted upto =
      let loss = store.notes.noted pair lost noted in
      let (got, after, before, is) = gains tables old pair lost epoch (omega (arith, upto, kept.from)) loss.gone had in
      let last = its.last got (omega (arith, after, loss.from)) (omega (arith, before, kept.upto, rest.last)) is in
      omega (arith, last, after)

  -- a pair that is left is had after an epoch that is kept still
  had_left : (pair : IndexPair) (gain : ℕ) → IsLastGain tables old pair gain → IsGotSince new.first losses pair gain →
      (epoch : ℕ) → IsKeptEpoch old epoch → IsHadAt tables old pair epoch → (at : ℕ) × IsKeptEpoch new at × IsHadAt tables old pair at
  had_left pair gain its since epoch kept had = by (cases_lt gain new.first) (either tables pair (old.image (row_of pair) new.first))
    where
      -- where it was got last, or the first epoch that was kept: it is had after that one
      got_at : gain < new.first → (at : ℕ) × (old.first ≤ at) × (at ≤ new.first) × (gain ≤ at) × IsHadAt tables old pair at
      got_at early = told (cases_lt gain old.first) (either tables pair (old.image (row_of pair) old.first))
        where
          told : ((gain < old.first) ⊎ (old.first ≤ gain)) → (IsHadAt tables old pair old.first ⊎ (IsHadAt tables old pair old.first → ⊥)) →
              (at : ℕ) × (old.first ≤ at) × (at ≤ new.first) × (gain ≤ at) × IsHadAt tables old pair at
          told (inr from) first = (gain, from, omega (arith, early), omega arith, its.had from)
          told (inl before) (inl first) = (old.first, omega arith, rest.first, omega (arith, before), first)
          told (inl before) (inr absent) =
              let (got, after, upto, is) = gains tables old pair old.first epoch kept.from absent had in
              let last = its.last got after (omega (arith, upto, kept.upto)) is in
              absurd (omega (arith, last, after, before))

      by : ((gain < new.first) ⊎ (new.first ≤ gain)) → (IsHadAt tables old pair new.first ⊎ (IsHadAt tables old pair new.first → ⊥)) →
          (at : ℕ) × IsKeptEpoch new at × IsHadAt tables old pair at
      by (inr late) first =
          (gain, record { from = late; upto = omega (arith, its.upto, rest.last) }, its.had (omega (arith, late, rest.first)))
      by (inl early) (inl has) = (new.first, record { from = omega arith; upto = rest.some }, has)
      by (inl early) (inr hasnt) =
          let (at, from, upto, since_gain, here) = got_at early in
          let (lost, after, before, is) = loses tables old pair at new.first upto here hasnt in
          let noted = store.notes.lost pair lost (omega (arith, from, after)) (omega (arith, before, rest.some, rest.last)) is in
          let less = since (lost + 1) noted (omega (arith, before)) in
          absurd (omega (arith, less, since_gain, after))

  index_left : IsIndexOf tables new (keys_of entries_left)
  index_left = record {
    each = λ pair epoch kept had.
        let before = had_before pair epoch kept had in
        let (gain, is_found) = there_found pair entries (store.index.each pair epoch (kept_before epoch kept) before) in
        found_there pair gain entries_left (left_found new.first losses pair entries gain is_found (got_since pair gain.epoch (store.notes.gained pair gain is_found) epoch kept before));
    only = λ pair c.
        let (gain, is_left) = there_found pair entries_left c in
        let its = found_left new.first losses pair entries gain is_left in
        let (epoch, kept, had) = store.index.only pair (found_there pair gain entries its.0) in
        let (at, kept_still, has) = had_left pair gain.epoch (store.notes.gained pair gain its.0) its.1 epoch kept had in
        (at, kept_still, had_still pair at kept_still has);
  }

  later : (a b : ℕ) → a < b → nat_lt a b ≡ true
  later a b less = grind (arith, nat_tests, less)

  is_later : (a b : ℕ) → nat_lt a b ≡ true → a < b
  is_later a b is = grind (arith, nat_tests, is)

  notes_left : AreGainsAndLosses tables new entries_left losses_left
  notes_left = record {
    lost = λ pair epoch from before loses.
        let now : IsKeptEpoch new epoch = record { from = from; upto = omega (arith, before) } in
        let after : IsKeptEpoch new (epoch + 1) = record { from = omega (arith, from); upto = omega (arith, before) } in
        let noted = store.notes.lost pair epoch (omega (arith, from, rest.first)) (omega (arith, before, rest.last))
        (record { had = had_before pair epoch now loses.had; gone = λ has. loses.gone (had_still pair (epoch + 1) after has) }) in
        record {
          loss = noted.loss;
          among = among_filtered (λ loss. nat_lt new.first loss.epoch) losses noted.loss noted.among (later new.first noted.loss.epoch (omega (arith, noted.epoch, from)));
          epoch = noted.epoch;
          pair = noted.pair;
        };
    noted = λ pair epoch noted.
        let (among, test) = filtered_among (λ loss. nat_lt new.first loss.epoch) losses noted.loss noted.among in
        let after = is_later new.first noted.loss.epoch test in
        let is = store.notes.noted pair epoch (record { loss = noted.loss; among = among; epoch = noted.epoch; pair = noted.pair }) in
        record {
          from = omega (arith, after, noted.epoch);
          upto = omega (arith, is.upto, rest.last);
          gone = λ has. is.gone (had_before pair epoch (record { from = omega (arith, after, noted.epoch); upto = omega (arith, is.upto, rest.last) }) has);
        };
    gained = λ pair gain is_left.
        let its = store.notes.gained pair gain (found_left new.first losses pair entries gain is_left).0 in
        record {
          upto = omega (arith, its.upto, rest.last);
          had = λ from. had_still pair gain.epoch (record { from = from; upto = omega (arith, its.upto, rest.last) }) (its.had (omega (arith, from, rest.first)));
          last = λ epoch from before gains.
              let now : IsKeptEpoch new epoch = record { from = from; upto = omega (arith, before) } in
              let after : IsKeptEpoch new (epoch + 1) = record { from = omega (arith, from); upto = omega (arith, before) } in
              its.last epoch (omega (arith, from, rest.first)) (omega (arith, before, rest.last))
              (record { absent = λ has. gains.absent (had_still pair epoch now has); has = had_before pair (epoch + 1) after gains.has });
        };
  }

  pub store_trimmed : IsStoreOf tables new (record { entries = entries_left; losses = losses_left })
  store_trimmed = record { index = index_left; notes = notes_left }

-- the same of a store that became so
pub follows_horizon : (tables : Tables) (old new : KeptImages) (before after : Stored) → IsStoreOf tables old before → IsRestOf old new →
    after.entries ≡ left_at new.first before.losses before.entries → after.losses ≡ filter (λ loss. nat_lt new.first loss.epoch) before.losses →
    IsStoreOf tables new after
follows_horizon tables old new before after store rest entries losses =
    subst (λ (s : Stored). IsStoreOf tables new s) (λ i. record { entries = sym entries i; losses = sym losses i })
    (store_trimmed tables old new rest before.entries before.losses store)

-- the same by what each call of `trim` gives
pub trim_call : (tables : Tables) (old new : KeptImages) (inside before after : Stored) (horizon : ℕ) (forked : Entries) (shown again : List Loss) →
    IsStoreOf tables old before → IsRestOf old new → inside ≡ before → horizon ≡ new.first → forked ≡ inside.entries → shown ≡ inside.losses → again ≡ inside.losses →
    after.entries ≡ left_at horizon shown forked → after.losses ≡ filter (λ loss. nat_lt horizon loss.epoch) again → IsStoreOf tables new after
trim_call tables old new inside before after horizon forked shown again store rest seen now fork first second dropped later =
    follows_horizon tables old new before after store rest
    (dropped ∙ ap (λ h. left_at h shown forked) now ∙ ap (λ losses. left_at new.first losses forked) (first ∙ ap (λ (s : Stored). s.losses) seen)
    ∙ ap (left_at new.first before.losses) (fork ∙ ap (λ (s : Stored). s.entries) seen))
    (later ∙ ap (λ h. filter (λ loss. nat_lt h loss.epoch) again) now ∙ ap (filter (λ loss. nat_lt new.first loss.epoch)) (second ∙ ap (λ (s : Stored). s.losses) seen))
