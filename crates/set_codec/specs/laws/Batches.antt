-- Laws: what reading batches tells, that no spelling of one begins another's, and which spellings one has.
use Rattle.std.proofs.Common.{◌≡◌, ◌≢◌, ◌⊎◌, ℕ, ◌+◌, ◌-◌, ◌<◌, ◌≤◌, true, leb, Option, None, List, [], ◌∷◌, ◌++◌, length, get_or, take, drop, All, refl, sym, ap, subst, ◌∙◌, inl, inr, arith}
use Rattle.std.proofs.lemmas.Bool.Decides.{not_from_Decides}
use Rattle.std.proofs.lemmas.Bool.{both_ways}
use Rattle.std.proofs.lemmas.List.{append_cancel_left, length-drop, take-append-le, take_all}
use Rattle.std.proofs.lemmas.List.Elements.{recursion_from_All, All-from_recursion}
use Rattle.geo_base.specs.declared.limits.TheConstants.{MAX_REGIONS, MAX_CANDIDATES, MAX_BATCH_BYTES, LAST_EPOCH}
use Rattle.geo_base.specs.Results.{◌>>=◌}
use Rattle.geo_base.specs.laws.Results.{done, ok_is}
use Rattle.geo_schema.specs.Schemas.{Tables, IsSchema}
use Rattle.row_codec.specs.Parts.{FirstOrLater}
use Rattle.row_codec.specs.Places.{AreBytes, StandsAt}
use Rattle.row_codec.specs.laws.Places.{stands_together, front_stands, rest_stands, begin_stands, whole_stands, rest_is}
use Rattle.row_codec.specs.laws.Tells.{tells_as, tells_done, tells_then, tells_kept}
use Rattle.geo_base.specs.laws.Answers.{Tells, one_answer}
use Rattle.write_set.specs.declared.batch.Batch.{Batch}
use Rattle.write_set.specs.declared.candidate.Candidate.{Candidate}
use Rattle.write_set.specs.declared.change.Change.{Change}
use Rattle.write_set.specs.declared.change.Change.TheVariants.{Put, Remove, Touch}
use Rattle.write_set.specs.Journal.{IsCandidate}
use Rattle.set_codec.specs.declared.format.Format.{Format}
use Rattle.set_codec.specs.declared.format.Format.TheVariants as format
use Rattle.set_codec.specs.declared.fault.CodecFault.{CodecFault}
use Rattle.set_codec.specs.declared.fault.CodecFault.TheVariants.{OverLimit}
use Rattle.set_codec.specs.declared.fault.Limit.TheVariants as limit
use Rattle.set_codec.specs.Alone.{SpellsBatch, OneBatchOrFault, TouchesNothing, SpellingsOfBatches, NoBatchBeginsAnother}
use Rattle.set_codec.specs.Faults.{IsMarkFault, IsOtherFault, IsEpochFault, IsCountFault, IsCandidatesFault, IsTrailing, IsFrontFault, IsBatchFaultAt, IsBatchFault}
use Rattle.set_codec.specs.Fits.{FitsTables, HaveCells, FitsRegions, HasChanges, IsSpelling}
use Rattle.set_codec.specs.Rules.{IsOther, IsBatchSize, IsEnd, has_kind}
use Rattle.set_codec.specs.Spelling.{kind_of, number_spelling, mark, candidates_spelling, batch_spelling}
use Rattle.set_codec.specs.Standing.{MarkStands, OtherStands, EpochStands, CountStands, CandidatesStand, BatchStands}
use Rattle.set_codec.specs.inner.Reading.{mark_at, other_at, epoch_at, count_at, candidates_at, end_at, front_at, body_at, batch_at}
use Rattle.set_codec.specs.laws.Fields.{decides_le, mark_tells, other_tells, epoch_tells, count_tells, end_tells}
use Rattle.set_codec.specs.laws.Candidates.{candidates_tell}
use Rattle.set_codec.specs.laws.Lengths.{mark_len, batch_len}

module _ (bytes : List ℕ) (tables : Tables) (schema : IsSchema tables) (regions : ℕ) (to : Option ℕ) where
  abbrev made : ℕ → ℕ → List Candidate × ℕ → Batch × ℕ
  made region epoch items = (record { region = region; epoch = epoch; items = items.0 }, items.1)

  abbrev ItemsRead : Format → ℕ → ℕ → ℕ → List Candidate × ℕ → Type 0
  ItemsRead format epoch count at x = (length x.0 ≡ count) × CandidatesStand format tables epoch bytes at x

  abbrev BehindCount : Format → ℕ → ℕ → ℕ × ℕ → Batch × ℕ → Type 0
  BehindCount format region epoch count y = (items : List Candidate × ℕ) × ItemsRead format epoch count.0 count.1 items × (made region epoch items ≡ y)

  abbrev BehindEpoch : Format → ℕ → ℕ × ℕ → Batch × ℕ → Type 0
  BehindEpoch format region epoch y = (count : ℕ × ℕ) × CountStands bytes epoch.1 count × BehindCount format region epoch.0 count y

  abbrev BehindRegion : Format → ℕ × ℕ → Batch × ℕ → Type 0
  BehindRegion format region y = (epoch : ℕ × ℕ) × EpochStands bytes region.1 epoch × BehindEpoch format region.0 epoch y

  abbrev BehindMark : Format × ℕ → Batch × ℕ → Type 0
  BehindMark format y = (region : ℕ × ℕ) × OtherStands regions to bytes format.1 region × BehindRegion format.0 region y

  abbrev PartsStand : ℕ → Batch × ℕ → Type 0
  PartsStand at y = (format : Format × ℕ) × MarkStands bytes at format × BehindMark format y

  abbrev FaultBehindEpoch : Format → ℕ × ℕ → CodecFault → Type 0
  FaultBehindEpoch format epoch e = FirstOrLater (IsCountFault bytes epoch.1 e) (CountStands bytes epoch.1) (λ count. IsCandidatesFault format tables epoch.0 count.0 bytes count.1 e)

  abbrev FaultBehindRegion : Format → ℕ × ℕ → CodecFault → Type 0
  FaultBehindRegion format region e = FirstOrLater (IsEpochFault bytes region.1 e) (EpochStands bytes region.1) (λ epoch. FaultBehindEpoch format epoch e)

  abbrev FaultBehindMark : Format × ℕ → CodecFault → Type 0
  FaultBehindMark format e = FirstOrLater (IsOtherFault regions to 1 bytes format.1 e) (OtherStands regions to bytes format.1) (λ region. FaultBehindRegion format.0 region e)

  -- the candidates, and the batch that they make
  items_tell : (format : Format) (region epoch : ℕ) (count : ℕ × ℕ) → epoch < LAST_EPOCH → Tells (AreBytes bytes) (candidates_at format tables epoch count.0 bytes count.1 >>= λ items. done (made region epoch items)) (BehindCount format region epoch count) (IsCandidatesFault format tables epoch count.0 bytes count.1)
  items_tell format region epoch count sealed =
      tells_as (AreBytes bytes) (BehindCount format region epoch count) (BehindCount format region epoch count) (λ e. FirstOrLater (IsCandidatesFault format tables epoch count.0 bytes count.1 e) (ItemsRead format epoch count.0 count.1) (λ _. ⊥)) (IsCandidatesFault format tables epoch count.0 bytes count.1)
      (tells_then (AreBytes bytes) (candidates_at format tables epoch count.0 bytes count.1) (λ items. done (made region epoch items)) (ItemsRead format epoch count.0 count.1) (IsCandidatesFault format tables epoch count.0 bytes count.1)
      (λ items y. made region epoch items ≡ y) (λ _ _. ⊥) (candidates_tell bytes format tables schema epoch sealed count.0 count.1) (λ items _. tells_done (AreBytes bytes) (made region epoch items)))
      (λ _ y s. s) (λ y s. s) (λ _ e h. elim h [ inl c ↦ c | inr c ↦ absurd c.2 ]) (λ e h. inl h)

  parts_tell : (at : ℕ) → Tells (AreBytes bytes) (front_at tables regions to bytes at) (PartsStand at) (IsFrontFault tables regions to bytes at)
  unfolding front_at
  parts_tell at =
      tells_then (AreBytes bytes) (mark_at bytes at) _ (MarkStands bytes at) (IsMarkFault bytes at) BehindMark FaultBehindMark (mark_tells bytes at) (λ format _.
      tells_then (AreBytes bytes) (other_at regions to 1 bytes format.1) _ (OtherStands regions to bytes format.1) (IsOtherFault regions to 1 bytes format.1) (BehindRegion format.0) (FaultBehindRegion format.0) (other_tells bytes regions to 1 format.1) (λ region _.
      tells_then (AreBytes bytes) (epoch_at bytes region.1) _ (EpochStands bytes region.1) (IsEpochFault bytes region.1) (BehindEpoch format.0 region.0) (FaultBehindEpoch format.0) (epoch_tells bytes region.1) (λ epoch sealable.
      tells_then (AreBytes bytes) (count_at bytes epoch.1) _ (CountStands bytes epoch.1) (IsCountFault bytes epoch.1) (BehindCount format.0 region.0 epoch.0) (λ count. IsCandidatesFault format.0 tables epoch.0 count.0 bytes count.1) (count_tells bytes epoch.1)
      (λ count _. items_tell format.0 region.0 epoch.0 count sealable.1.1))))

  together : (at : ℕ) (y : Batch × ℕ) → PartsStand at y → BatchStands tables regions to bytes at y
  unfolding batch_spelling
  together at y (of, mark_there, (region, region_there, (epoch, epoch_there, (count, count_there, (items, read, is))))) =
      let spelled = candidates_spelling tables items.0 in
      let number = number_spelling (length items.0) in
      let number_there : StandsAt number bytes epoch.1 count.1 = subst (λ (n : ℕ). StandsAt (number_spelling n) bytes epoch.1 count.1) (sym read.0) count_there.0.0 in
      let few : length items.0 ≤ MAX_CANDIDATES = subst (λ (n : ℕ). n ≤ MAX_CANDIDATES) (sym read.0) count_there.1 in
      let behind_epoch = stands_together number spelled bytes epoch.1 count.1 items.1 number_there read.1.stands in
      let behind_region = stands_together (number_spelling epoch.0) (number ++ spelled) bytes region.1 epoch.1 items.1 epoch_there.0.0 behind_epoch in
      let behind_mark = stands_together (region.0 ∷ []) (number_spelling epoch.0 ++ (number ++ spelled)) bytes of.1 region.1 items.1 region_there.0.0 behind_region in
      let mark_stands : StandsAt (mark of.0) bytes at of.1 = subst (λ (m : List ℕ). StandsAt m bytes at of.1) mark_there.2 mark_there.1.0 in
      subst (BatchStands tables regions to bytes at) is
      (record {
        here = region_there.0.1;
        other = region_there.1;
        sealable = epoch_there.1;
        lawful = record { region = refl; epoch = refl; few = few; lawful = All-from_recursion (IsCandidate epoch.0) items.0 read.1.lawful };
        items = read.1.fits;
        cells = read.1.cells;
        format = of.0;
        has = read.1.has;
        stands = stands_together (mark of.0) (region.0 ∷ (number_spelling epoch.0 ++ (number ++ spelled))) bytes at of.1 items.1 mark_stands behind_mark;
      })

  apart : (at : ℕ) (y : Batch × ℕ) → BatchStands tables regions to bytes at y → PartsStand at y
  unfolding batch_spelling
  apart at (b, next) s =
      let spelled = candidates_spelling tables b.items in
      let number = number_spelling (length b.items) in
      let few : length b.items ≤ MAX_CANDIDATES = s.lawful.few in
      let sealed : b.epoch < LAST_EPOCH = s.sealable.1 in
      let marked = mark s.format in
      let len = mark_len s.format in
      let all = b.region ∷ (number_spelling b.epoch ++ (number ++ spelled)) in
      let place : at + length marked ≡ at + 4 = omega (arith, len) in
      let behind_mark : StandsAt all bytes (at + 4) next = subst (λ (n : ℕ). StandsAt all bytes n next) place (rest_stands marked all bytes at next s.stands) in
      let mark_there : StandsAt marked bytes at (at + 4) = subst (StandsAt marked bytes at) place (front_stands marked all bytes at next s.stands) in
      let behind_region = rest_stands (b.region ∷ []) (number_spelling b.epoch ++ (number ++ spelled)) bytes (at + 4) next behind_mark in
      let behind_epoch = rest_stands (number_spelling b.epoch) (number ++ spelled) bytes (at + 4 + 1) next behind_region in (
        (s.format, at + 4),
        (marked, (mark_there, len), refl),
        (
          (b.region, at + 4 + 1),
          ((front_stands (b.region ∷ []) (number_spelling b.epoch ++ (number ++ spelled)) bytes (at + 4) next behind_mark, s.here), s.other),
          (
            (b.epoch, at + 4 + 1 + 4),
            ((front_stands (number_spelling b.epoch) (number ++ spelled) bytes (at + 4 + 1) next behind_region, omega (arith, sealed)), s.sealable),
            (
              (length b.items, at + 4 + 1 + 4 + 4),
              ((front_stands number spelled bytes (at + 4 + 1 + 4) next behind_epoch, omega (arith, few)), few),
              (
                (b.items, next),
                (
                  refl,
                  record {
                    lawful = recursion_from_All (IsCandidate b.epoch) b.items s.lawful.lawful;
                    fits = s.items;
                    cells = s.cells;
                    has = s.has;
                    stands = rest_stands number spelled bytes (at + 4 + 1 + 4) next behind_epoch;
                  },
                ),
                refl,
              ),
            ),
          ),
        ),
      )

  pub front_tells : (at : ℕ) → Tells (AreBytes bytes) (front_at tables regions to bytes at) (BatchStands tables regions to bytes at) (IsFrontFault tables regions to bytes at)
  front_tells at =
      tells_as (AreBytes bytes) (PartsStand at) (BatchStands tables regions to bytes at) (IsFrontFault tables regions to bytes at) (IsFrontFault tables regions to bytes at) (parts_tell at) (λ _. together at) (apart at) (λ _ e h. h) (λ e h. h)

  -- ---- up to the end

  -- the batch stands there up to the end, and the bytes are not too many
  abbrev pub LastStands : ℕ → Batch → Type 0
  LastStands at b = IsBatchSize (length bytes - at) × ((x : Batch × ℕ) × BatchStands tables regions to bytes at x × (IsEnd bytes x.1 × (x.0 ≡ b)))

  pub batch_tells : (at : ℕ) → Tells (AreBytes bytes) (batch_at tables regions to bytes at) (LastStands at) (IsBatchFaultAt tables regions to bytes at)
  unfolding batch_at body_at
  batch_tells at =
      let d = decides_le (length bytes - at) MAX_BATCH_BYTES in
      tells_kept (AreBytes bytes) (leb (length bytes - at) MAX_BATCH_BYTES) (IsBatchSize (length bytes - at)) (OverLimit (at + MAX_BATCH_BYTES) limit.BatchBytes) (body_at tables regions to bytes at)
      (λ b. (x : Batch × ℕ) × BatchStands tables regions to bytes at x × (IsEnd bytes x.1 × (x.0 ≡ b))) (λ e. FirstOrLater (IsFrontFault tables regions to bytes at e) (BatchStands tables regions to bytes at) (λ x. IsTrailing bytes x.1 e))
      d.0 (not_from_Decides (leb (length bytes - at) MAX_BATCH_BYTES) d)
      (tells_then (AreBytes bytes) (front_at tables regions to bytes at) (λ x. end_at x.0 bytes x.1) (BatchStands tables regions to bytes at) (IsFrontFault tables regions to bytes at) (λ x b. IsEnd bytes x.1 × (x.0 ≡ b)) (λ x. IsTrailing bytes x.1)
      (front_tells at) (λ x _. end_tells bytes x.0 x.1))

  -- a batch that was read is lawful, and its spelling is the rest of the bytes
  pub last_lawful : (at : ℕ) (b : Batch) → LastStands at b → IsSpelling tables b (drop at bytes) × (regions ≤ MAX_REGIONS → FitsRegions tables regions b) × IsOther to b.region
  last_lawful at b (small, (x, s, (end, is))) =
      let rest : drop at bytes ≡ batch_spelling s.format tables x.0 = rest_is (batch_spelling s.format tables x.0) bytes at x.1 s.stands end in
      let few : length (batch_spelling format.Ggb2 tables x.0) ≤ MAX_BATCH_BYTES = omega (arith, small, length-drop at bytes, ap length rest, batch_len s.format tables x.0, batch_len format.Ggb2 tables x.0) in
      subst (λ (c : Batch). IsSpelling tables c (drop at bytes) × (regions ≤ MAX_REGIONS → FitsRegions tables regions c) × IsOther to c.region) is (
        record { format = s.format; has = All-from_recursion (HasChanges s.format) x.0.items s.has; is = sym rest },
        (λ within. record {
          here = s.here;
          fits = record { region = omega (arith, s.here, within); sealable = s.sealable; lawful = s.lawful; items = All-from_recursion (FitsTables tables) x.0.items s.items; few = few };
          cells = All-from_recursion HaveCells x.0.items s.cells;
        }),
        s.other,
      )

  -- a lawful one of which a spelling stands there
  pub lawful_stands : (at next : ℕ) (b : Batch) (spelled : List ℕ) → FitsRegions tables regions b → IsOther to b.region → IsSpelling tables b spelled → StandsAt spelled bytes at next → BatchStands tables regions to bytes at (b, next)
  lawful_stands at next b spelled fits other spelling stands = record {
    here = fits.here;
    other = other;
    sealable = fits.fits.sealable;
    lawful = fits.fits.lawful;
    items = recursion_from_All (FitsTables tables) b.items fits.fits.items;
    cells = recursion_from_All HaveCells b.items fits.cells;
    format = spelling.format;
    has = recursion_from_All (HasChanges spelling.format) b.items spelling.has;
    stands = subst (λ (t : List ℕ). StandsAt t bytes at next) (sym spelling.is) stands;
  }

  pub lawful_last : (at next : ℕ) (b : Batch) (spelled : List ℕ) → FitsRegions tables regions b → IsOther to b.region → IsSpelling tables b spelled → StandsAt spelled bytes at next → IsEnd bytes next → LastStands at b
  lawful_last at next b spelled fits other spelling stands end =
      let few : length (batch_spelling format.Ggb2 tables b) ≤ MAX_BATCH_BYTES = fits.fits.few in
      let len : length (drop at bytes) ≡ length (batch_spelling spelling.format tables b) = ap length (rest_is spelled bytes at next stands end ∙ sym spelling.is) in
      (omega (arith, few, length-drop at bytes, len, batch_len spelling.format tables b, batch_len format.Ggb2 tables b), ((b, next), lawful_stands at next b spelled fits other spelling stands, (end, refl)))

-- ---- whole batches

-- where the bytes spell a batch, it stands there up to the end
pub spelled_last : (tables : Tables) (regions : ℕ) (bytes : List ℕ) (b : Batch) → (schema : IsSchema tables) → SpellsBatch tables regions bytes b → LastStands bytes tables schema regions None 0 b
spelled_last tables regions bytes b schema s = lawful_last bytes tables schema regions None 0 (length bytes) b bytes s.0 tt s.1 (whole_stands bytes) (omega arith)

pub one_batch : OneBatchOrFault
one_batch tables regions bytes schema within fits =
    one_answer (AreBytes bytes) (batch_at tables regions None bytes 0) (SpellsBatch tables regions bytes) (IsBatchFault tables regions bytes)
    (tells_as (AreBytes bytes) (LastStands bytes tables schema regions None 0) (SpellsBatch tables regions bytes) (IsBatchFault tables regions bytes) (IsBatchFault tables regions bytes) (batch_tells bytes tables schema regions None 0)
    (λ _ b s. let l = last_lawful bytes tables schema regions None 0 b s in (l.1 within, l.0)) (λ b s. spelled_last tables regions bytes b schema s) (λ _ e h. h) (λ e h. h))
    fits

-- ---- beginnings

pub batch_alone : NoBatchBeginsAnother
batch_alone tables regions a b spelled_a spelled_b after_a after_b schema spells_a spells_b e =
    let read_a = (front_tells (spelled_a ++ after_a) tables schema regions None 0).only (a, length spelled_a)
    (lawful_stands (spelled_a ++ after_a) tables schema regions None 0 (length spelled_a) a spelled_a spells_a.0 tt spells_a.1 (begin_stands spelled_a after_a)) in
    let read_b = (front_tells (spelled_b ++ after_b) tables schema regions None 0).only (b, length spelled_b)
    (lawful_stands (spelled_b ++ after_b) tables schema regions None 0 (length spelled_b) b spelled_b spells_b.0 tt spells_b.1 (begin_stands spelled_b after_b)) in
    let both = ok_is (a, length spelled_a) (b, length spelled_b) (sym read_a ∙ ap (λ (t : List ℕ). front_at tables regions None t 0) e ∙ read_b) in
    let len : length spelled_a ≡ length spelled_b = ap (λ (p : Batch × ℕ). p.1) both in
    let spelled : spelled_a ≡ spelled_b = same_front spelled_a spelled_b after_a after_b len e in
    (ap (λ (p : Batch × ℕ). p.0) both, spelled, append_cancel_left spelled_a after_a after_b (e ∙ ap (λ (t : List ℕ). t ++ after_b) (sym spelled)))
  where
    front_of : (front rest : List ℕ) → take (length front) (front ++ rest) ≡ front
    front_of front rest = take-append-le (length front) front rest (omega arith) ∙ take_all (length front) front (omega arith)

    same_front : (a b after_a after_b : List ℕ) → length a ≡ length b → a ++ after_a ≡ b ++ after_b → a ≡ b
    same_front a b after_a after_b len e =
        sym (front_of a after_a) ∙ ap (take (length a)) e ∙ ap (λ (n : ℕ). take n (b ++ after_b)) len ∙ front_of b after_b

-- ---- which spellings a batch has

-- GGB1 has all changes but touches
older_has : (change : Change) → change ≢ Touch → has_kind format.Ggb1 (kind_of change) ≡ true
older_has (Put image) other = refl
older_has Remove other = refl
older_has Touch other = absurd (other refl)

older_alone : (change : Change) → has_kind format.Ggb1 (kind_of change) ≡ true → change ≢ Touch
older_alone change has e = both_ways (has_kind format.Ggb1 (kind_of change)) (ap (λ (c : Change). has_kind format.Ggb1 (kind_of c)) e) has

pub batch_spellings : SpellingsOfBatches
batch_spellings tables batch = record {
  newer = record { format = format.Ggb2; has = λ i c lt k change within. refl; is = refl };
  older = λ nothing. record { format = format.Ggb1; has = λ i c lt k change within. older_has (get_or (get_or batch.items i c).set k change).1 (nothing i c lt k change within); is = refl };
  only = λ bytes s. by s.format s.has bytes s.is;
}
  where
    by : (of : Format) → All (HasChanges of) batch.items → (bytes : List ℕ) → batch_spelling of tables batch ≡ bytes →
        (bytes ≡ batch_spelling format.Ggb2 tables batch) ⊎ (TouchesNothing batch × (bytes ≡ batch_spelling format.Ggb1 tables batch))
    by format.Ggb1 has bytes is = inr (λ i c lt k change within. older_alone (get_or (get_or batch.items i c).set k change).1 (has i c lt k change within), sym is)
    by format.Ggb2 has bytes is = inl (sym is)
