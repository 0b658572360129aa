-- Laws: what reading candidates tells.
use Rattle.std.proofs.Common.{◌≡◌, ℕ, ◌+◌, ◌-◌, ◌<◌, ◌≤◌, cond, leb, None, List, ◌++◌, length, refl, sym, subst, ◌⊎◌, inl, inr, arith}
use Rattle.std.specs.Bool.{Decides}
use Rattle.std.proofs.lemmas.Bool.Decides.{Decides-like, not_from_Decides}
use Rattle.std.proofs.lemmas.List.Elements.{recursion_from_All, All-from_recursion}
use Rattle.geo_base.specs.declared.limits.TheConstants.{MAX_SET_ROWS, MAX_SET_BYTES, LAST_EPOCH}
use Rattle.geo_base.specs.laws.Results.{done, lost}
use Rattle.geo_schema.specs.Schemas.{Tables, IsSchema}
use Rattle.row_codec.specs.Parts.{FirstOrLater}
use Rattle.row_codec.specs.Places.{AreBytes, StandsAt}
use Rattle.row_codec.specs.laws.Places.{stands_together, front_stands, rest_stands, nothing_stands, nothing_between}
use Rattle.row_codec.specs.laws.Tells.{tells_as, tells_done, tells_then, tells_kept}
use Rattle.geo_base.specs.laws.Answers.{Tells}
use Rattle.row_codec.specs.laws.Things.{IsList, IsBehind, things_tell}
use Rattle.write_set.specs.declared.candidate.Candidate.{Candidate}
use Rattle.write_set.specs.Bounds.{IsSetSize}
use Rattle.write_set.specs.Journal.{IsCandidate}
use Rattle.write_set.specs.Sets.{ChangeOfRow}
use Rattle.set_codec.specs.declared.format.Format.{Format}
use Rattle.set_codec.specs.declared.fault.CodecFault.{CodecFault}
use Rattle.set_codec.specs.declared.fault.CodecFault.TheVariants.{OverLimit}
use Rattle.set_codec.specs.declared.fault.Limit.TheVariants as limit
use Rattle.set_codec.specs.Faults.{IsStartFault, IsRowsFault, IsChangesFault, IsCandidateFault, IsCandidatesFault}
use Rattle.set_codec.specs.Fits.{FitsTable, FitsTables, HasCells, HaveCells, HasChange, HasChanges}
use Rattle.set_codec.specs.Spelling.{number_spelling, changes_spelling, candidate_spelling, candidates_spelling}
use Rattle.set_codec.specs.Standing.{StartStands, RowsStand, ChangesStand, CandidatesStand}
use Rattle.set_codec.specs.inner.Reading.{start_at, rows_at, changes_at, candidate_at, candidates_at}
use Rattle.set_codec.specs.laws.Fields.{decides_le, start_tells, rows_tell}
use Rattle.set_codec.specs.laws.Changes.{changes_tell, set_after, after_set}

module _ (bytes : List ℕ) (format : Format) (tables : Tables) (schema : IsSchema tables) (epoch : ℕ) (sealed : epoch < LAST_EPOCH) where
  abbrev SetRead : ℕ → ℕ → List ChangeOfRow × ℕ → Type 0
  SetRead count at x = (length x.0 ≡ count) × ChangesStand format tables None bytes at x

  abbrev SetSize : List ChangeOfRow → Type 0
  SetSize set = IsSetSize (length (changes_spelling tables set))

  abbrev made : ℕ → List ChangeOfRow × ℕ → Candidate × ℕ
  made start set = (record { start = start; set = set.0 }, set.1)

  abbrev EndStands : ℕ → List ChangeOfRow × ℕ → Candidate × ℕ → Type 0
  EndStands start set y = SetSize set.0 × (made start set ≡ y)

  abbrev EndFault : ℕ → List ChangeOfRow × ℕ → CodecFault → Type 0
  EndFault at set e = (¬ (SetSize set.0)) × (e ≡ OverLimit at limit.SetBytes)

  abbrev PartsStand : ℕ → Candidate × ℕ → Type 0
  PartsStand at y = (start : ℕ × ℕ) × StartStands epoch bytes at start × ((rows : ℕ × ℕ) × RowsStand bytes start.1 rows × ((set : List ChangeOfRow × ℕ) × SetRead rows.0 rows.1 set × EndStands start.0 set y))

  -- once the changes are read, the bytes between are counted
  end_tells : (at start at_set : ℕ) (set : List ChangeOfRow × ℕ) → set.1 ≡ at_set + length (changes_spelling tables set.0) →
      Tells (AreBytes bytes) (cond (leb (set.1 - at_set) MAX_SET_BYTES) (done (made start set)) (lost (OverLimit at limit.SetBytes))) (EndStands start set) (EndFault at set)
  end_tells at start at_set set behind =
      let d : Decides (leb (set.1 - at_set) MAX_SET_BYTES) (SetSize set.0) = Decides-like (leb (set.1 - at_set) MAX_SET_BYTES) (λ h. omega (arith, h, behind)) (λ h. omega (arith, h, behind)) (decides_le (set.1 - at_set) MAX_SET_BYTES) in
      let read = made start set in
      tells_as (AreBytes bytes) (EndStands start set) (EndStands start set) (λ e. EndFault at set e ⊎ (SetSize set.0 × ⊥)) (EndFault at set)
      (tells_kept (AreBytes bytes) (leb (set.1 - at_set) MAX_SET_BYTES) (SetSize set.0) (OverLimit at limit.SetBytes) (done read) (λ y. read ≡ y) (λ _. ⊥) d.0 (not_from_Decides (leb (set.1 - at_set) MAX_SET_BYTES) d) (tells_done (AreBytes bytes) read))
      (λ _ y s. s) (λ y s. s) (λ _ e h. elim h [ inl c ↦ c | inr c ↦ absurd c.1 ]) (λ e h. inl h)

  parts_tell : (at : ℕ) → Tells (AreBytes bytes) (candidate_at format tables epoch bytes at) (PartsStand at) (IsCandidateFault format tables epoch bytes at)
  unfolding candidate_at
  parts_tell at =
      tells_then (AreBytes bytes) (start_at epoch bytes at) _ (StartStands epoch bytes at) (IsStartFault epoch bytes at)
      (λ start y. (rows : ℕ × ℕ) × RowsStand bytes start.1 rows × ((set : List ChangeOfRow × ℕ) × SetRead rows.0 rows.1 set × EndStands start.0 set y))
      (λ start e. FirstOrLater (IsRowsFault bytes start.1 e) (RowsStand bytes start.1) (λ rows. FirstOrLater (IsChangesFault format tables rows.0 bytes rows.1 e) (SetRead rows.0 rows.1) (λ set. EndFault at set e)))
      (start_tells bytes epoch at) (λ start _.
      tells_then (AreBytes bytes) (rows_at bytes start.1) _ (RowsStand bytes start.1) (IsRowsFault bytes start.1)
      (λ rows y. (set : List ChangeOfRow × ℕ) × SetRead rows.0 rows.1 set × EndStands start.0 set y) (λ rows e. FirstOrLater (IsChangesFault format tables rows.0 bytes rows.1 e) (SetRead rows.0 rows.1) (λ set. EndFault at set e))
      (rows_tell bytes start.1) (λ rows _.
      tells_then (AreBytes bytes) (changes_at format tables rows.0 bytes rows.1) _ (SetRead rows.0 rows.1) (IsChangesFault format tables rows.0 bytes rows.1) (EndStands start.0) (EndFault at)
      (changes_tell bytes format tables schema rows.0 rows.1) (λ set read. end_tells at start.0 rows.1 set read.1.stands.behind)))

  -- a candidate of the epoch whose changes the format has, and which fits the tables
  pub record CandidateStands (at : ℕ) (x : Candidate × ℕ) : Type 0 where
    pub lawful : IsCandidate epoch x.0
    pub fits : FitsTables tables x.0
    pub cells : HaveCells x.0
    pub has : HasChanges format x.0
    pub stands : StandsAt (candidate_spelling tables x.0) bytes at x.1

  together : (at : ℕ) (y : Candidate × ℕ) → PartsStand at y → CandidateStands at y
  unfolding candidate_spelling
  together at y (start, start_there, (rows, rows_there, (set, read, ended))) =
      let spelled = changes_spelling tables set.0 in
      let number = number_spelling (length set.0) in
      let rows_number : StandsAt number bytes start.1 rows.1 = subst (λ (n : ℕ). StandsAt (number_spelling n) bytes start.1 rows.1) (sym read.0) rows_there.0.0 in
      let few : length set.0 ≤ MAX_SET_ROWS = subst (λ (n : ℕ). n ≤ MAX_SET_ROWS) (sym read.0) rows_there.1.1 in
      subst (CandidateStands at) ended.1
      (record {
        lawful = record { earlier = start_there.1.0; young = start_there.1.1; some = subst (λ (n : ℕ). 1 ≤ n) (sym read.0) rows_there.1.0; lawful = after_set set.0 few read.1.after };
        fits = record { changes = All-from_recursion (FitsTable tables) set.0 read.1.fits; few = ended.0 };
        cells = All-from_recursion HasCells set.0 read.1.cells;
        has = All-from_recursion (HasChange format) set.0 read.1.has;
        stands = stands_together (number_spelling start.0) (number ++ spelled) bytes at start.1 set.1 start_there.0.0 (stands_together number spelled bytes start.1 rows.1 set.1 rows_number read.1.stands);
      })

  apart : (at : ℕ) (y : Candidate × ℕ) → CandidateStands at y → PartsStand at y
  unfolding candidate_spelling
  apart at (c, next) s =
      let spelled = changes_spelling tables c.set in
      let number = number_spelling (length c.set) in
      let behind = rest_stands (number_spelling c.start) (number ++ spelled) bytes at next s.stands in
      let rows_few : length c.set ≤ MAX_SET_ROWS = s.lawful.lawful.few in (
        (c.start, at + 4),
        ((front_stands (number_spelling c.start) (number ++ spelled) bytes at next s.stands, omega (arith, s.lawful.earlier, sealed)), (s.lawful.earlier, s.lawful.young)),
        (
          (length c.set, at + 4 + 4),
          ((front_stands number spelled bytes (at + 4) next behind, omega (arith, rows_few)), (s.lawful.some, s.lawful.lawful.few)),
          (
            (c.set, next),
            (refl, record { fits = recursion_from_All (FitsTable tables) c.set s.fits.changes; cells = recursion_from_All HasCells c.set s.cells; has = recursion_from_All (HasChange format) c.set s.has; after = set_after c.set s.lawful.lawful.rising; stands = rest_stands number spelled bytes (at + 4) next behind }),
            (s.fits.few, refl),
          ),
        ),
      )

  pub candidate_tells : (at : ℕ) → Tells (AreBytes bytes) (candidate_at format tables epoch bytes at) (CandidateStands at) (IsCandidateFault format tables epoch bytes at)
  candidate_tells at = tells_as (AreBytes bytes) (PartsStand at) (CandidateStands at) (IsCandidateFault format tables epoch bytes at) (IsCandidateFault format tables epoch bytes at) (parts_tell at) (λ _. together at) (apart at) (λ _ e h. h) (λ e h. h)

  candidates_list : IsList {S = Unit {0}} (λ state _. state) (λ _. CandidateStands) (λ _. CandidatesStand format tables epoch bytes)
  candidates_list = record {
    none = λ _ at. record { lawful = tt; fits = tt; cells = tt; has = tt; stands = nothing_stands bytes at };
    no_more = λ _ at next s. nothing_between bytes at next s.stands;
    some = λ _ at middle next x xs first others. record {
      lawful = (first.lawful, others.lawful);
      fits = (first.fits, others.fits);
      cells = (first.cells, others.cells);
      has = (first.has, others.has);
      stands = stands_together (candidate_spelling tables x) (candidates_spelling tables xs) bytes at middle next first.stands others.stands;
    };
    parts = λ _ at next x xs s. (
      at + length (candidate_spelling tables x),
      record { lawful = s.lawful.0; fits = s.fits.0; cells = s.cells.0; has = s.has.0; stands = front_stands (candidate_spelling tables x) (candidates_spelling tables xs) bytes at next s.stands },
      record { lawful = s.lawful.1; fits = s.fits.1; cells = s.cells.1; has = s.has.1; stands = rest_stands (candidate_spelling tables x) (candidates_spelling tables xs) bytes at next s.stands },
    );
  }

  nothing_behind : IsBehind {S = Unit {0}} {A = Candidate} (λ state _. state) (λ state _. state)
  nothing_behind = record { none = λ state. refl; some = λ state x xs. refl }

  pub candidates_tell : (count at : ℕ) → Tells (AreBytes bytes) (candidates_at format tables epoch count bytes at) (λ x. (length x.0 ≡ count) × CandidatesStand format tables epoch bytes at x) (IsCandidatesFault format tables epoch count bytes at)
  unfolding candidates_at
  candidates_tell count at =
      things_tell (λ _. candidate_at format tables epoch) (λ state _. state) (λ state _. state) bytes (AreBytes bytes) (λ _. CandidateStands) (λ _. IsCandidateFault format tables epoch bytes) (λ _. CandidatesStand format tables epoch bytes) (λ _. candidate_tells)
      candidates_list nothing_behind count (tt {0}) at
