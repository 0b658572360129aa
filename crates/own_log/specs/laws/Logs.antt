-- Laws: entries spell one log or have one first bad entry, and a log grows at its end.
use Rattle.std.proofs.Common.{◌≡◌, ℕ, zero, suc, ◌+◌, ◌<◌, ◌≤◌, List, [], ◌∷◌, ◌++◌, length, take, get_or, Ok, Err, refl, sym, ◌∙◌, ap, subst, ◌⊎◌, inl, inr, arith}
use Rattle.std.specs.List.{AllByRecursion, slice_get}
use Rattle.std.proofs.lemmas.Bool.{cases_eq}
use Rattle.std.proofs.lemmas.List.Elements.{recursion_from_All}
use Rattle.geo_base.specs.declared.limits.TheConstants.{MAX_REGIONS}
use Rattle.geo_base.specs.laws.Results.{ok_is, fault_is, not_done}
use Rattle.geo_schema.specs.Schemas.{Tables, IsSchema}
use Rattle.row_codec.specs.Places.{AreBytes}
use Rattle.write_set.specs.declared.batch.Batch.{Batch}
use Rattle.write_set.specs.Journal.{IsBatch}
use Rattle.set_codec.specs.declared.fault.CodecFault.{CodecFault}
use Rattle.set_codec.specs.Alone.{SpellsBatch}
use Rattle.set_codec.specs.Faults.{IsBatchFault}
use Rattle.set_codec.specs.inner.Reading.{batch_at}
use Rattle.set_codec.specs.laws.Batches.{batch_tells, spelled_last, one_batch}
use Rattle.std.specs.Prelude.{None, Some}
use Rattle.own_log.specs.declared.fault.EntryFault.{EntryFault}
use Rattle.own_log.specs.declared.fault.EntryFault.TheVariants.{Codec, Region, Epoch}
use Rattle.own_log.specs.declared.fault.LoadFault.{LoadFault}
use Rattle.own_log.specs.declared.fault.LoadFault.TheVariants as load
use Rattle.own_log.specs.Logs.{IsEntry, SpellsFrom, SpellsLog, IsEntryFault, IsLogFault, IsBadLog, IsOfLog, AreOfLogFrom, OneLogOrFault, AppendedEntriesAreRead, EntriesSpellTheirPlaces, BatchesAreOfTheirPlaces}

-- ---- at the end

module _ (tables : Tables) (regions region : ℕ) where
  -- one more entry behind those that spell batches
  pub spells_more : (place : ℕ) (entries : List (List ℕ)) (batches : List Batch) (bytes : List ℕ) (batch : Batch) → SpellsFrom tables regions region place entries batches →
      IsEntry tables regions region (place + length entries) bytes batch → SpellsFrom tables regions region place (entries ++ bytes ∷ []) (batches ++ batch ∷ [])
  spells_more place [] [] bytes batch before here = (subst (λ (p : ℕ). IsEntry tables regions region p bytes batch) (omega arith) here, tt)
  spells_more place [] (b ∷ batches) bytes batch before here = absurd before
  spells_more place (e ∷ entries) [] bytes batch before here = absurd before
  spells_more place (e ∷ entries) (b ∷ batches) bytes batch before here =
      (before.0, spells_more (place + 1) entries batches bytes batch before.1 (subst (λ (p : ℕ). IsEntry tables regions region p bytes batch) (omega arith) here))

  -- one more batch behind those that may be a log
  pub of_log_more : (place : ℕ) (batches : List Batch) (batch : Batch) → AreOfLogFrom tables regions region place batches → IsOfLog tables regions region (place + length batches) batch →
      AreOfLogFrom tables regions region place (batches ++ batch ∷ [])
  of_log_more place [] batch before here = (subst (λ (p : ℕ). IsOfLog tables regions region p batch) (omega arith) here, tt)
  of_log_more place (b ∷ batches) batch before here =
      (before.0, of_log_more (place + 1) batches batch before.1 (subst (λ (p : ℕ). IsOfLog tables regions region p batch) (omega arith) here))

pub appended_is_read : AppendedEntriesAreRead
appended_is_read tables regions region entries batches bytes batch before here =
    spells_more tables regions region 0 entries batches bytes batch before (subst (λ (p : ℕ). IsEntry tables regions region p bytes batch) (omega arith) here)

-- ---- by place

some_is : {A : Type 0} (a b : A) → Some a ≡ Some b → a ≡ b
some_is a b e = cc

module _ (tables : Tables) (regions region : ℕ) where
  spells_length : (place : ℕ) (entries : List (List ℕ)) (batches : List Batch) → SpellsFrom tables regions region place entries batches → length entries ≡ length batches
  spells_length place [] [] h = refl
  spells_length place [] (b ∷ batches) h = absurd h
  spells_length place (e ∷ entries) [] h = absurd h
  spells_length place (e ∷ entries) (b ∷ batches) h = ap (λ (n : ℕ). suc n) (spells_length (place + 1) entries batches h.1)

  entry_at : (place : ℕ) (entries : List (List ℕ)) (batches : List Batch) (at : ℕ) (bytes : List ℕ) (batch : Batch) → SpellsFrom tables regions region place entries batches →
      slice_get entries at ≡ Some bytes → slice_get batches at ≡ Some batch → IsEntry tables regions region (place + at) bytes batch
  entry_at place [] [] at bytes batch h p q = absurd cc
  entry_at place [] (b ∷ batches) at bytes batch h p q = absurd h
  entry_at place (e ∷ entries) [] at bytes batch h p q = absurd h
  entry_at place (e ∷ entries) (b ∷ batches) zero bytes batch h p q =
      subst (λ (x : List ℕ). IsEntry tables regions region (place + 0) x batch) (some_is e bytes p)
      (subst (λ (x : Batch). IsEntry tables regions region (place + 0) e x) (some_is b batch q)
      (subst (λ (n : ℕ). IsEntry tables regions region n e b) (omega arith) h.0))
  entry_at place (e ∷ entries) (b ∷ batches) (suc at) bytes batch h p q =
      subst (λ (n : ℕ). IsEntry tables regions region n bytes batch) (omega arith) (entry_at (place + 1) entries batches at bytes batch h.1 p q)

  of_log_at : (place : ℕ) (batches : List Batch) (at : ℕ) (batch : Batch) → AreOfLogFrom tables regions region place batches → slice_get batches at ≡ Some batch →
      IsOfLog tables regions region (place + at) batch
  of_log_at place [] at batch h q = absurd cc
  of_log_at place (b ∷ batches) zero batch h q =
      subst (λ (x : Batch). IsOfLog tables regions region (place + 0) x) (some_is b batch q) (subst (λ (n : ℕ). IsOfLog tables regions region n b) (omega arith) h.0)
  of_log_at place (b ∷ batches) (suc at) batch h q =
      subst (λ (n : ℕ). IsOfLog tables regions region n batch) (omega arith) (of_log_at (place + 1) batches at batch h.1 q)

pub spelled_by_place : EntriesSpellTheirPlaces
spelled_by_place tables regions region entries batches h = record {
  all = spells_length tables regions region 0 entries batches h;
  each = λ place bytes batch p q. subst (λ (n : ℕ). IsEntry tables regions region n bytes batch) (omega arith) (entry_at tables regions region 0 entries batches place bytes batch h p q);
}

pub of_log_by_place : BatchesAreOfTheirPlaces
of_log_by_place tables regions region batches place batch h q =
    let of : IsOfLog tables regions region place batch = subst (λ (n : ℕ). IsOfLog tables regions region n batch) (omega arith) (of_log_at tables regions region 0 batches place batch h q) in
    record {
      of_log = of;
      lawful = subst (λ (n : ℕ). IsBatch n (place + 1) batch) of.region (subst (λ (n : ℕ). IsBatch batch.region n batch) of.epoch of.fits.fits.lawful);
    }

module _ (tables : Tables) (regions region : ℕ) (schema : IsSchema tables) where
  -- ---- one batch, or one fault of a batch

  spells_read : (bytes : List ℕ) (batch : Batch) → SpellsBatch tables regions bytes batch → batch_at tables regions None bytes 0 ≡ Ok batch
  spells_read bytes batch s = (batch_tells bytes tables schema regions None 0).only batch (spelled_last tables regions bytes batch schema s)

  fault_read : (bytes : List ℕ) (fault : CodecFault) → IsBatchFault tables regions bytes fault → batch_at tables regions None bytes 0 ≡ Err fault
  fault_read bytes fault h = (batch_tells bytes tables schema regions None 0).refused fault h

  batches_same : (bytes : List ℕ) (a b : Batch) → SpellsBatch tables regions bytes a → SpellsBatch tables regions bytes b → a ≡ b
  batches_same bytes a b p q = ok_is a b (sym (spells_read bytes a p) ∙ spells_read bytes b q)

  batch_or_fault : (bytes : List ℕ) (batch : Batch) (fault : CodecFault) → SpellsBatch tables regions bytes batch → IsBatchFault tables regions bytes fault → ⊥
  batch_or_fault bytes batch fault p h = not_done batch fault (sym (spells_read bytes batch p) ∙ fault_read bytes fault h)

  faults_same : (bytes : List ℕ) (e f : CodecFault) → IsBatchFault tables regions bytes e → IsBatchFault tables regions bytes f → e ≡ f
  faults_same bytes e f p q = fault_is {A = Batch} e f (sym (fault_read bytes e p) ∙ fault_read bytes f q)

  -- ---- one entry

  entry_or_fault : (place : ℕ) (bytes : List ℕ) (batch : Batch) (fault : EntryFault) → IsEntry tables regions region place bytes batch → IsEntryFault tables regions region place bytes fault → ⊥
  entry_or_fault place bytes batch (Codec fault) p h = batch_or_fault bytes batch fault p.spelled h
  entry_or_fault place bytes batch (Region other) p (b, s, is, apart) =
      let same : b ≡ batch = batches_same bytes b batch s p.spelled in
      apart (sym is ∙ ap (λ (x : Batch). x.region) same ∙ p.region)
  entry_or_fault place bytes batch (Epoch epoch) p (b, s, own, is, apart) =
      let same : b ≡ batch = batches_same bytes b batch s p.spelled in
      apart (sym is ∙ ap (λ (x : Batch). x.epoch) same ∙ p.epoch)

  entry_faults_same : (place : ℕ) (bytes : List ℕ) (e f : EntryFault) → IsEntryFault tables regions region place bytes e → IsEntryFault tables regions region place bytes f → e ≡ f
  entry_faults_same place bytes (Codec e) (Codec f) p q = ap Codec (faults_same bytes e f p q)
  entry_faults_same place bytes (Codec e) (Region f) p (b, s, is, apart) = absurd (batch_or_fault bytes b e s p)
  entry_faults_same place bytes (Codec e) (Epoch f) p (b, s, own, is, apart) = absurd (batch_or_fault bytes b e s p)
  entry_faults_same place bytes (Region e) (Codec f) (b, s, is, apart) q = absurd (batch_or_fault bytes b f s q)
  entry_faults_same place bytes (Region e) (Region f) (a, r, was, far) (b, s, is, apart) =
      ap Region (sym was ∙ ap (λ (x : Batch). x.region) (batches_same bytes a b r s) ∙ is)
  entry_faults_same place bytes (Region e) (Epoch f) (a, r, was, far) (b, s, own, is, apart) =
      absurd (far (sym was ∙ ap (λ (x : Batch). x.region) (batches_same bytes a b r s) ∙ own))
  entry_faults_same place bytes (Epoch e) (Codec f) (b, s, own, is, apart) q = absurd (batch_or_fault bytes b f s q)
  entry_faults_same place bytes (Epoch e) (Region f) (a, r, own, was, far) (b, s, is, apart) =
      absurd (apart (sym is ∙ ap (λ (x : Batch). x.region) (batches_same bytes b a s r) ∙ own))
  entry_faults_same place bytes (Epoch e) (Epoch f) (a, r, own, was, far) (b, s, mine, is, apart) =
      ap Epoch (sym was ∙ ap (λ (x : Batch). x.epoch) (batches_same bytes a b r s) ∙ is)

  some_entry : (place : ℕ) (bytes : List ℕ) → regions ≤ MAX_REGIONS → AreBytes bytes →
      ((b : Batch) × IsEntry tables regions region place bytes b) ⊎ ((e : EntryFault) × IsEntryFault tables regions region place bytes e)
  some_entry place bytes within are = elim (one_batch tables regions bytes schema within are).some [
    | inl s ↦ elim (cases_eq s.0.region region) [
      | inl own ↦ elim (cases_eq s.0.epoch (place + 1)) [
        | inl next ↦ inl (s.0, record { spelled = s.1; region = own; epoch = next })
        | inr apart ↦ inr (Epoch s.0.epoch, (s.0, s.1, own, refl, apart))
      ]
      | inr apart ↦ inr (Region s.0.region, (s.0, s.1, refl, apart))
    ]
    | inr f ↦ inr (Codec f.0, f.1)
  ]

  -- ---- one log

  pub logs_same : (place : ℕ) (entries : List (List ℕ)) (one two : List Batch) → SpellsFrom tables regions region place entries one → SpellsFrom tables regions region place entries two → one ≡ two
  logs_same place [] [] [] p q = refl
  logs_same place [] [] (b ∷ two) p q = absurd q
  logs_same place [] (a ∷ one) two p q = absurd p
  logs_same place (e ∷ entries) [] two p q = absurd p
  logs_same place (e ∷ entries) (a ∷ one) [] p q = absurd q
  logs_same place (e ∷ entries) (a ∷ one) (b ∷ two) p q =
      let here : a ≡ b = batches_same e a b p.0.spelled q.0.spelled in
      let rest : one ≡ two = logs_same (place + 1) entries one two p.1 q.1 in
      cc

  -- the entry so far behind the place has the fault, and those from the place up to it spell batches
  abbrev FaultFrom : ℕ → List (List ℕ) → ℕ → EntryFault → Type 0
  FaultFrom place [] entry fault = ⊥
  FaultFrom place (bytes ∷ entries) zero fault = IsEntryFault tables regions region place bytes fault
  FaultFrom place (bytes ∷ entries) (suc entry) fault = ((b : Batch) × IsEntry tables regions region place bytes b) × FaultFrom (place + 1) entries entry fault

  log_or_fault_from : (place : ℕ) (entries : List (List ℕ)) (batches : List Batch) (entry : ℕ) (fault : EntryFault) → SpellsFrom tables regions region place entries batches → FaultFrom place entries entry fault → ⊥
  log_or_fault_from place [] batches entry fault p h = h
  log_or_fault_from place (bytes ∷ entries) [] entry fault p h = absurd p
  log_or_fault_from place (bytes ∷ entries) (b ∷ batches) zero fault p h = entry_or_fault place bytes b fault p.0 h
  log_or_fault_from place (bytes ∷ entries) (b ∷ batches) (suc entry) fault p h = log_or_fault_from (place + 1) entries batches entry fault p.1 h.1

  faults_from_same : (place : ℕ) (entries : List (List ℕ)) (i j : ℕ) (e f : EntryFault) → FaultFrom place entries i e → FaultFrom place entries j f → (i ≡ j) × (e ≡ f)
  faults_from_same place [] i j e f p q = absurd p
  faults_from_same place (bytes ∷ entries) zero zero e f p q = (refl, entry_faults_same place bytes e f p q)
  faults_from_same place (bytes ∷ entries) zero (suc j) e f p q = absurd (entry_or_fault place bytes q.0.0 e q.0.1 p)
  faults_from_same place (bytes ∷ entries) (suc i) zero e f p q = absurd (entry_or_fault place bytes p.0.0 f p.0.1 q)
  faults_from_same place (bytes ∷ entries) (suc i) (suc j) e f p q =
      let same : (i ≡ j) × (e ≡ f) = faults_from_same (place + 1) entries i j e f p.1 q.1 in
      (ap (λ (n : ℕ). suc n) same.0, same.1)

  some_from : (place : ℕ) (entries : List (List ℕ)) → regions ≤ MAX_REGIONS → AllByRecursion AreBytes entries →
      ((bs : List Batch) × SpellsFrom tables regions region place entries bs) ⊎ ((entry : ℕ) × (fault : EntryFault) × FaultFrom place entries entry fault)
  some_from place [] within are = inl ([], tt)
  some_from place (bytes ∷ entries) within are = elim (some_entry place bytes within are.0) [
    | inl b ↦ elim (some_from (place + 1) entries within are.1) [
      | inl bs ↦ inl (b.0 ∷ bs.0, (b.1, bs.1))
      | inr f ↦ inr (suc f.0, f.1, (b, f.2))
    ]
    | inr f ↦ inr (zero, f.0, f.1)
  ]

  -- ---- by place

  fault_from : (place : ℕ) (entries : List (List ℕ)) (entry : ℕ) (fault : EntryFault) (batches : List Batch) → entry < length entries → SpellsFrom tables regions region place (take entry entries) batches →
      IsEntryFault tables regions region (place + entry) (get_or entries entry []) fault → FaultFrom place entries entry fault
  fault_from place [] entry fault batches lt before here = absurd (omega arith)
  fault_from place (bytes ∷ entries) zero fault batches lt before here = subst (λ (p : ℕ). IsEntryFault tables regions region p bytes fault) (omega arith) here
  fault_from place (bytes ∷ entries) (suc entry) fault [] lt before here = absurd before
  fault_from place (bytes ∷ entries) (suc entry) fault (b ∷ batches) lt before here = (
    (b, before.0),
    fault_from (place + 1) entries entry fault batches (omega arith) before.1
        (subst (λ (p : ℕ). IsEntryFault tables regions region p (get_or entries entry []) fault) (omega arith) here),
  )

  fault_at : (place : ℕ) (entries : List (List ℕ)) (entry : ℕ) (fault : EntryFault) → FaultFrom place entries entry fault →
      (entry < length entries) × ((bs : List Batch) × SpellsFrom tables regions region place (take entry entries) bs) × IsEntryFault tables regions region (place + entry) (get_or entries entry []) fault
  fault_at place [] entry fault h = absurd h
  fault_at place (bytes ∷ entries) zero fault h = (omega arith, ([], tt), subst (λ (p : ℕ). IsEntryFault tables regions region p bytes fault) (omega arith) h)
  fault_at place (bytes ∷ entries) (suc entry) fault h =
      let rest : (entry < length entries) × ((bs : List Batch) × SpellsFrom tables regions region (place + 1) (take entry entries) bs) × IsEntryFault tables regions region (place + 1 + entry) (get_or entries entry []) fault = fault_at (place + 1) entries entry fault h.1 in
      (omega (arith, rest.0), (h.0.0 ∷ rest.1.0, (h.0.1, rest.1.1)), subst (λ (p : ℕ). IsEntryFault tables regions region p (get_or entries entry []) fault) (omega arith) rest.2)

  log_fault_from : (entries : List (List ℕ)) (entry : ℕ) (fault : EntryFault) → IsLogFault tables regions region entries entry fault → FaultFrom 0 entries entry fault
  log_fault_from entries entry fault h = fault_from 0 entries entry fault h.batches h.within h.before
      (subst (λ (p : ℕ). IsEntryFault tables regions region p (get_or entries entry []) fault) (omega arith) h.here)

  log_fault_at : (entries : List (List ℕ)) (entry : ℕ) (fault : EntryFault) → FaultFrom 0 entries entry fault → IsLogFault tables regions region entries entry fault
  log_fault_at entries entry fault h =
      let at : (entry < length entries) × ((bs : List Batch) × SpellsFrom tables regions region 0 (take entry entries) bs) × IsEntryFault tables regions region (0 + entry) (get_or entries entry []) fault = fault_at 0 entries entry fault h in
      record { within = at.0; batches = at.1.0; before = at.1.1; here = subst (λ (p : ℕ). IsEntryFault tables regions region p (get_or entries entry []) fault) (omega arith) at.2 }

  -- ---- a log, or its first bad entry

  pub log_or_bad : (entries : List (List ℕ)) (batches : List Batch) (fault : LoadFault) → SpellsLog tables regions region entries batches → IsBadLog tables regions region entries fault → ⊥
  log_or_bad entries batches (load.BadLog entry fault) p h = log_or_fault_from 0 entries batches entry fault p (log_fault_from entries entry fault h)
  log_or_bad entries batches load.LogFault p h = h
  log_or_bad entries batches load.NoMemory p h = h

  pub bad_logs_same : (entries : List (List ℕ)) (e f : LoadFault) → IsBadLog tables regions region entries e → IsBadLog tables regions region entries f → e ≡ f
  bad_logs_same entries (load.BadLog i e) (load.BadLog j f) p q =
      let same : (i ≡ j) × (e ≡ f) = faults_from_same 0 entries i j e f (log_fault_from entries i e p) (log_fault_from entries j f q) in
      let place : i ≡ j = same.0 in
      let fault : e ≡ f = same.1 in
      cc
  bad_logs_same entries (load.BadLog i e) load.LogFault p q = absurd q
  bad_logs_same entries (load.BadLog i e) load.NoMemory p q = absurd q
  bad_logs_same entries load.LogFault f p q = absurd p
  bad_logs_same entries load.NoMemory f p q = absurd p

pub one_log : OneLogOrFault
one_log tables regions region entries schema within are = record {
  some = elim (some_from tables regions region schema 0 entries within (recursion_from_All AreBytes entries are)) [
    | inl bs ↦ inl bs
    | inr f ↦ inr (load.BadLog f.0 f.1, log_fault_at tables regions region schema entries f.0 f.1 f.2)
  ];
  one = λ a b p q. logs_same tables regions region schema 0 entries a b p q;
  one_fault = λ e f p q. bad_logs_same tables regions region schema entries e f p q;
  not_both = λ batches e p h. log_or_bad tables regions region schema entries batches e p h;
}
