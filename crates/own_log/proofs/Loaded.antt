-- How far a log is read, where its entries may be told.
use Rattle.std.proofs.Common.{◌≡◌, ℕ, ◌+◌, ◌<◌, List, [], ◌∷◌, ◌++◌, length, take, get_or, Option, None, Some, Result, Ok, Err, refl, sym, subst, ◌⊎◌, inl, inr, arith, length-append}
use Rattle.std.specs.Prelude.{IfSome, IfOk, IfErr, IsErrOf}
use Rattle.std.proofs.lemmas.List.{take_more, take_all, length-take-le}
use Rattle.geo_base.specs.Results.{Reads, Refuses}
use Rattle.geo_base.specs.laws.Results.{fault_is}
use Rattle.geo_io.specs.Told.{Lists, list_of}
use Rattle.geo_io.specs.declared.fault.IoFault.{IoFault}
use Rattle.geo_io.specs.declared.fault.IoFault.TheVariants as io
use Rattle.geo_schema.specs.Schemas.{Tables, IsSchema}
use Rattle.write_set.specs.declared.batch.Batch.{Batch}
use Rattle.set_codec.specs.declared.fault.CodecFault.{CodecFault}
use Rattle.set_codec.specs.declared.fault.CodecFault.TheVariants as codec
use Rattle.own_log.specs.declared.fault.EntryFault.{EntryFault}
use Rattle.own_log.specs.declared.fault.EntryFault.TheVariants.{Codec, Region, Epoch}
use Rattle.own_log.specs.declared.fault.LoadFault.{LoadFault}
use Rattle.own_log.specs.declared.fault.LoadFault.TheVariants as load
use Rattle.own_log.specs.Logs.{IsEntry, IsEntryFault, SpellsFrom, SpellsLog, IsLogFault, IsBadLog, IsOfLog, AreOfLogFrom}
use Rattle.own_log.specs.inner.Faults.{load_fault, blamed, NamesEntry, NamesFirst, NamesNoWant}
use Rattle.own_log.specs.laws.Logs.{spells_more, of_log_more, logs_same, log_or_bad, bad_logs_same}

-- ---- want of memory

pub blamed_no_want : (place : ℕ) (fault : EntryFault) → NamesNoWant (blamed place fault)
blamed_no_want place (Codec codec.NoMemory) = tt
blamed_no_want place (Codec (codec.Short at)) = tt
blamed_no_want place (Codec (codec.BadTag at)) = tt
blamed_no_want place (Codec (codec.BadUtf8 at)) = tt
blamed_no_want place (Codec (codec.NotOrdered at)) = tt
blamed_no_want place (Codec (codec.BadRow at)) = tt
blamed_no_want place (Codec (codec.BadStart at)) = tt
blamed_no_want place (Codec (codec.OverLimit at limit)) = tt
blamed_no_want place (Codec (codec.Trailing at)) = tt
blamed_no_want place (Region other) = tt
blamed_no_want place (Epoch epoch) = tt

pub io_no_want : (fault : IoFault) → NamesNoWant (load_fault fault)
io_no_want io.Failed = tt
io_no_want io.NoMemory = tt

pub named_no_want : {X : Type 0} (r : Result X LoadFault) → IfErr r NamesNoWant → (entry : ℕ) → IsErrOf r (load.BadLog entry (Codec codec.NoMemory)) → ⊥
named_no_want {X} (Ok x) h entry e = absurd cc
named_no_want {X} (Err fault) h entry e = subst NamesNoWant (fault_is {A = X} fault (load.BadLog entry (Codec codec.NoMemory)) e) h

module _ (tables : Tables) (regions region : ℕ) where
  -- ---- one entry

  pub entry_of_log : (place : ℕ) (bytes : List ℕ) (batch : Batch) → IsEntry tables regions region place bytes batch → IsOfLog tables regions region place batch
  entry_of_log place bytes batch h = record { fits = h.spelled.0; region = h.region; epoch = h.epoch }

  of_codec : (place : ℕ) (bytes : List ℕ) (fault : CodecFault) → (Codec fault ≡ Codec codec.NoMemory) ⊎ IsEntryFault tables regions region place bytes (Codec fault) →
      NamesEntry tables regions region place bytes (blamed place (Codec fault))
  of_codec place bytes codec.NoMemory h = tt
  of_codec place bytes (codec.Short at) h = elim h [ inl e ↦ absurd cc | inr f ↦ (refl, f) ]
  of_codec place bytes (codec.BadTag at) h = elim h [ inl e ↦ absurd cc | inr f ↦ (refl, f) ]
  of_codec place bytes (codec.BadUtf8 at) h = elim h [ inl e ↦ absurd cc | inr f ↦ (refl, f) ]
  of_codec place bytes (codec.NotOrdered at) h = elim h [ inl e ↦ absurd cc | inr f ↦ (refl, f) ]
  of_codec place bytes (codec.BadRow at) h = elim h [ inl e ↦ absurd cc | inr f ↦ (refl, f) ]
  of_codec place bytes (codec.BadStart at) h = elim h [ inl e ↦ absurd cc | inr f ↦ (refl, f) ]
  of_codec place bytes (codec.OverLimit at limit) h = elim h [ inl e ↦ absurd cc | inr f ↦ (refl, f) ]
  of_codec place bytes (codec.Trailing at) h = elim h [ inl e ↦ absurd cc | inr f ↦ (refl, f) ]

  -- what reading an entry found names it, unless there was no memory
  pub names_entry : (place : ℕ) (bytes : List ℕ) (fault : EntryFault) → (fault ≡ Codec codec.NoMemory) ⊎ IsEntryFault tables regions region place bytes fault →
      NamesEntry tables regions region place bytes (blamed place fault)
  names_entry place bytes (Codec fault) h = of_codec place bytes fault h
  names_entry place bytes (Region other) h = elim h [ inl e ↦ absurd cc | inr f ↦ (refl, f) ]
  names_entry place bytes (Epoch epoch) h = elim h [ inl e ↦ absurd cc | inr f ↦ (refl, f) ]

  -- a fault of the keepers names nothing
  pub names_io : (told : Option Lists) (place : ℕ) (fault : IoFault) → IfSome told (λ all. NamesEntry tables regions region place (get_or (list_of all region) place []) (load_fault fault))
  names_io None place fault = tt
  names_io (Some all) place io.Failed = tt
  names_io (Some all) place io.NoMemory = tt

  -- what reading the told entry found names it
  pub names_told : (told : Option Lists) (place : ℕ) (bytes : List ℕ) (fault : EntryFault) → IfSome told (λ all. bytes ≡ get_or (list_of all region) place []) → (fault ≡ Codec codec.NoMemory) ⊎ IsEntryFault tables regions region place bytes fault →
      IfSome told (λ all. NamesEntry tables regions region place (get_or (list_of all region) place []) (blamed place fault))
  names_told None place bytes fault is h = tt
  names_told (Some all) place bytes fault is h = subst (λ (b : List ℕ). NamesEntry tables regions region place b (blamed place fault)) is (names_entry place bytes fault h)

  pub entry_told : (told : Option Lists) (place : ℕ) (bytes : List ℕ) (batch : Batch) → IfSome told (λ all. bytes ≡ get_or (list_of all region) place []) → IsEntry tables regions region place bytes batch →
      IfSome told (λ all. IsEntry tables regions region place (get_or (list_of all region) place []) batch)
  entry_told None place bytes batch is h = tt
  entry_told (Some all) place bytes batch is h = subst (λ (b : List ℕ). IsEntry tables regions region place b batch) is h

  -- ---- so many entries

  -- of the entries those before the place spell these batches
  pub record HasLoaded (told : Option Lists) (count place : ℕ) (batches : List Batch) : Type 0 where
    pub spelled : IfSome told (λ all. (count ≡ length (list_of all region)) × SpellsFrom tables regions region 0 (take place (list_of all region)) batches)
    pub of_log : AreOfLogFrom tables regions region 0 batches
    pub so_far : length batches ≡ place

  pub loaded_within : (told : Option Lists) (count place : ℕ) (batches : List Batch) → HasLoaded told count place batches → place < count → IfSome told (λ all. place < length (list_of all region))
  loaded_within None count place batches h lt = tt
  loaded_within (Some all) count place batches h lt = let same : count ≡ length (list_of all region) = h.spelled.0 in omega arith

  pub loaded_more : (told : Option Lists) (count place : ℕ) (batches : List Batch) (batch : Batch) → HasLoaded told count place batches → place < count →
      IfSome told (λ all. IsEntry tables regions region place (get_or (list_of all region) place []) batch) → IsOfLog tables regions region place batch → HasLoaded told count (place + 1) (batches ++ batch ∷ [])
  loaded_more told count place batches batch h lt here of = record {
    spelled = by told h lt here;
    of_log = of_log_more tables regions region 0 batches batch h.of_log (subst (λ (p : ℕ). IsOfLog tables regions region p batch) (omega (arith, h.so_far)) of);
    so_far = omega (arith, h.so_far, length-append batches (batch ∷ []));
  }
    where
      by : (o : Option Lists) → HasLoaded o count place batches → place < count → IfSome o (λ all. IsEntry tables regions region place (get_or (list_of all region) place []) batch) →
          IfSome o (λ all. (count ≡ length (list_of all region)) × SpellsFrom tables regions region 0 (take (place + 1) (list_of all region)) (batches ++ batch ∷ []))
      by None h lt here = tt
      by (Some all) h lt here =
          let entries : List (List ℕ) = list_of all region in
          let same : count ≡ length (list_of all region) = h.spelled.0 in
          let len : length (take place (list_of all region)) ≡ place = length-take-le place (list_of all region) (omega arith) in (
            same,
            subst (λ (es : List (List ℕ)). SpellsFrom tables regions region 0 es (batches ++ batch ∷ [])) (sym (take_more (list_of all region) place [] (omega arith)))
                (spells_more tables regions region 0 (take place (list_of all region)) batches (get_or (list_of all region) place []) batch h.spelled.1
                (subst (λ (p : ℕ). IsEntry tables regions region p (get_or (list_of all region) place []) batch) (omega arith) here)),
          )

  pub loaded_all : (told : Option Lists) (count : ℕ) (batches : List Batch) → HasLoaded told count count batches → IfSome told (λ all. SpellsLog tables regions region (list_of all region) batches)
  loaded_all None count batches h = tt
  loaded_all (Some all) count batches h =
      let same : count ≡ length (list_of all region) = h.spelled.0 in
      subst (λ (es : List (List ℕ)). SpellsFrom tables regions region 0 es batches) (take_all count (list_of all region) (omega arith)) h.spelled.1

  pub loaded_fault : (told : Option Lists) (count place : ℕ) (batches : List Batch) (fault : LoadFault) → HasLoaded told count place batches → place < count →
      IfSome told (λ all. NamesEntry tables regions region place (get_or (list_of all region) place []) fault) → IfSome told (λ all. NamesFirst tables regions region (list_of all region) fault)
  loaded_fault None count place batches fault h lt here = tt
  loaded_fault (Some all) count place batches (load.BadLog entry fault) h lt here =
      let same : count ≡ length (list_of all region) = h.spelled.0 in
      subst (λ (p : ℕ). IsLogFault tables regions region (list_of all region) p fault) (sym here.0)
      (record { within = omega arith; batches = batches; before = h.spelled.1; here = here.1 })
  loaded_fault (Some all) count place batches load.LogFault h lt here = tt
  loaded_fault (Some all) count place batches load.NoMemory h lt here = tt

  -- want of memory names nothing
  pub unnamed : (told : Option Lists) → IfSome told (λ all. NamesFirst tables regions region (list_of all region) load.NoMemory)
  unnamed None = tt
  unnamed (Some all) = tt

  -- ---- what the answer says

  module _ {X : Type 0} (view : X → List Batch) where
    pub only_of : IsSchema tables → (told : Option Lists) (r : Result X LoadFault) → IfOk r (λ x. IfSome told (λ all. SpellsLog tables regions region (list_of all region) (view x))) →
        IfErr r (λ e. IfSome told (λ all. NamesFirst tables regions region (list_of all region) e)) →
        IfSome told (λ all. IsErrOf r load.LogFault ⊎ Reads load.NoMemory view r (SpellsLog tables regions region (list_of all region)))
    only_of schema None r spelled names = tt
    only_of schema (Some all) (Ok x) spelled names = inr (λ batches s. logs_same tables regions region schema 0 (list_of all region) (view x) batches spelled s)
    only_of schema (Some all) (Err (load.BadLog entry fault)) spelled names = inr (λ batches s. absurd (log_or_bad tables regions region schema (list_of all region) batches (load.BadLog entry fault) s names))
    only_of schema (Some all) (Err load.LogFault) spelled names = inl refl
    only_of schema (Some all) (Err load.NoMemory) spelled names = inr (λ batches s. refl)

    pub refused_of : IsSchema tables → (told : Option Lists) (r : Result X LoadFault) → IfOk r (λ x. IfSome told (λ all. SpellsLog tables regions region (list_of all region) (view x))) →
        IfErr r (λ e. IfSome told (λ all. NamesFirst tables regions region (list_of all region) e)) →
        IfSome told (λ all. IsErrOf r load.LogFault ⊎ Refuses load.NoMemory r (IsBadLog tables regions region (list_of all region)))
    refused_of schema None r spelled names = tt
    refused_of schema (Some all) (Ok x) spelled names = inr (λ e h. log_or_bad tables regions region schema (list_of all region) (view x) e spelled h)
    refused_of schema (Some all) (Err (load.BadLog entry fault)) spelled names = inr (λ e h. inr (bad_logs_same tables regions region schema (list_of all region) (load.BadLog entry fault) e names h))
    refused_of schema (Some all) (Err load.LogFault) spelled names = inl refl
    refused_of schema (Some all) (Err load.NoMemory) spelled names = inr (λ e h. inl refl)
