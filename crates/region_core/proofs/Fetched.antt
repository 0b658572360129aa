-- Whether bytes spell a batch of the log, and what is replied by that.
use Rattle.std.proofs.Common.{◌≡◌, ℕ, zero, suc, ◌-◌, ◌<◌, ◌≤◌, Bool, true, false, cond, Option, None, Some, List, [], ◌∷◌, ◌++◌, length, refl, sym, ap, ◌∙◌, subst, arith, nat_eq}
use Rattle.std.specs.Prelude.{IfSome, is_some, not, slice_index_or}
use Rattle.std.specs.Option.{option_copied}
use denote.Ref.{Bor}
use Rattle.std.specs.Cmp.Lexicographic.{pointwise, same_text, other_text}
use Rattle.std.specs.List.{slice_get}
use Rattle.std.proofs.lemmas.Option.{slice_get_within}
use Rattle.geo_base.specs.declared.limits.TheConstants.{MAX_REGIONS}
use Rattle.geo_io.specs.Told.{Lists, list_of}
use Rattle.geo_schema.specs.Schemas.{IsSchema}
use Rattle.write_set.specs.declared.batch.Batch.{Batch}
use Rattle.set_codec.specs.declared.format.Format.TheVariants.{Ggb2}
use Rattle.set_codec.specs.Alone.{SpellsBatch}
use Rattle.set_codec.specs.Fits.{FitsRegions, IsSpelling}
use Rattle.set_codec.specs.Spelling.{batch_spelling}
use Rattle.set_codec.specs.laws.Batches.{batch_alone, batch_spellings}
use Rattle.own_log.specs.Logs.{SpellsLog}
use Rattle.own_log.specs.laws.Logs.{of_log_by_place, spelled_by_place}
use Rattle.region_core.specs.declared.fault.FetchFault.TheVariants as of_fetch
use Rattle.region_core.specs.Region.{Standing, RegionValue, own_batch}
use Rattle.region_core.specs.Refusals.{fetch_refusal}
use Rattle.region_core.specs.Lawful.{IsStanding, IsRegion}
use Rattle.region_core.specs.Calls.{AreItsKeepers, RefusesReply}
use Rattle.region_core.specs.inner.Fetching.{Compares}

-- ---- bytes against a batch

module _ (s : Standing) (schema : IsSchema s.tables) where
  own_spelling : (batch : Batch) → FitsRegions s.tables s.regions batch → SpellsBatch s.tables s.regions (batch_spelling Ggb2 s.tables batch) batch
  own_spelling batch fits = (fits, (batch_spellings s.tables batch).newer)

  -- batches of one spelling are one
  same_batch : (a b : Batch) → FitsRegions s.tables s.regions a → FitsRegions s.tables s.regions b → batch_spelling Ggb2 s.tables a ≡ batch_spelling Ggb2 s.tables b → a ≡ b
  same_batch a b p q same =
      (batch_alone s.tables s.regions a b (batch_spelling Ggb2 s.tables a) (batch_spelling Ggb2 s.tables b) [] [] schema (own_spelling a p) (own_spelling b q) (ap (λ (l : List ℕ). l ++ []) same)).0

  -- the batch that was read of the bytes is this one where the two have one spelling
  compared : (bytes again kept : List ℕ) (read batch : Batch) (equal : Bool) → FitsRegions s.tables s.regions read → FitsRegions s.tables s.regions batch →
      IsSpelling s.tables read bytes → ((other : Batch) → SpellsBatch s.tables s.regions bytes other → read ≡ other) →
      again ≡ batch_spelling Ggb2 s.tables read → kept ≡ batch_spelling Ggb2 s.tables batch → equal ≡ pointwise nat_eq again kept → Compares s bytes batch equal
  compared bytes again kept read batch true fits_read fits spelled only again_is kept_is test =
      let same : read ≡ batch = same_batch read batch fits_read fits (sym again_is ∙ same_text again kept test ∙ kept_is) in
      (fits, subst (λ (x : Batch). IsSpelling s.tables x bytes) same spelled)
  compared bytes again kept read batch false fits_read fits spelled only again_is kept_is test =
      λ spells. other_text again kept test (again_is ∙ ap (batch_spelling Ggb2 s.tables) (only batch spells) ∙ sym kept_is)

-- ---- the batch of an epoch

-- an epoch of which there is a batch
pub record HasBatch (s : Standing) (epoch : ℕ) (batch : Batch) : Type 0 where
  pub first : 1 ≤ epoch
  pub within : epoch ≤ length s.log
  pub at : slice_get s.log (epoch - 1) ≡ Some batch
  pub fits : FitsRegions s.tables s.regions batch

module _ (s : Standing) (h : IsStanding s) where
  has_batch : (epoch : ℕ) (batch : Batch) → own_batch s epoch ≡ Some batch → HasBatch s epoch batch
  has_batch zero batch is = absurd (cc)
  has_batch (suc place) batch is = record {
    first = omega arith;
    within = let there : place < length s.log = slice_get_within s.log place batch is in omega (arith, there);
    at = let same : suc place - 1 ≡ place = omega arith in ap (slice_get s.log) same ∙ is;
    fits = (of_log_by_place s.tables s.regions s.number s.log place batch h.log is).of_log.fits;
  }

  -- the keepers' list of the region has an entry of it
  has_entry : (told : Option Lists) (epoch : ℕ) (batch : Batch) → AreItsKeepers s told → HasBatch s epoch batch → IfSome told (λ all. epoch ≤ length (list_of all s.number))
  has_entry None epoch batch keepers has = tt
  has_entry (Some all) epoch batch keepers has =
      let same : length (list_of all s.number) ≡ length s.log = (spelled_by_place s.tables s.regions s.number (list_of all s.number) s.log keepers).all in
      omega (arith, same, has.within)

  entry_spells : (all : Lists) (epoch : ℕ) (batch : Batch) → SpellsLog s.tables s.regions s.number (list_of all s.number) s.log → HasBatch s epoch batch →
      SpellsBatch s.tables s.regions (slice_index_or (list_of all s.number) (epoch - 1) []) batch
  entry_spells all epoch batch keepers has =
      let by_place = spelled_by_place s.tables s.regions s.number (list_of all s.number) s.log keepers in
      let within : epoch - 1 < length (list_of all s.number) = omega (arith, by_place.all, has.within, has.first) in
      (by_place.each (epoch - 1) (slice_index_or (list_of all s.number) (epoch - 1) []) batch (get_there (list_of all s.number) (epoch - 1) within) has.at).spelled
    where
      get_there : (xs : List (List ℕ)) (place : ℕ) → place < length xs → slice_get xs place ≡ Some (slice_index_or xs place [])
      get_there [] place within = absurd (omega arith)
      get_there (x ∷ xs) zero within = refl
      get_there (x ∷ xs) (suc place) within = get_there xs place (omega arith)

  up_goes : s.up ≡ true → fetch_refusal s ≡ None
  up_goes up = ap (λ (b : Bool). cond b None (Some of_fetch.Down)) up

  -- where bytes that are read don't spell the batch, the keepers don't tell
  bad_log : (told : Option Lists) (epoch : ℕ) (bytes : List ℕ) (batch : Batch) → s.up ≡ true → own_batch s epoch ≡ Some batch → AreItsKeepers s told → ¬ (SpellsBatch s.tables s.regions bytes batch) →
      IfSome told (λ all. bytes ≡ slice_index_or (list_of all s.number) (epoch - 1) []) → RefusesReply epoch s told (of_fetch.BadLog epoch)
  bad_log told epoch bytes batch up own keepers other is = (up_goes up, λ none. some_not_none batch (sym own ∙ none), refl, by told keepers is)
    where
      some_not_none : (b : Batch) → Some b ≡ None → ⊥
      some_not_none b e = cc

      by : (o : Option Lists) → AreItsKeepers s o → IfSome o (λ all. bytes ≡ slice_index_or (list_of all s.number) (epoch - 1) []) → o ≡ None
      by None k e = refl
      by (Some all) k e = absurd (other (subst (λ (l : List ℕ). SpellsBatch s.tables s.regions l batch) (sym e) (entry_spells all epoch batch k (has_batch epoch batch own))))

-- ---- what the calls show of it

-- a loan of it that is there
lent : {X : Type 0} → (o : Option (Bor X)) (missing : Bool) → is_some o ≡ not missing → missing ≡ false → (x : X) × (option_copied o ≡ Some x)
lent None missing is there = absurd (none (ap not (sym there)) is)
  where
    none : true ≡ not missing → false ≡ not missing → ⊥
    none given denied = let same : true ≡ false = given ∙ sym denied in cc
lent (Some x) missing is there = (x.now, refl)

module _ (old value : RegionValue) (h : IsRegion old) (view : old ≡ value) (up : old.standing.up ≡ true) (told : Option Lists) (epoch : ℕ)
    (keepers : value.standing.up ≡ true → AreItsKeepers value.standing told) (shown : Option (Bor Batch)) (logged : option_copied shown ≡ own_batch value.standing epoch) where
  own_keepers : AreItsKeepers old.standing told
  own_keepers = subst (λ (r : RegionValue). AreItsKeepers r.standing told) (sym view) (keepers (ap (λ (r : RegionValue). r.standing.up) (sym view) ∙ up))

  own_is : own_batch old.standing epoch ≡ option_copied shown
  own_is = ap (λ (r : RegionValue). own_batch r.standing epoch) view ∙ sym logged

  -- the keepers' list has the entry that is read
  pub entry_there : (missing : Bool) → is_some shown ≡ not missing → missing ≡ false → IfSome told (λ all. epoch ≤ length (list_of all old.standing.number))
  entry_there missing is there =
      let (batch, has) = lent shown missing is there in
      has_entry old.standing h.stands told epoch batch own_keepers (has_batch old.standing h.stands epoch batch (own_is ∙ has))

  module _ (kept : Bor Batch) (got : shown ≡ Some kept) where
    own_got : own_batch old.standing epoch ≡ Some kept.now
    own_got = own_is ∙ ap option_copied got

    -- the batch fits the tables
    pub kept_fits : FitsRegions value.standing.tables value.standing.regions kept.now
    kept_fits =
        subst (λ (r : RegionValue). FitsRegions r.standing.tables r.standing.regions kept.now) view
        (has_batch old.standing h.stands epoch kept.now own_got).fits

    -- bytes that don't spell it are never those of keepers that tell
    pub other_bytes : (read bytes : List ℕ) (equal : Bool) → read ≡ bytes → Compares value.standing read kept.now equal → equal ≡ false →
        IfSome told (λ all. bytes ≡ slice_index_or (list_of all old.standing.number) (epoch - 1) []) → RefusesReply epoch value.standing told (of_fetch.BadLog epoch)
    other_bytes read bytes equal same compares differ is =
        subst (λ (r : RegionValue). RefusesReply epoch r.standing told (of_fetch.BadLog epoch)) view
        (bad_log old.standing h.stands told epoch bytes kept.now up own_got own_keepers
        (subst (λ (r : RegionValue). ¬ (SpellsBatch r.standing.tables r.standing.regions bytes kept.now)) (sym view)
        (subst (λ (l : List ℕ). ¬ (SpellsBatch value.standing.tables value.standing.regions l kept.now)) same (subst (Compares value.standing read kept.now) differ compares))) is)

-- the same, by the bytes that the calls show
pub compared_by : (old value : RegionValue) (bytes shown again kept_shown kept : List ℕ) (read batch : Batch) (equal : Bool) → IsRegion old → old ≡ value →
    (old.standing.regions ≤ MAX_REGIONS → FitsRegions old.standing.tables old.standing.regions read) → FitsRegions value.standing.tables value.standing.regions batch →
    IsSpelling old.standing.tables read bytes → ((other : Batch) → SpellsBatch old.standing.tables old.standing.regions bytes other → read ≡ other) →
    shown ≡ again → again ≡ batch_spelling Ggb2 old.standing.tables read → kept_shown ≡ kept → kept ≡ batch_spelling Ggb2 old.standing.tables batch →
    equal ≡ pointwise nat_eq shown kept_shown → Compares value.standing bytes batch equal
compared_by old value bytes shown again kept_shown kept read batch equal h view fits_read fits spelled only shown_is again_is kept_shown_is kept_is test =
    subst (λ (r : RegionValue). Compares r.standing bytes batch equal) view
    (compared old.standing h.stands.schema bytes shown kept_shown read batch equal (fits_read h.stands.few)
    (subst (λ (r : RegionValue). FitsRegions r.standing.tables r.standing.regions batch) (sym view) fits) spelled only
    (shown_is ∙ again_is) (kept_shown_is ∙ kept_is) test)
