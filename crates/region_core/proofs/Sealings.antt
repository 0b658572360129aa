-- A seal: what it is refused for, the batch that it logs, and what the region is with it.
use Rattle.std.proofs.Common.{◌≡◌, ℕ, ◌<◌, Bool, true, false, cond, Option, None, Some, Result, Ok, Err, Bor, Vec, Global, List, [], ◌∷◌, ◌++◌, length, refl, sym, ap, ◌∙◌, subst, arith, add-one, ◌⊎◌, inl, inr}
use Rattle.std.specs.Prelude.{is_some, is_ok, IfSome, IsSome, IsErrOf}
use Rattle.std.specs.Option.{option_copied}
use Rattle.std.specs.List.{slice_get}
use Rattle.std.proofs.lemmas.Bool.Decides.{nat_tests}
use Rattle.geo_base.specs.laws.Results.{not_done}
use Rattle.geo_io.specs.Told.{Lists, list_of, Gains, MayGain, Moves}
use Rattle.geo_io.specs.laws.Told.{entry_at_end}
use Rattle.write_set.specs.declared.batch.Batch.{Batch}
use Rattle.write_set.specs.declared.candidate.Candidate.{Candidate}
use Rattle.write_set.specs.BatchSizes.{batch_size}
use Rattle.set_codec.specs.declared.format.Format.TheVariants.{Ggb2}
use Rattle.set_codec.specs.Alone.{SpellsBatch}
use Rattle.set_codec.specs.Fits.{FitsSchema}
use Rattle.set_codec.specs.Spelling.{batch_spelling}
use Rattle.own_log.specs.declared.fault.LogAppendFault.{LogAppendFault}
use Rattle.own_log.specs.declared.fault.LogAppendFault.TheVariants as append_fault
use Rattle.own_log.specs.Logs.{IsOfLog, SpellsLog}
use Rattle.own_log.specs.laws.Logs.{of_log_by_place, spelled_by_place, appended_is_read}
use Rattle.epoch_inbox.specs.Inbox.{Holding, is_at, held_at, is_held, with_batch, without_batch}
use Rattle.epoch_inbox.specs.laws.Held.{put_there}
use Rattle.epoch_inbox.specs.laws.Rising.{dropped_gone}
use Rattle.region_core.specs.declared.region.Region.TheInside.{Inside}
use Rattle.region_core.specs.Region.{Standing, RegionValue, open_epoch, batch_for, inbox_of, with_standing}
use Rattle.region_core.specs.Entries.{Seal, after, next_batch}
use Rattle.region_core.specs.Refusals.{seal_refusal}
use Rattle.region_core.specs.Lawful.{IsStanding}
use Rattle.region_core.specs.Calls.{AreItsKeepers}
use Rattle.region_core.specs.inner.Fields.{AreFields}
use Rattle.region_core.specs.inner.Sealing.{IsLogged, KeepsEntry}
use Rattle.region_core.specs.laws.Standings.{can_seal, get_end, stands_after}
use Rattle.region_core.specs.laws.Regions.{makes_region}
use Rattle.region_core.proofs.Insides.{holding, view_of, AreInside, seen_with}

-- ---- the next batch

none_behind : {X : Type 0} → (xs : List X) → slice_get xs (length xs) ≡ None
none_behind [] = refl
none_behind (x ∷ xs) = none_behind xs

module _ (s : Standing) (h : IsStanding s) (goes : seal_refusal s ≡ None) where
  -- it may stand at the end of the log
  pub next_of_log : IsOfLog s.tables s.regions s.number (length s.log) (next_batch s)
  next_of_log =
      let stands : IsStanding (after (Seal (next_batch s)) s) = stands_after s (Seal (next_batch s)) h (goes, refl) in
      (of_log_by_place s.tables s.regions s.number (s.log ++ next_batch s ∷ []) (length s.log) (next_batch s) stands.log (get_end s.log (next_batch s))).of_log

  -- and isn't held yet
  pub next_not_held : is_held s.held (open_epoch s) s.number ≡ false
  next_not_held =
      ap is_some (h.own (can_seal s goes).up (open_epoch s) (omega (arith, h.sealed)) ∙ ap (batch_for s.log) (add-one (length s.log)) ∙ none_behind s.log)

  -- let go again, it leaves what was held
  pub next_let_go : without_batch (with_batch s.held (next_batch s)) (open_epoch s) s.number ≡ s.held
  next_let_go = dropped_gone (inbox_of s) (next_batch s) h.places next_not_held

-- the keepers' list with its spelling spells the log with it
next_keepers : (s : Standing) (told now : Option Lists) → SpellsBatch s.tables s.regions (batch_spelling Ggb2 s.tables (next_batch s)) (next_batch s) → IfSome told (λ all. s.number < length all) →
    Moves (Gains s.number (batch_spelling Ggb2 s.tables (next_batch s))) told now → AreItsKeepers s told → AreItsKeepers (after (Seal (next_batch s)) s) now
next_keepers s None None spelled there gains keepers = tt
next_keepers s None (Some y) spelled there gains keepers = absurd gains
next_keepers s (Some x) None spelled there gains keepers = absurd gains
next_keepers s (Some x) (Some y) spelled there gains keepers =
    let bytes = batch_spelling Ggb2 s.tables (next_batch s) in
    let all = (spelled_by_place s.tables s.regions s.number (list_of x s.number) s.log keepers).all in
    let grown : list_of y s.number ≡ list_of x s.number ++ bytes ∷ [] = ap (λ (l : Lists). list_of l s.number) gains ∙ (entry_at_end x s.number bytes there).own in
    subst (λ (l : List (List ℕ)). SpellsLog s.tables s.regions s.number l (s.log ++ next_batch s ∷ [])) (sym grown)
    (appended_is_read s.tables s.regions s.number (list_of x s.number) s.log bytes (next_batch s) keepers (record { spelled = spelled; region = refl; epoch = omega (arith, all) }))

-- so it is after a seal
pub sealed_keepers : (old new : RegionValue) (told now : Option Lists) (bytes : List ℕ) (width : ℕ) → IsLogged old.standing bytes → new ≡ with_standing (after (Seal (next_batch old.standing)) old.standing) old →
    old.standing.number < width → IfSome told (λ all. length all ≡ width) → Moves (Gains old.standing.number (batch_spelling Ggb2 old.standing.tables (next_batch old.standing))) told now →
    AreItsKeepers old.standing told → AreItsKeepers new.standing now
sealed_keepers old new told now bytes width logged is below counted gains keepers =
    subst (λ (r : RegionValue). AreItsKeepers r.standing now) (sym is)
    (next_keepers old.standing told now (subst (λ (l : List ℕ). SpellsBatch old.standing.tables old.standing.regions l (next_batch old.standing)) logged.bytes_are logged.spelled) (has_list told counted) gains keepers)
  where
    has_list : (o : Option Lists) → IfSome o (λ all. length all ≡ width) → IfSome o (λ all. old.standing.number < length all)
    has_list None e = tt
    has_list (Some all) e = omega (arith, below, e)

-- what was put in is found
pub found_put : (held : List Batch) (batch : Batch) → held_at (with_batch held batch) batch.epoch batch.region ≡ Some batch
found_put held batch = put_there held batch batch.epoch batch.region ∙ ap (λ (t : Bool). cond t (Some batch) (held_at held batch.epoch batch.region)) (at_itself batch.epoch batch.region)
  where
    at_itself : (epoch region : ℕ) → is_at epoch region (record { region = region; epoch = epoch; items = batch.items }) ≡ true
    at_itself epoch region = grind (arith, nat_tests)

-- ---- the fields at a seal

abbrev batch_with : ℕ → ℕ → List Candidate → Batch
batch_with region epoch items = record { region = region; epoch = epoch; items = items }

-- the next batch is held, and lent
pub record IsLent (a : Inside) (r : RegionValue) (inbox : Holding) (got : Option (Bor Batch)) : Type 0 where
  pub put : inbox ≡ holding a.inbox.regions (with_batch a.inbox.held (next_batch r.standing))
  pub found : option_copied got ≡ Some (next_batch r.standing)

module _ (a : Inside) (h : AreInside a) (r : RegionValue) (is : view_of a ≡ r) where
  -- the log has the same batches, and the inbox holds the same
  pub same_inside : (log : List Batch) (inbox : Holding) → log ≡ a.log.items → inbox ≡ a.inbox → AreFields a.size inbox a.index (seen_with a a.up log a.open_candidates.items inbox.held)
  same_inside log inbox logged held =
      subst (λ (k : Holding). AreFields a.size k a.index (seen_with a a.up log a.open_candidates.items k.held)) (sym held)
      (subst (λ (l : List Batch). AreFields a.size a.inbox a.index (seen_with a a.up l a.open_candidates.items a.inbox.held)) (sym logged) h)

  pub same_is : (log : List Batch) (inbox : Holding) → log ≡ a.log.items → inbox ≡ a.inbox → seen_with a a.up log a.open_candidates.items inbox.held ≡ r
  same_is log inbox logged held = (λ i. seen_with a a.up (logged i) a.open_candidates.items (held i).held) ∙ is

  module _ (epoch : ℕ) (of : epoch ≡ open_epoch r.standing) where
    -- what is made of the open candidates is the next batch
    pub made_is : (batch : Batch) (items : List Candidate) → items ≡ a.open_candidates.items → batch ≡ batch_with a.no epoch items → batch ≡ next_batch r.standing
    made_is batch items here made =
        made ∙ (λ i. batch_with a.no (of i) (here i)) ∙ (λ i. batch_with (is i).standing.number (open_epoch r.standing) (is i).standing.open_candidates)

    -- it is held
    pub put_is : (inbox : Holding) (batch : Batch) → batch ≡ next_batch r.standing → inbox ≡ holding a.inbox.regions (with_batch a.inbox.held batch) → inbox ≡ holding a.inbox.regions (with_batch a.inbox.held (next_batch r.standing))
    put_is inbox batch made put = put ∙ ap (λ (b : Batch). holding a.inbox.regions (with_batch a.inbox.held b)) made

    -- and found
    pub got_is : (inbox : Holding) (got : Option (Bor Batch)) → inbox ≡ holding a.inbox.regions (with_batch a.inbox.held (next_batch r.standing)) → option_copied got ≡ held_at inbox.held epoch a.no →
        option_copied got ≡ Some (next_batch r.standing)
    got_is inbox got put found = found ∙ (λ i. held_at (put i).held (of i) (is i).standing.number) ∙ found_put a.inbox.held (next_batch r.standing)

    -- both, of the copy that was put in and lent again
    pub lent : (copy : Batch) (items : List Candidate) (inbox : Holding) (got : Option (Bor Batch)) → items ≡ a.open_candidates.items → copy ≡ batch_with a.no epoch items →
        inbox ≡ holding a.inbox.regions (with_batch a.inbox.held copy) → option_copied got ≡ held_at inbox.held epoch a.no → IsLent a r inbox got
    lent copy items inbox got here copied put found =
        let all = put_is inbox copy (made_is copy items here copied) put in
        record { put = all; found = got_is inbox got all found }

    module _ (goes : seal_refusal r.standing ≡ None) where
      next_goes : seal_refusal (view_of a).standing ≡ None
      next_goes = ap (λ (x : RegionValue). seal_refusal x.standing) is ∙ goes

      pub next_fits : (batch : Batch) → batch ≡ next_batch r.standing → FitsSchema a.schema batch
      next_fits batch made =
          subst (FitsSchema a.schema) (sym (made ∙ sym (ap (λ (x : RegionValue). next_batch x.standing) is)))
          (next_of_log (view_of a).standing h.lawful.stands next_goes).fits.fits

      -- let go again it leaves the inbox as it was
      pub let_go_is : (inbox left : Holding) → inbox ≡ holding a.inbox.regions (with_batch a.inbox.held (next_batch r.standing)) →
          left ≡ holding inbox.regions (without_batch inbox.held epoch a.no) → left ≡ a.inbox
      let_go_is inbox left put gone =
          gone
          ∙ (λ i. holding (put i).regions (without_batch (put i).held (of i) (is i).standing.number))
          ∙ ap (holding a.inbox.regions)
          (subst (λ (x : RegionValue). without_batch (with_batch a.inbox.held (next_batch x.standing)) (open_epoch x.standing) x.standing.number ≡ a.inbox.held) is
          (next_let_go (view_of a).standing h.lawful.stands next_goes))

  -- ---- what the log got

  module _ (batch : Batch) (made : batch ≡ next_batch r.standing) where
    pub logged_is : (bytes : List ℕ) → bytes ≡ batch_spelling Ggb2 a.schema batch →
        ((regions : ℕ) → batch.region < regions → SpellsBatch a.schema regions (batch_spelling Ggb2 a.schema batch) batch) → IsLogged r.standing bytes
    logged_is bytes are spelled =
        let there : batch.region < a.regions = omega (arith, h.lawful.stands.there, ap (λ (b : Batch). b.region) made, ap (λ (x : RegionValue). x.standing.number) is) in
        record {
          bytes_are = are ∙ ap (batch_spelling Ggb2 a.schema) made ∙ ap (λ (x : RegionValue). batch_spelling Ggb2 x.standing.tables (next_batch r.standing)) is;
          spelled = subst (λ (x : RegionValue). SpellsBatch x.standing.tables x.standing.regions bytes (next_batch r.standing)) is
              (subst (λ (b : Batch). SpellsBatch a.schema a.regions bytes b) made
              (subst (λ (l : List ℕ). SpellsBatch a.schema a.regions l batch) (sym are) (spelled a.regions there)));
        }

    -- the same step of the lists
    moves_on : (Step : ℕ → List ℕ → Lists → Lists → Type 0) (told now : Option Lists) → Moves (Step batch.region (batch_spelling Ggb2 a.schema batch)) told now →
        Moves (Step r.standing.number (batch_spelling Ggb2 r.standing.tables (next_batch r.standing))) told now
    moves_on Step told now moves =
        subst (λ (x : RegionValue). Moves (Step r.standing.number (batch_spelling Ggb2 x.standing.tables (next_batch r.standing))) told now) is
        (subst (λ (b : Batch). Moves (Step b.region (batch_spelling Ggb2 a.schema b)) told now) made moves)

    pub gains_on : (told now : Option Lists) → Moves (Gains batch.region (batch_spelling Ggb2 a.schema batch)) told now →
        Moves (Gains r.standing.number (batch_spelling Ggb2 r.standing.tables (next_batch r.standing))) told now
    gains_on = moves_on Gains

    pub keeps_fault : (A B : Type 0) (fault : LogAppendFault) (told now : Option Lists) →
        (IsErrOf {T = A} (Err fault) append_fault.LogFault → Moves (MayGain batch.region (batch_spelling Ggb2 a.schema batch)) told now) → (IsErrOf {T = A} (Err fault) append_fault.NoMemory → now ≡ told) →
        KeepsEntry {A = B} r.standing (Err fault) told now
    keeps_fault A B append_fault.LogFault told now failed none = moves_on MayGain told now (failed refl)
    keeps_fault A B append_fault.NoMemory told now failed none = none refl

  -- ---- what the region is then

  module _ (goes : seal_refusal r.standing ≡ None) (log : List Batch) (open_candidates : List Candidate) (inbox : Holding) (batch : Batch) (made : batch ≡ next_batch r.standing)
      (logged : log ≡ a.log.items ++ batch ∷ []) (none_open : open_candidates ≡ []) (put : inbox ≡ holding a.inbox.regions (with_batch a.inbox.held (next_batch r.standing))) where
    sealed_with : seen_with a a.up log open_candidates inbox.held ≡ with_standing (after (Seal (next_batch r.standing)) (view_of a).standing) (view_of a)
    sealed_with = (λ i. seen_with a a.up (logged i) (none_open i) (put i).held) ∙ ap (λ (b : Batch). seen_with a a.up (a.log.items ++ b ∷ []) [] (with_batch a.inbox.held (next_batch r.standing))) made

    -- the region has sealed the batch
    pub sealed_is : seen_with a a.up log open_candidates inbox.held ≡ with_standing (after (Seal (next_batch r.standing)) r.standing) r
    sealed_is = sealed_with ∙ ap (λ (x : RegionValue). with_standing (after (Seal (next_batch r.standing)) x.standing) x) is

    -- and the fields belong together
    pub sealed_inside : AreFields 13 inbox a.index (seen_with a a.up log open_candidates inbox.held)
    sealed_inside = record {
      lawful = makes_region (view_of a) (seen_with a a.up log open_candidates inbox.held) (Seal (next_batch r.standing)) h.lawful
          (ap (λ (x : RegionValue). seal_refusal x.standing) is ∙ goes, sym (ap (λ (x : RegionValue). next_batch x.standing) is)) sealed_with;
      counted = ap batch_size (sym none_open);
      inbox_regions = ap (λ (k : Holding). k.regions) put ∙ h.inbox_regions;
      follows = h.follows;
    }

-- ---- references

pub some_is : {X : Type 0} (got : Option (Bor X)) (x : X) → option_copied got ≡ Some x → IsSome got
some_is None x e = absurd (cc)
some_is (Some b) x e = refl

pub now_is : {X : Type 0} (got : Option (Bor X)) (b : Bor X) (x : X) → got ≡ Some b → option_copied got ≡ Some x → b.now ≡ x
now_is {X} got b x e copied = got_same (sym (ap option_copied e) ∙ copied)
  where
    got_same : Some b.now ≡ Some x → b.now ≡ x
    got_same f = cc

-- ---- what calls leave

pub same_items : {X : Type 0} (v w : Vec X Global) → v ≡ w → v.items ≡ w.items
same_items {X} v w e = ap (λ (u : Vec X Global). u.items) e

pub none_left : {X : Type 0} (v w : Vec X Global) → v ≡ w → w.items ≡ [] → v.items ≡ []
none_left v w e none = same_items v w e ∙ none

-- what went well added an item
pub pushed_is : {A E X : Type 0} (result : Result A E) (done : A) (left before first : List X) (x : X) → result ≡ Ok done →
    left ≡ cond (is_ok result) (before ++ x ∷ []) before → before ≡ first → left ≡ first ++ x ∷ []
pushed_is (Ok a) done left before first x well is same = is ∙ ap (λ (l : List _). l ++ x ∷ []) same
pushed_is (Err e) done left before first x well is same = absurd cc

-- the keepers were asked, unless there was no memory
pub was_told : {A E : Type 0} (x : A) (e : E) (P : Type 0) → IsErrOf (Ok x) e ⊎ P → P
was_told x e P (inl is) = not_done x e is
was_told x e P (inr told) = told
