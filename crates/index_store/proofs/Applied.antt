-- A store that follows the versions by one epoch is that of what they keep.
use Rattle.std.proofs.Common.{◌≡◌, ◌⊎◌, inl, inr, ⊎_elim, ℕ, ◌+◌, ◌-◌, ◌<◌, ◌≤◌, false, Option, Some, List, [], ◌∷◌, ◌++◌, Contains, refl, sym, ap, ◌∙◌, subst, arith}
use Rattle.std.specs.List.{list_any}
use Rattle.std.specs.Map.{keys_of}
use Rattle.std.proofs.lemmas.Bool.{cases_lt}
use Rattle.std.proofs.lemmas.List.Elements.{Contains-append_left, Contains-append_right, Contains-append_cases}
use Rattle.geo_base.specs.declared.row_id.RowId.{RowId}
use Rattle.geo_base.specs.declared.row_image.RowImage.{RowImage}
use Rattle.geo_schema.specs.Schemas.{Tables}
use Rattle.write_set.specs.Journal.{Placed}
use Rattle.write_set.specs.Sets.{ChangeOfRow, changes_row}
use Rattle.write_set.specs.Snapshot.{changes_of}
use Rattle.write_set.specs.laws.Among.{among_first}
use Rattle.index_store.specs.declared.gain.Gain.{Gain}
use Rattle.index_store.specs.declared.pair.IndexPair.{IndexPair}
use Rattle.index_store.specs.Indexes.{IsIndexOf}
use Rattle.index_store.specs.Kept.{KeptImages, IsKeptEpoch, IsNextOf}
use Rattle.index_store.specs.Pairs.{row_of, IsPairIn, IsHadAt}
use Rattle.index_store.specs.Store.{Stored, IsStoreOf}
use Rattle.index_store.specs.inner.Following.{all_apart, all_added}
use Rattle.index_store.specs.inner.GainsAndLosses.{Loss, IsNoted, IsLostAfter, IsLastGain, IsLossOf}
use Rattle.index_store.specs.laws.Members.{alone}
use Rattle.index_store.proofs.Having.{either}
use Rattle.index_store.proofs.Apart.{from_all_apart, in_all_apart, among_or_unchanged}
use Rattle.index_store.proofs.Found.{Entries, found, in_epoch, found_there, there_found, added_found, unadded_found}

module _ (tables : Tables) (committed : List Placed) (old new : KeptImages) (next : IsNextOf committed old new) (entries : Entries) (losses : List Loss)
    (store : IsStoreOf tables old (record { entries = entries; losses = losses })) where
  -- the images before the epoch and after it
  abbrev was : RowId → Option RowImage
  was row = new.image row (new.last - 1)

  abbrev is : RowId → Option RowImage
  is row = new.image row new.last

  abbrev rows : List RowId
  rows = keys_of (changes_of committed)

  abbrev gained : List IndexPair
  gained = all_apart tables is was rows

  abbrev lost : List IndexPair
  lost = all_apart tables was is rows

  abbrev entries_then : Entries
  entries_then = all_added new.last gained entries

  abbrev losses_then : List Loss
  losses_then = losses ++ record { epoch = new.last; pairs = lost } ∷ []

  abbrev Had : IndexPair → ℕ → Type 0
  Had = IsHadAt tables old

  abbrev HadThen : IndexPair → ℕ → Type 0
  HadThen = IsHadAt tables new

  -- ---- what is had before the epoch, and in it

  last_kept : IsKeptEpoch old old.last
  last_kept = record { from = next.some; upto = omega arith }

  before_last : new.last - 1 ≡ old.last
  before_last = omega (arith, next.last)

  had_before : (pair : IndexPair) (epoch : ℕ) → IsKeptEpoch old epoch → HadThen pair epoch → Had pair epoch
  had_before pair epoch kept had = subst (IsPairIn tables pair) (next.before (row_of pair) epoch kept) had

  had_still : (pair : IndexPair) (epoch : ℕ) → IsKeptEpoch old epoch → Had pair epoch → HadThen pair epoch
  had_still pair epoch kept had = subst (IsPairIn tables pair) (sym (next.before (row_of pair) epoch kept)) had

  was_had : (pair : IndexPair) → IsPairIn tables pair (was (row_of pair)) → Had pair old.last
  was_had pair had = had_before pair old.last last_kept (subst (HadThen pair) before_last had)

  had_was : (pair : IndexPair) → Had pair old.last → IsPairIn tables pair (was (row_of pair))
  had_was pair had = subst (HadThen pair) (sym before_last) (had_still pair old.last last_kept had)

  -- a row that isn't looked at has its image still
  unmoved : (pair : IndexPair) → new.image (row_of pair) new.last ≡ old.image (row_of pair) old.last → HadThen pair new.last → Had pair old.last
  unmoved pair same had = subst (IsPairIn tables pair) same had

  unmoved_back : (pair : IndexPair) → new.image (row_of pair) new.last ≡ old.image (row_of pair) old.last → Had pair old.last → HadThen pair new.last
  unmoved_back pair same had = subst (IsPairIn tables pair) (sym same) had

  -- ---- what is gained and lost

  is_gained : (pair : IndexPair) → HadThen pair new.last → (Had pair old.last → ⊥) → Contains gained pair
  is_gained pair had absent = by (among_or_unchanged (row_of pair) committed)
    where
      by : (Contains rows (row_of pair) ⊎ (list_any (λ c. changes_row (row_of pair) c.set) committed ≡ false)) → Contains gained pair
      by (inl among) = in_all_apart tables is was rows pair among had (λ before. absent (was_had pair before))
      by (inr none) = absurd (absent (unmoved pair (next.others (row_of pair) none) had))

  gained_is : (pair : IndexPair) → Contains gained pair → HadThen pair new.last × (Had pair old.last → ⊥)
  gained_is pair c = let its = from_all_apart tables is was rows pair c in (its.0, λ had. its.1 (had_was pair had))

  is_lost : (pair : IndexPair) → Had pair old.last → (HadThen pair new.last → ⊥) → Contains lost pair
  is_lost pair had gone = by (among_or_unchanged (row_of pair) committed)
    where
      by : (Contains rows (row_of pair) ⊎ (list_any (λ c. changes_row (row_of pair) c.set) committed ≡ false)) → Contains lost pair
      by (inl among) = in_all_apart tables was is rows pair among (had_was pair had) gone
      by (inr none) = absurd (gone (unmoved_back pair (next.others (row_of pair) none) had))

  lost_is : (pair : IndexPair) → Contains lost pair → HadThen pair new.last → ⊥
  lost_is pair c = (from_all_apart tables was is rows pair c).1

  gained_or_not : (pair : IndexPair) → Contains gained pair ⊎ (Contains gained pair → ⊥)
  gained_or_not pair = by (either tables pair (new.image (row_of pair) new.last)) (either tables pair (old.image (row_of pair) old.last))
    where
      by : (HadThen pair new.last ⊎ (HadThen pair new.last → ⊥)) → (Had pair old.last ⊎ (Had pair old.last → ⊥)) →
          Contains gained pair ⊎ (Contains gained pair → ⊥)
      by (inl had) (inl before) = inr (λ c. (gained_is pair c).1 before)
      by (inl had) (inr absent) = inl (is_gained pair had absent)
      by (inr none) before = inr (λ c. none (gained_is pair c).0)

  -- ---- what is found then

  found_gained : (pair : IndexPair) → Contains gained pair → found pair entries_then ≡ Some (in_epoch new.last)
  found_gained pair c = added_found new.last gained entries pair (inr c)

  found_other : (pair : IndexPair) → (Contains gained pair → ⊥) → found pair entries_then ≡ found pair entries
  found_other pair none = unadded_found new.last gained entries pair none

  there_gained : (pair : IndexPair) → Contains gained pair → Contains (keys_of entries_then) pair
  there_gained pair c = found_there pair (in_epoch new.last) entries_then (found_gained pair c)

  there_still : (pair : IndexPair) → Contains (keys_of entries) pair → Contains (keys_of entries_then) pair
  there_still pair c = by (gained_or_not pair)
    where
      by : (Contains gained pair ⊎ (Contains gained pair → ⊥)) → Contains (keys_of entries_then) pair
      by (inl g) = there_gained pair g
      by (inr none) =
          let (gain, is_found) = there_found pair entries c in
          found_there pair gain entries_then (found_other pair none ∙ is_found)

  -- ---- epochs that are kept then

  kept_or_last : (epoch : ℕ) → IsKeptEpoch new epoch → IsKeptEpoch old epoch ⊎ (epoch ≡ new.last)
  kept_or_last epoch kept =
      ⊎_elim
      (λ earlier. inl (record { from = omega (arith, kept.from, next.first); upto = omega (arith, earlier, next.last) }))
      (λ later. inr (omega (arith, later, kept.upto)))
      (cases_lt epoch new.last)

  kept_then : (epoch : ℕ) → IsKeptEpoch old epoch → IsKeptEpoch new epoch
  kept_then epoch kept = record { from = omega (arith, kept.from, next.first); upto = omega (arith, kept.upto, next.last) }

  last_kept_then : IsKeptEpoch new new.last
  last_kept_then = record { from = omega (arith, next.first, next.last, next.some); upto = omega arith }

  -- ---- the index

  index_then : IsIndexOf tables new (keys_of entries_then)
  index_then = record { each = λ pair epoch kept had. each pair epoch had (kept_or_last epoch kept); only = λ pair c. only pair c (gained_or_not pair) }
    where
      now : (pair : IndexPair) → HadThen pair new.last → Contains (keys_of entries_then) pair
      now pair had =
          ⊎_elim
          (λ before. there_still pair (store.index.each pair old.last last_kept before))
          (λ absent. there_gained pair (is_gained pair had absent))
          (either tables pair (old.image (row_of pair) old.last))

      each : (pair : IndexPair) (epoch : ℕ) → HadThen pair epoch → (IsKeptEpoch old epoch ⊎ (epoch ≡ new.last)) → Contains (keys_of entries_then) pair
      each pair epoch had (inl kept) = there_still pair (store.index.each pair epoch kept (had_before pair epoch kept had))
      each pair epoch had (inr same) = now pair (subst (HadThen pair) same had)

      only : (pair : IndexPair) → Contains (keys_of entries_then) pair → (Contains gained pair ⊎ (Contains gained pair → ⊥)) →
          (epoch : ℕ) × IsKeptEpoch new epoch × HadThen pair epoch
      only pair c (inl g) = (new.last, last_kept_then, (gained_is pair g).0)
      only pair c (inr none) =
          let (gain, is_found) = there_found pair entries_then c in
          let (epoch, kept, had) = store.index.only pair (found_there pair gain entries (sym (found_other pair none) ∙ is_found)) in
          (epoch, kept_then epoch kept, had_still pair epoch kept had)

  -- ---- what is noted

  noted_still : (pair : IndexPair) (epoch : ℕ) → IsNoted losses pair epoch → IsNoted losses_then pair epoch
  noted_still pair epoch noted = record {
    loss = noted.loss;
    among = Contains-append_left losses (record { epoch = new.last; pairs = lost } ∷ []) noted.loss noted.among;
    epoch = noted.epoch;
    pair = noted.pair;
  }

  noted_now : (pair : IndexPair) → Contains lost pair → IsNoted losses_then pair new.last
  noted_now pair c = record {
    loss = record { epoch = new.last; pairs = lost };
    among = Contains-append_right losses (record { epoch = new.last; pairs = lost } ∷ []) (record { epoch = new.last; pairs = lost }) (among_first (record { epoch = new.last; pairs = lost }) []);
    epoch = refl;
    pair = c;
  }

  notes_lost : (pair : IndexPair) (epoch : ℕ) → new.first ≤ epoch → epoch < new.last → IsLostAfter tables new pair epoch → IsNoted losses_then pair (epoch + 1)
  notes_lost pair epoch from before loses =
      ⊎_elim
      (λ earlier. noted_still pair (epoch + 1) (store.notes.lost pair epoch (omega (arith, from, next.first)) earlier (record {
        had = had_before pair epoch (record { from = omega (arith, from, next.first); upto = omega (arith, earlier) }) loses.had;
        gone = λ had. loses.gone (had_still pair (epoch + 1) (record { from = omega (arith, from, next.first); upto = omega (arith, earlier) }) had);
      })))
      (λ later.
      let same : epoch ≡ old.last = omega (arith, later, before, next.last) in
      let now : epoch + 1 ≡ new.last = omega (arith, same, next.last) in
      let had : Had pair old.last = had_before pair old.last last_kept (subst (HadThen pair) same loses.had) in
      subst (IsNoted losses_then pair) (sym now) (noted_now pair (is_lost pair had (λ has. loses.gone (subst (HadThen pair) (sym now) has)))))
      (cases_lt epoch old.last)

  notes_noted : (pair : IndexPair) (epoch : ℕ) → IsNoted losses_then pair epoch → IsLossOf tables new pair epoch
  notes_noted pair epoch noted = by (Contains-append_cases losses (record { epoch = new.last; pairs = lost } ∷ []) noted.loss noted.among)
    where
      by : (Contains losses noted.loss ⊎ Contains (record { epoch = new.last; pairs = lost } ∷ []) noted.loss) → IsLossOf tables new pair epoch
      by (inl before) =
          let is = store.notes.noted pair epoch (record { loss = noted.loss; among = before; epoch = noted.epoch; pair = noted.pair }) in
          record {
            from = omega (arith, is.from, next.first);
            upto = omega (arith, is.upto, next.last);
            gone = λ has. is.gone (had_before pair epoch (record { from = omega (arith, is.from); upto = is.upto }) has);
          }
      by (inr last) =
          let same : record { epoch = new.last; pairs = lost } ≡ noted.loss = alone (record { epoch = new.last; pairs = lost }) noted.loss last in
          let now : epoch ≡ new.last = sym noted.epoch ∙ ap (λ loss. loss.epoch) (sym same) in
          let is : Contains lost pair = subst (λ loss. Contains loss.pairs pair) (sym same) noted.pair in
          record {
            from = omega (arith, now, next.first, next.last, next.some);
            upto = omega (arith, now);
            gone = λ has. lost_is pair is (subst (HadThen pair) now has);
          }

  notes_gained : (pair : IndexPair) (gain : Gain) → found pair entries_then ≡ Some gain → IsLastGain tables new pair gain.epoch
  notes_gained pair gain is_found = by (gained_or_not pair)
    where
      by : (Contains gained pair ⊎ (Contains gained pair → ⊥)) → IsLastGain tables new pair gain.epoch
      by (inl g) =
          let both : Some gain ≡ Some (in_epoch new.last) = sym is_found ∙ found_gained pair g in
          let same : gain ≡ in_epoch new.last = cc in
          let now : gain.epoch ≡ new.last = ap (λ x. x.epoch) same in
          record {
            upto = omega (arith, now);
            had = λ from. subst (HadThen pair) (sym now) (gained_is pair g).0;
            last = λ epoch from before gains. omega (arith, now, before);
          }
      by (inr none) =
          let its = store.notes.gained pair gain (sym (found_other pair none) ∙ is_found) in
          record {
            upto = omega (arith, its.upto, next.last);
            had = λ from.
                let at : old.first ≤ gain.epoch = omega (arith, from, next.first) in
                had_still pair gain.epoch (record { from = at; upto = its.upto }) (its.had at);
            last = λ epoch from before gains.
                ⊎_elim
                (λ earlier. its.last epoch (omega (arith, from, next.first)) earlier (record {
                  absent = λ had. gains.absent (had_still pair epoch (record { from = omega (arith, from, next.first); upto = omega (arith, earlier) }) had);
                  has = had_before pair (epoch + 1) (record { from = omega (arith, from, next.first); upto = omega (arith, earlier) }) gains.has;
                }))
                (λ later.
                let same : epoch ≡ old.last = omega (arith, later, before, next.last) in
                let now : epoch + 1 ≡ new.last = omega (arith, same, next.last) in
                absurd (none (is_gained pair (subst (HadThen pair) now gains.has)
                (λ had. gains.absent (subst (HadThen pair) (sym same) (had_still pair old.last last_kept had))))))
                (cases_lt epoch old.last);
          }

  pub store_applied : IsStoreOf tables new (record { entries = entries_then; losses = losses_then })
  store_applied = record { index = index_then; notes = record { lost = notes_lost; noted = notes_noted; gained = notes_gained } }

-- the same of a store that became so
pub follows_epoch : (tables : Tables) (committed : List Placed) (old new : KeptImages) (before after : Stored) → IsStoreOf tables old before → IsNextOf committed old new →
    after.entries ≡ all_added new.last (all_apart tables (λ row. new.image row new.last) (λ row. new.image row (new.last - 1)) (keys_of (changes_of committed))) before.entries →
    after.losses ≡ before.losses ++ record { epoch = new.last; pairs = all_apart tables (λ row. new.image row (new.last - 1)) (λ row. new.image row new.last) (keys_of (changes_of committed)) } ∷ [] →
    IsStoreOf tables new after
follows_epoch tables committed old new before after store next entries losses =
    subst (λ (s : Stored). IsStoreOf tables new s) (λ i. record { entries = sym entries i; losses = sym losses i })
    (store_applied tables committed old new next before.entries before.losses store)

-- the same by what each call of `apply` gives
pub apply_call : (tables : Tables) (committed : List Placed) (old new : KeptImages) (inside before after : Stored) (epoch : ℕ) (changes : List ChangeOfRow)
    (gained lost : List IndexPair) (forked : Entries) (loss : Loss) → IsStoreOf tables old before → IsNextOf committed old new → inside ≡ before →
    epoch ≡ new.last → changes ≡ changes_of committed →
    lost ≡ all_apart tables (λ row. new.image row (new.last - 1)) (λ row. new.image row new.last) (keys_of changes) →
    gained ≡ all_apart tables (λ row. new.image row new.last) (λ row. new.image row (new.last - 1)) (keys_of changes) →
    forked ≡ inside.entries → after.entries ≡ all_added epoch gained forked → loss ≡ record { epoch = epoch; pairs = lost } →
    after.losses ≡ inside.losses ++ loss ∷ [] → IsStoreOf tables new after
apply_call tables committed old new inside before after epoch changes gained lost forked loss store next seen now all loses gains fork added noted pushed =
    follows_epoch tables committed old new before after store next
    (added ∙ ap (λ e. all_added e gained forked) now ∙ ap (λ pairs. all_added new.last pairs forked) gained_all
    ∙ ap (all_added new.last (all_apart tables (λ row. new.image row new.last) (λ row. new.image row (new.last - 1)) (keys_of (changes_of committed)))) (fork ∙ ap (λ (s : Stored). s.entries) seen))
    (pushed ∙ ap (λ losses. losses ++ loss ∷ []) (ap (λ (s : Stored). s.losses) seen) ∙ ap (λ l. before.losses ++ l ∷ []) the_loss)
  where
    gained_all : gained ≡ all_apart tables (λ row. new.image row new.last) (λ row. new.image row (new.last - 1)) (keys_of (changes_of committed))
    gained_all = gains ∙ ap (λ cs. all_apart tables (λ row. new.image row new.last) (λ row. new.image row (new.last - 1)) (keys_of cs)) all

    lost_all : lost ≡ all_apart tables (λ row. new.image row (new.last - 1)) (λ row. new.image row new.last) (keys_of (changes_of committed))
    lost_all = loses ∙ ap (λ cs. all_apart tables (λ row. new.image row (new.last - 1)) (λ row. new.image row new.last) (keys_of cs)) all

    the_loss : loss ≡ record { epoch = new.last; pairs = all_apart tables (λ row. new.image row (new.last - 1)) (λ row. new.image row new.last) (keys_of (changes_of committed)) }
    the_loss = noted ∙ (λ i. record { epoch = now i; pairs = lost_all i })
