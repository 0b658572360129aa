-- The batches of a round.
use Rattle.std.proofs.Common.{◌≡◌, ℕ, ◌+◌, ◌≤◌, ◌==◌, List, [], ◌∷◌, length, sym, ap, ◌∙◌, subst₂, arith}
use Rattle.std.specs.List.{AllByRecursion}
use Rattle.std.proofs.lemmas.List.Elements.{All-filter, All-weaker, recursion_from_All}
use Rattle.geo_base.specs.declared.limits.TheConstants.{MAX_REGIONS, LAST_EPOCH}
use Rattle.write_set.specs.declared.batch.Batch.{Batch}
use Rattle.write_set.specs.Journal.{IsBatch, AreBatches}
use Rattle.epoch_inbox.specs.Inbox.{AreOfRegions, AreInOrder, held_of}
use Rattle.epoch_inbox.specs.laws.Held.{held_counted, whole_ordered}
use Rattle.region_core.specs.Region.{Standing, RegionValue, next_epoch, next_batches, inbox_of}
use Rattle.region_core.specs.Lawful.{IsHeldIn, IsStanding, IsRegion}
use Rattle.region_core.specs.laws.Rounds.{few_held}
use Rattle.region_core.proofs.Short.{log_short}

are_batches : (region epoch : ℕ) (batches : List Batch) → AreOfRegions region epoch batches → AllByRecursion (λ b. IsBatch b.region b.epoch b) batches → AreBatches region epoch batches
are_batches region epoch [] of lawful = tt
are_batches region epoch (b ∷ bs) of lawful =
    (subst₂ (λ (r e : ℕ). IsBatch r e b) of.1 of.0 lawful.0, are_batches (region + 1) epoch bs of.2 lawful.1)

-- those of a whole next epoch are one for each region
next_are_batches : (r : Standing) → IsStanding r → length (next_batches r) ≡ r.regions → AreBatches 0 (next_epoch r) (next_batches r)
next_are_batches r h whole = are_batches 0 (next_epoch r) (next_batches r) order.order lawful
  where
    order : AreInOrder (inbox_of r) (next_epoch r) (next_batches r)
    order = whole_ordered (inbox_of r) (next_epoch r) h.places ((held_counted (inbox_of r) (next_epoch r) h.places).all.0 whole)

    lawful : AllByRecursion (λ b. IsBatch b.region b.epoch b) (next_batches r)
    lawful =
        recursion_from_All (λ b. IsBatch b.region b.epoch b) (next_batches r)
        (All-weaker (IsHeldIn r) (λ b. IsBatch b.region b.epoch b) (λ b k. k.fits.fits.lawful) (next_batches r) (All-filter (λ b. next_epoch r == b.epoch) (IsHeldIn r) r.held h.held))

-- there are few of them, and they are those of the epoch
pub record AreGathered (epoch : ℕ) (batches : List Batch) : Type 0 where
  pub few : length batches ≤ MAX_REGIONS
  pub lawful : AreBatches 0 epoch batches

module _ (old value : RegionValue) (h : IsRegion old) (view : old ≡ value) (published : ℕ) (published_is : published ≡ value.standing.published) where
  same_published : published ≡ old.standing.published
  same_published = published_is ∙ ap (λ (r : RegionValue). r.standing.published) (sym view)

  -- the next epoch is one
  pub next_short : published + 1 ≤ LAST_EPOCH
  next_short =
      let short = log_short old.standing.tables old.standing.regions old.standing.number old.standing.log h.stands.log in
      omega (arith, short, same_published, h.stands.sealed)

  -- copies of what is held of it
  pub gathered : (have : ℕ) (copies batches : List Batch) → have ≡ length (held_of old.standing.held (published + 1)) → old.standing.regions ≤ have →
      copies ≡ held_of value.standing.held (published + 1) → batches ≡ copies → AreGathered (published + 1) batches
  gathered have copies batches counted enough copied is = record {
    few = omega (arith, ap length batches_are, whole, h.stands.few);
    lawful = subst₂ (λ (e : ℕ) (bs : List Batch). AreBatches 0 e bs) (sym next_is) (sym batches_are) (next_are_batches old.standing h.stands whole);
  }
    where
      next_is : published + 1 ≡ next_epoch old.standing
      next_is = ap (λ (n : ℕ). n + 1) same_published

      batches_are : batches ≡ next_batches old.standing
      batches_are = is ∙ copied ∙ ap (λ (r : RegionValue). held_of r.standing.held (published + 1)) (sym view) ∙ ap (held_of old.standing.held) next_is

      whole : length (next_batches old.standing) ≡ old.standing.regions
      whole =
          omega (
            arith,
            counted,
            enough,
            ap (λ (n : ℕ). length (held_of old.standing.held n)) next_is,
            few_held old.standing.held (next_epoch old.standing) old.standing.regions,
            (held_counted (inbox_of old.standing) (next_epoch old.standing) h.stands.places).counted,
          )
