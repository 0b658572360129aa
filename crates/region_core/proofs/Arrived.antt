-- What a region is after a batch came.
use Rattle.std.proofs.Common.{◌≡◌, ℕ, true, List, refl, sym, ap, ◌∙◌, subst}
use Rattle.write_set.specs.declared.batch.Batch.{Batch}
use Rattle.epoch_inbox.specs.declared.arrival.Arrival.{Arrival}
use Rattle.epoch_inbox.specs.declared.arrival.Arrival.TheVariants as arrival
use Rattle.epoch_inbox.specs.Inbox.{Holding, after_arrival, arrival_of, with_batch}
use Rattle.index_store.specs.Store.{Stored}
use Rattle.region_core.specs.Region.{RegionValue, with_standing}
use Rattle.region_core.specs.Entries.{Arrive, after}
use Rattle.region_core.specs.Lawful.{IsRegion, IsFromAnother}
use Rattle.region_core.specs.inner.Fields.{AreFields}
use Rattle.region_core.specs.laws.Regions.{makes_region}

-- the region with other batches held
abbrev pub holding : List Batch → RegionValue → RegionValue
holding held r = with_standing (record r.standing { held = held }) r

-- the fields, where the batch was new, known or far
pub come_in : (size published : ℕ) (inbox new : Holding) (index : Stored) (old value : RegionValue) (batch : Batch) (came : Arrival) → AreFields size inbox index old → old ≡ value →
    inbox.held ≡ old.standing.held → published ≡ value.standing.published → old.standing.up ≡ true → IsFromAnother value.standing batch →
    came ≡ arrival_of inbox.held published batch → new ≡ after_arrival inbox batch came → AreFields size new index (holding new.held old)
come_in size published inbox new index old value batch came fields view held published_is up another is left = by came is left
  where
    same_published : published ≡ old.standing.published
    same_published = published_is ∙ ap (λ (r : RegionValue). r.standing.published) (sym view)

    stays : new ≡ inbox → AreFields size new index (holding new.held old)
    stays same =
        subst (λ (i : Holding). AreFields size i index (holding i.held old)) (sym same)
        (subst (λ (h : List Batch). AreFields size inbox index (holding h old)) (sym held) fields)

    by : (a : Arrival) → a ≡ arrival_of inbox.held published batch → new ≡ after_arrival inbox batch a → AreFields size new index (holding new.held old)
    by arrival.New here there = record {
      lawful = subst (λ (h : List Batch). IsRegion (holding h old)) (sym (ap (λ (i : Holding). i.held) there ∙ ap (λ (h : List Batch). with_batch h batch) held))
          (makes_region old (with_standing (after (Arrive batch) old.standing) old) (Arrive batch) fields.lawful (
            up,
            subst (λ (r : RegionValue). IsFromAnother r.standing batch) (sym view) another,
            sym (here ∙ (λ i. arrival_of (held i) (same_published i) batch)),
          ) refl);
      counted = fields.counted;
      inbox_regions = ap (λ (i : Holding). i.regions) there ∙ fields.inbox_regions;
      follows = fields.follows;
    }
    by arrival.Known here there = stays there
    by (arrival.Far limit) here there = stays there
