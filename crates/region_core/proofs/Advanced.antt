-- What the next epoch makes of versions and index, and of the region.
use Rattle.std.proofs.Common.{◌≡◌, ℕ, ◌+◌, ◌-◌, ◌<◌, ◌≤◌, Bool, true, List, [], ◌∷◌, ◌++◌, length, map, refl, sym, ap, ap₂, ◌∙◌, subst, arith}
use Rattle.std.proofs.lemmas.List.{length-map}
use Rattle.geo_base.specs.declared.limits.TheConstants.{MAX_AGE}
use Rattle.geo_base.specs.declared.outcome.Outcome.{Outcome}
use Rattle.geo_schema.specs.Schemas.{Tables}
use Rattle.write_set.specs.declared.batch.Batch.{Batch}
use Rattle.write_set.specs.declared.candidate.Candidate.{Candidate}
use Rattle.write_set.specs.Journal.{Placed, candidates_of}
use Rattle.write_set.specs.Merge.{committed_among, verdict_of}
use Rattle.epoch_inbox.specs.Inbox.{Holding, others}
use Rattle.version_store.specs.History.{Kept, IsKept, IsApplied, IsTrimmed}
use Rattle.index_store.specs.Kept.{KeptImages, IsNextOf, IsRestOf}
use Rattle.index_store.specs.Store.{Stored, IsStoreOf}
use Rattle.snap_view.specs.Snapshots.{images_of}
use Rattle.snap_view.specs.laws.Following.{next_images, rest_images}
use Rattle.region_core.specs.Region.{RegionValue, Standing, next_epoch, next_batches, next_candidates, last_in, horizon_at}
use Rattle.region_core.specs.Entries as entry
use Rattle.region_core.specs.Entries.{after}
use Rattle.region_core.specs.Publishing.{next_outcomes, next_own_outcomes, next_committed, Publishes}
use Rattle.region_core.specs.Lawful.{IsRegion}
use Rattle.region_core.specs.laws.Regions.{makes_region}
use Rattle.region_core.specs.inner.Fields.{seen, AreFields}
use Rattle.region_core.specs.inner.Publishing.{IsAdvance, own_among}
use Rattle.region_core.proofs.OwnOutcomes.{own_of_all}

-- there is an outcome for each candidate of the batches
pub as_many : (r : RegionValue) (batches : List Batch) (outcomes : List Outcome) → batches ≡ next_batches r.standing → outcomes ≡ next_outcomes r → length outcomes ≡ length (candidates_of batches)
as_many r batches outcomes whole judged =
    ap length judged
    ∙ length-map (next_candidates r.standing) (verdict_of (last_in r) (next_epoch r.standing) (next_candidates r.standing))
    ∙ ap (λ (bs : List Batch). length (candidates_of bs)) (sym whole)

-- the outcomes that are told of the region's own candidates are its own outcomes
pub own_are : (r : RegionValue) (region : ℕ) (batches : List Batch) (outcomes own : List Outcome) → region ≡ r.standing.number → batches ≡ next_batches r.standing → outcomes ≡ next_outcomes r →
    own ≡ own_among region (candidates_of batches) outcomes → own ≡ next_own_outcomes r
own_are r region batches outcomes own number whole judged is =
    is
    ∙ ap (λ (n : ℕ). own_among n (candidates_of batches) outcomes) number
    ∙ ap (λ (bs : List Batch). own_among r.standing.number (candidates_of bs) outcomes) whole
    ∙ ap (own_among r.standing.number (next_candidates r.standing)) judged
    ∙ own_of_all r.standing.number (verdict_of (last_in r) (next_epoch r.standing) (next_candidates r.standing)) (next_candidates r.standing)

-- versions that the epoch was applied to
module _ (r : RegionValue) (region : IsRegion r) (index : Stored) (follows : IsStoreOf r.standing.tables (images_of r.versions) index) (batches : List Batch) (outcomes : List Outcome)
    (whole : batches ≡ next_batches r.standing) (judged : outcomes ≡ next_outcomes r) (base grown : Kept) (fork : base ≡ r.versions)
    (applied : IsApplied (committed_among (candidates_of batches) outcomes) base grown) (order : IsKept grown) where
  next_applied : IsApplied (next_committed r) r.versions grown
  next_applied =
      subst (λ (k : Kept). IsApplied (next_committed r) k grown) fork
      (subst (λ (cs : List Placed). IsApplied cs base grown) (ap₂ (λ (bs : List Batch) (os : List Outcome). committed_among (candidates_of bs) os) whole judged) applied)

  -- the first epoch that they keep is before the last
  pub some_before : grown.horizon < grown.applied
  some_before = omega (arith, next_applied.horizon, next_applied.applied, region.kept.within)

  pub upto_applied : horizon_at (next_epoch r.standing) ≤ grown.applied
  upto_applied = omega (arith, next_applied.applied, region.applied)

  pub from_horizon : grown.horizon ≤ horizon_at (next_epoch r.standing)
  from_horizon = omega (arith, next_applied.horizon, region.horizon)

  module _ (tables : Tables) (same : tables ≡ r.standing.tables) (base_index grown_index : Stored) (index_fork : base_index ≡ index)
      (index_applied : (kept : KeptImages) → IsStoreOf tables kept base_index → IsNextOf (committed_among (candidates_of batches) outcomes) kept (images_of grown) → IsStoreOf tables (images_of grown) grown_index) where
    grown_follows : IsStoreOf r.standing.tables (images_of grown) grown_index
    grown_follows =
        subst (λ (t : Tables). IsStoreOf t (images_of grown) grown_index) same
        (index_applied (images_of r.versions)
        (subst (λ (s : Stored). IsStoreOf tables (images_of r.versions) s) (sym index_fork) (subst (λ (t : Tables). IsStoreOf t (images_of r.versions) index) (sym same) follows))
        (subst (λ (cs : List Placed). IsNextOf cs (images_of r.versions) (images_of grown)) (sym (ap₂ (λ (bs : List Batch) (os : List Outcome). committed_among (candidates_of bs) os) whole judged))
        (next_images (next_committed r) r.versions grown region.kept order next_applied)))

    -- and then the horizon was moved, and the index followed
    pub advanced : (horizon : ℕ) (versions : Kept) (left : Stored) → horizon ≡ horizon_at (next_epoch r.standing) → IsTrimmed horizon grown versions → IsKept versions →
        ((of : Tables) (kept : KeptImages) → IsStoreOf of kept grown_index → IsRestOf kept (images_of versions) → IsStoreOf of (images_of versions) left) → IsAdvance r versions left
    advanced horizon versions left at trimmed kept index_trimmed =
        let moved : IsTrimmed (horizon_at (next_epoch r.standing)) grown versions = subst (λ (n : ℕ). IsTrimmed n grown versions) at trimmed in record {
          grown = grown;
          applied = next_applied;
          trimmed = moved;
          kept = kept;
          follows = index_trimmed r.standing.tables (images_of grown) grown_follows (rest_images (horizon_at (next_epoch r.standing)) grown versions kept from_horizon moved);
        }

-- the region that the publication leaves
module _ (number regions : ℕ) (tables : Tables) (last : ℕ) (up : Bool) (life : ℕ) (log : List Batch) (open_candidates : List Candidate) (held : List Batch) (versions : Kept) (outcomes : List (List Outcome)) where
  abbrev before : RegionValue
  before = seen number regions tables last up life log open_candidates held versions outcomes

  pub publishes : (index : Stored) (grown : Kept) (left : List Batch) (own : List Outcome) (more : List (List Outcome)) → IsRegion before → IsAdvance before grown index → left ≡ others held (next_epoch before.standing) →
      own ≡ next_own_outcomes before → more ≡ outcomes ++ own ∷ [] → Publishes before (seen number regions tables last up life log open_candidates left grown more)
  publishes index grown left own more region advance gone is pushed = record {
    standing = ap₂ (λ (hs : List Batch) (n : ℕ). record before.standing { held = hs; published = n }) gone (advance.trimmed.applied ∙ advance.applied.applied ∙ ap (λ (n : ℕ). n + 1) region.applied);
    grown = advance.grown;
    applied = advance.applied;
    trimmed = advance.trimmed;
    kept = advance.kept;
    outcomes = pushed ∙ ap (λ (own : List Outcome). outcomes ++ own ∷ []) is;
  }

  pub leaves : (size : ℕ) (inbox rest : Holding) (index grown_index : Stored) (grown : Kept) (own : List Outcome) (more : List (List Outcome)) → held ≡ inbox.held → AreFields size inbox index before → up ≡ true →
      length (next_batches before.standing) ≡ regions → IsAdvance before grown grown_index → rest ≡ record { regions = inbox.regions; held = others inbox.held (next_epoch before.standing) } →
      own ≡ next_own_outcomes before → more ≡ outcomes ++ own ∷ [] → AreFields size rest grown_index (seen number regions tables last up life log open_candidates rest.held grown more)
  leaves size inbox rest index grown_index grown own more is fields is_up whole advance dropped of pushed = record {
    lawful = makes_region before (seen number regions tables last up life log open_candidates rest.held grown more) (entry.Publish (next_epoch before.standing)) fields.lawful (is_up, refl, whole)
        (refl, publishes grown_index grown rest.held own more fields.lawful advance (ap (λ (h : Holding). h.held) dropped ∙ ap (λ (hs : List Batch). others hs (next_epoch before.standing)) (sym is)) of pushed);
    counted = fields.counted;
    inbox_regions = ap (λ (h : Holding). h.regions) dropped ∙ fields.inbox_regions;
    follows = advance.follows;
  }
