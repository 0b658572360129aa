-- Inner: what is noted of pairs that rows got and lost, by which a later horizon is followed without a look at pairs that stay.
use Rattle.std.specs.Prelude.{◌≡◌, ℕ, ◌+◌, ◌<◌, ◌≤◌, Some, List, Contains}
use Rattle.geo_schema.specs.Schemas.{Tables}
use Rattle.page_map.specs.Pairs.{found_at}
use Rattle.index_store.specs.declared.gain.Gain.{Gain}
use Rattle.index_store.specs.declared.pair.IndexPair.{IndexPair}
use Rattle.index_store.specs.Kept.{KeptImages}
use Rattle.index_store.specs.Order.{pair_cmp}
use Rattle.index_store.specs.Pairs.{IsHadAt}

-- the pairs that rows lost in an epoch
pub record Loss : Type 0 where
  pub epoch : ℕ
  pub pairs : List IndexPair

-- the pair is noted as lost in the epoch
pub record IsNoted (losses : List Loss) (lost : IndexPair) (at_epoch : ℕ) : Type 0 where
  pub loss : Loss
  pub among : Contains losses loss
  pub epoch : loss.epoch ≡ at_epoch
  pub pair : Contains loss.pairs lost

-- the row has the pair after an epoch and not after the next
pub record IsLostAfter (tables : Tables) (kept : KeptImages) (pair : IndexPair) (epoch : ℕ) : Type 0 where
  pub had : IsHadAt tables kept pair epoch
  pub gone : ¬ IsHadAt tables kept pair (epoch + 1)

-- the row doesn't have the pair after an epoch and has it after the next
pub record IsGainedAfter (tables : Tables) (kept : KeptImages) (pair : IndexPair) (epoch : ℕ) : Type 0 where
  pub absent : ¬ IsHadAt tables kept pair epoch
  pub has : IsHadAt tables kept pair (epoch + 1)

-- the epoch is the last in which the row got the pair, or one that isn't kept any longer if it has had it in all that are
pub record IsLastGain (tables : Tables) (kept : KeptImages) (pair : IndexPair) (gain : ℕ) : Type 0 where
  pub upto : gain ≤ kept.last
  pub had : kept.first ≤ gain → IsHadAt tables kept pair gain
  pub last : (epoch : ℕ) → kept.first ≤ epoch → epoch < kept.last → IsGainedAfter tables kept pair epoch → epoch + 1 ≤ gain

-- what is noted as lost in an epoch that is kept is what rows didn't have after it
pub record IsLossOf (tables : Tables) (kept : KeptImages) (pair : IndexPair) (epoch : ℕ) : Type 0 where
  pub from : kept.first < epoch
  pub upto : epoch ≤ kept.last
  pub gone : ¬ IsHadAt tables kept pair epoch

-- each pair that a row loses is noted, nothing else is, and each pair stands beside its last gain
pub record AreGainsAndLosses (tables : Tables) (kept : KeptImages) (entries : List (IndexPair × Gain)) (losses : List Loss) : Type 0 where
  pub lost : (pair : IndexPair) (epoch : ℕ) → kept.first ≤ epoch → epoch < kept.last → IsLostAfter tables kept pair epoch → IsNoted losses pair (epoch + 1)
  pub noted : (pair : IndexPair) (epoch : ℕ) → IsNoted losses pair epoch → IsLossOf tables kept pair epoch
  pub gained : (pair : IndexPair) (gain : Gain) → found_at pair_cmp pair entries ≡ Some gain → IsLastGain tables kept pair gain.epoch
