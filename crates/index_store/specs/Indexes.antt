-- The index of what is kept: a set of pairs. One pair stands for all the epochs in which its row had it.
use Rattle.std.specs.Prelude.{ℕ, List, Contains}
use Rattle.geo_schema.specs.Schemas.{Tables}
use Rattle.index_store.specs.declared.pair.IndexPair.{IndexPair}
use Rattle.index_store.specs.Kept.{KeptImages, IsKeptEpoch}
use Rattle.index_store.specs.Pairs.{IsHadAt}

-- each pair that a row had after an epoch that is kept is there, and each that is there is one that its row had after such an epoch
pub record IsIndexOf (tables : Tables) (kept : KeptImages) (pairs : List IndexPair) : Type 0 where
  pub each : (pair : IndexPair) (epoch : ℕ) → IsKeptEpoch kept epoch → IsHadAt tables kept pair epoch → Contains pairs pair
  pub only : (pair : IndexPair) → Contains pairs pair → (epoch : ℕ) × IsKeptEpoch kept epoch × IsHadAt tables kept pair epoch
