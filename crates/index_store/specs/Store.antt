-- What a store of indexes holds.
use Rattle.std.specs.Prelude.{List}
use Rattle.std.specs.Map.{keys_of}
use Rattle.geo_schema.specs.Schemas.{Tables}
use Rattle.index_store.specs.declared.gain.Gain.{Gain}
use Rattle.index_store.specs.declared.pair.IndexPair.{IndexPair}
use Rattle.index_store.specs.Indexes.{IsIndexOf}
use Rattle.index_store.specs.Kept.{KeptImages}
use Rattle.index_store.specs.inner.GainsAndLosses.{Loss, AreGainsAndLosses}

-- the pairs, each with the last epoch in which its row got it, and those that rows lost in each epoch, as they are noted
pub record Stored : Type 0 where
  pub entries : List (IndexPair × Gain)
  pub losses : List Loss

-- the pairs of the store
abbrev pub pairs_of : Stored → List IndexPair
pairs_of store = keys_of store.entries

-- the store is that of what is kept: its pairs are the index of it, and what is noted tells which of them a later horizon leaves
pub record IsStoreOf (tables : Tables) (kept : KeptImages) (store : Stored) : Type 0 where
  pub index : IsIndexOf tables kept (pairs_of store)
  pub notes : AreGainsAndLosses tables kept store.entries store.losses
