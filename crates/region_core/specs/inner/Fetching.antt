-- Inner: whether bytes spell a batch.
use Rattle.std.specs.Prelude.{Bool, true, false, ℕ, List}
use Rattle.set_codec.specs.Alone.{SpellsBatch}
use Rattle.write_set.specs.declared.batch.Batch.{Batch}
use Rattle.region_core.specs.Region.{Standing}

-- the test says whether the bytes spell the batch
abbrev pub Compares : Standing → List ℕ → Batch → Bool → Type 0
Compares r bytes batch true = SpellsBatch r.tables r.regions bytes batch
Compares r bytes batch false = ¬ (SpellsBatch r.tables r.regions bytes batch)
