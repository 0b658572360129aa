-- What is written is read back.
use Rattle.std.proofs.Common.{ℕ, ◌<◌}
use Rattle.std.specs.Prelude.{All}
use Rattle.geo_schema.specs.Schemas.{Tables}
use Rattle.write_set.specs.declared.batch.Batch.{Batch}
use Rattle.set_codec.specs.declared.format.Format.TheVariants.{Ggb2}
use Rattle.set_codec.specs.Alone.{SpellsBatch}
use Rattle.set_codec.specs.Fits.{FitsSchema, HaveCells}
use Rattle.set_codec.specs.Spelling.{batch_spelling}
use Rattle.set_codec.specs.laws.Batches.{batch_spellings}

-- the spelling of a batch that fits, and has cells of the program, spells it among so many regions
pub spelled_alone : (tables : Tables) (batch : Batch) → FitsSchema tables batch → All HaveCells batch.items →
    (regions : ℕ) → batch.region < regions → SpellsBatch tables regions (batch_spelling Ggb2 tables batch) batch
spelled_alone tables batch fits cells regions here = (record { here = here; fits = fits; cells = cells }, (batch_spellings tables batch).newer)
