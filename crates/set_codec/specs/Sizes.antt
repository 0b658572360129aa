-- Sizes are counted without bytes, and are the lengths of spellings: a batch has as many bytes in one format as in the other.
use Rattle.std.specs.Prelude.{◌≡◌, ℕ, List, length, min, All}
use Rattle.geo_schema.specs.Schemas.{Tables, IsSchema}
use Rattle.write_set.specs.declared.batch.Batch.{Batch}
use Rattle.write_set.specs.Sets.{ChangeOfRow}
use Rattle.write_set.specs.BatchSizes.{batch_size}
use Rattle.write_set.specs.Sizes.{set_size}
use Rattle.set_codec.specs.declared.format.Format.{Format}
use Rattle.set_codec.specs.declared.format.Format.TheVariants as format
use Rattle.set_codec.specs.Fits.{FitsTable}
use Rattle.set_codec.specs.Spelling.{changes_spelling, batch_spelling}

-- so many bytes are in the GGB2 spelling of the batch, whatever schema its changes fit; or more than the greatest number
abbrev pub CountsBytes : ℕ → Batch → ℕ → Type 0
CountsBytes greatest batch size = (tables : Tables) → IsSchema tables → All (λ c. All (FitsTable tables) c.set) batch.items → size ≡ min (length (batch_spelling format.Ggb2 tables batch)) greatest

-- the size of a batch is the number of bytes of its spelling in each format, whatever schema its changes fit
abbrev pub SizeIsLength : Type 0
SizeIsLength = (format : Format) (tables : Tables) (batch : Batch) → IsSchema tables → All (λ c. All (FitsTable tables) c.set) batch.items → length (batch_spelling format tables batch) ≡ batch_size batch.items

-- the size of a set's changes is the number of bytes of their spellings, whatever schema they fit
abbrev pub SetSizeIsLength : Type 0
SetSizeIsLength = (tables : Tables) (changes : List ChangeOfRow) → IsSchema tables → All (FitsTable tables) changes → length (changes_spelling tables changes) ≡ set_size changes
